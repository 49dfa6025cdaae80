-- Who stops the machine, and that it is finished then.
use Rattle.std.proofs.Common.{◌≡◌, ℕ, ◌+◌, Bool, true, false, List, length, Option, Some, None, refl, sym, ap, ◌∙◌}
use Rattle.std.specs.Prelude.{slice_get, not, ◌==◌, ◌&&◌, option_map, option_and_then, if◌then◌else◌}
use Rattle.be_facts.proofs.Truths.{and_first, and_second}
use Rattle.be_actor.specs.declared.Wish.{Wish}
use Rattle.be_actor.specs.declared.Wish.TheVariants as wish
use Rattle.be_command.specs.Effects.{effect_of}
use Rattle.be_link.specs.Queues.{Numbered, Buffer, is_full, fits}
use Rattle.be_looper.specs.Duties.{Hand, ReplyAnswer, reaches, is_second, is_unwanted, reply_answer, EndTelling, nobody, no_reply, not_understood, end_telling}
use Rattle.be_message.specs.Messages.{Message}
use Rattle.be_port.specs.Ports.{Port, judged, front}
use Rattle.be_script.specs.declared.InputLine.{InputLine}
use Rattle.be_script.specs.declared.InputLine.TheVariants as line
use Rattle.be_script.specs.Script.{Declared}
use Rattle.be_update.specs.Sessions.{is_any}
use Rattle.be_machine.specs.Activities.{Runner}
use Rattle.be_machine.specs.Windows.{dirty_of}
use Rattle.be_machine.specs.Closing.{all_done, all_quiet, stop_act, stopped}
use Rattle.be_machine.specs.Commands.{draw_act, flush_act, sync_act, effect_outcome}
use Rattle.be_machine.specs.declared.Act.{Act}
use Rattle.be_machine.specs.declared.Act.TheVariants as act
use Rattle.be_machine.specs.declared.Entry.{Entry}
use Rattle.be_machine.specs.Input.{event_act}
use Rattle.be_machine.specs.Legal.{wish_act, want_act, IsLegal}
use Rattle.be_machine.specs.Lists.{with_both}
use Rattle.be_machine.specs.Looper.{lock_act, kind_of_reply, reply_for, answer_of, end_of, end_act}
use Rattle.be_machine.specs.Port.{post_act, take_act}
use Rattle.be_machine.specs.Program.{window_of, hop_of, hand_of, hand_at, has_ended}
use Rattle.be_machine.specs.State.{State, Looper, free, locked, handling}
use Rattle.be_machine.specs.Step.{met, step}
use Rattle.be_machine.specs.Wants.{Want, asks, takes, begins, flushes, draws_end, ends, notifies, executes, uses, stops}
use Rattle.be_machine.proofs.LegalEntries.{IsMet, met_by}
use Rattle.be_machine.proofs.ProgressBeside.{beside_event}
use Rattle.be_machine.proofs.ProgressParts.{same_met}

-- ---- what Stop tells

-- the machine stops where it hasn't, everybody is done and all is quiet
pub record Stops (d : Declared) (s : State) (a : Act) : Type 0 where
  pub stop : a ≡ act.Stop
  pub done : all_done d s ≡ true
  pub quiet : all_quiet s ≡ true

stop_by : (d : Declared) (s : State) (a : Act) (b : Bool) → (not s.stopped && all_done d s && all_quiet s) ≡ b → (if b then Some act.Stop else None) ≡ Some a → Stops d s a
stop_by d s a true is e =
    let two : (not s.stopped && all_done d s) ≡ true = and_first (not s.stopped && all_done d s) (all_quiet s) is in
    let same : act.Stop ≡ a = cc in
    record { stop = sym same; done = and_second (not s.stopped) (all_done d s) two; quiet = and_second (not s.stopped && all_done d s) (all_quiet s) is }
stop_by d s a false is e = cc

stop_tells : (d : Declared) (s : State) (a : Act) → stop_act d s ≡ Some a → Stops d s a
stop_tells d s a e = stop_by d s a (not s.stopped && all_done d s && all_quiet s) refl e

-- ---- no other want stops the machine

pub stops_alone : (d : Declared) (s : State) (want : Want) → s.stopped ≡ false → (met d s want).stopped ≡ true → want ≡ stops
unfolding met
stops_alone d s (asks who x) runs e = let same : (met d s (asks who x)).stopped ≡ s.stopped = (same_met d s (asks who x) refl).stopped in let no : true ≡ false = sym e ∙ same ∙ runs in cc
stops_alone d s (takes w) runs e = let same : (met d s (takes w)).stopped ≡ s.stopped = (same_met d s (takes w) refl).stopped in let no : true ≡ false = sym e ∙ same ∙ runs in cc
stops_alone d s (begins w) runs e = let same : (met d s (begins w)).stopped ≡ s.stopped = (same_met d s (begins w) refl).stopped in let no : true ≡ false = sym e ∙ same ∙ runs in cc
stops_alone d s (flushes w) runs e = let same : (met d s (flushes w)).stopped ≡ s.stopped = (same_met d s (flushes w) refl).stopped in let no : true ≡ false = sym e ∙ same ∙ runs in cc
stops_alone d s (draws_end w) runs e = let same : (met d s (draws_end w)).stopped ≡ s.stopped = (same_met d s (draws_end w) refl).stopped in let no : true ≡ false = sym e ∙ same ∙ runs in cc
stops_alone d s (ends w) runs e = let same : (met d s (ends w)).stopped ≡ s.stopped = (same_met d s (ends w) refl).stopped in let no : true ≡ false = sym e ∙ same ∙ runs in cc
stops_alone d s (notifies w) runs e = let same : (met d s (notifies w)).stopped ≡ s.stopped = (same_met d s (notifies w) refl).stopped in let no : true ≡ false = sym e ∙ same ∙ runs in cc
stops_alone d s (executes w) runs e = let same : (met d s (executes w)).stopped ≡ s.stopped = (same_met d s (executes w) refl).stopped in let no : true ≡ false = sym e ∙ same ∙ runs in cc
stops_alone d s (uses x) runs e = let same : (met d s (uses x)).stopped ≡ s.stopped = (beside_event s x).stopped in let no : true ≡ false = sym e ∙ same ∙ runs in cc
stops_alone d s stops runs e = refl

-- ---- no other want has Stop as its act

abbrev Never : Option Act → Type 0
Never o = o ≡ Some act.Stop → ⊥

never_map : {X : Type 0} (f : X → Act) (o : Option X) → ((x : X) → Never (Some (f x))) → Never (option_map f o)
never_map f (Some x) h e = h x e
never_map f None h e = cc

never_then : {X : Type 0} (f : X → Option Act) (o : Option X) → ((x : X) → Never (f x)) → Never (option_and_then f o)
never_then f (Some x) h e = h x e
never_then f None h e = cc

never_both : {X Y : Type 0} (f : X → Y → Option Act) (o : Option X) (p : Option Y) → ((x : X) (y : Y) → Never (f x y)) → Never (with_both f o p)
never_both f (Some x) (Some y) h e = h x y e
never_both f (Some x) None h e = cc
never_both f None p h e = cc

never_if : (b : Bool) (x y : Option Act) → Never x → Never y → Never (if b then x else y)
never_if true x y h k e = h e
never_if false x y h k e = k e

never_answer : (r : ReplyAnswer) → Never (Some (answer_of r))
never_answer (reaches m) e = cc
never_answer is_second e = cc
never_answer is_unwanted e = cc

never_lock : (w : ℕ) (l : Looper) → Never (lock_act w l)
never_lock w free e = cc
never_lock w (locked m) e = cc
never_lock w (handling hand stage) e = cc

never_take : (l : Looper) (p : Port Message) → Never (take_act l p)
never_take free p e = never_map (λ letter. act.Take (p.taken + 1)) (front p) (λ letter h. cc) e
never_take (locked m) p e = cc
never_take (handling hand stage) p e = cc

never_end : (t : EndTelling) → Never (Some (end_of t))
never_end nobody e = cc
never_end (no_reply m) e = cc
never_end (not_understood m) e = cc

never_post : (s : State) (w hop : ℕ) → Never (post_act s w hop)
never_post s w hop e = never_map (λ (p : Port Message). act.Post w (judged p hop)) (slice_get s.ports w) (λ p h. cc) e

never_flush : (s : State) (w : ℕ) → Never (flush_act s w)
never_flush s w e = never_both (λ (b : Buffer) (link : List Numbered). if fits b link then Some (act.Flush w (length b.commands)) else None) (slice_get s.buffers w) (slice_get s.links w) (λ b link. never_if (fits b link) _ None (λ h. cc) (λ h. cc)) e

never_draw : (s : State) (w : ℕ) → Never (draw_act s w)
never_draw s w e = never_then (λ (b : Buffer). if is_full b then None else Some (act.Draw w (b.made + 1))) (slice_get s.buffers w) (λ b. never_if (is_full b) None _ (λ h. cc) (λ h. cc)) e

never_sync : (s : State) (w : ℕ) → Never (sync_act s w)
never_sync s w e = never_then (λ (link : List Numbered). if length link == 0 then Some (act.SyncDone w) else None) (slice_get s.links w) (λ link. never_if (length link == 0) _ None (λ h. cc) (λ h. cc)) e

never_wish : (s : State) (who : Runner) (x : Wish) → Never (wish_act s who x)
unfolding wish_act
never_wish s who (wish.Note word) e = cc
never_wish s who (wish.Post w target message) e = never_post s w (hop_of s who) e
never_wish s who (wish.Send w target message) e = never_post s w (hop_of s who) e
never_wish s who (wish.Forward w target) e = never_post s w (hop_of s who) e
never_wish s who (wish.Reply message) e = never_map (λ (hand : Hand Message). answer_of (reply_answer hand.duty)) (hand_of s who) (λ hand. never_answer (reply_answer hand.duty)) e
never_wish s who wish.Claim e = never_map (λ m. act.Claim (kind_of_reply m)) (reply_for s who) (λ m h. cc) e
never_wish s who (wish.Lock w) e = never_then (lock_act w) (slice_get s.loopers w) (never_lock w) e
never_wish s who wish.Unlock e = never_then (λ w. Some (act.Unlock w)) (window_of s who) (λ w h. cc) e
never_wish s who wish.Flush e = never_then (flush_act s) (window_of s who) (never_flush s) e
never_wish s who wish.SyncDone e = never_then (sync_act s) (window_of s who) (never_sync s) e
never_wish s who (wish.Draw command) e = never_then (draw_act s) (window_of s who) (never_draw s) e

never_event : (d : Declared) (s : State) (x : InputLine) → Never (event_act d s x)
never_event d s (line.Press p) e = cc
never_event d s (line.Release p) e = cc
never_event d s (line.Move p) e = cc
never_event d s (line.Key key) e = cc
never_event d s (line.After m) e = never_if (has_ended d s m) (Some (act.Event (s.events + 1) None None)) None (λ h. cc) (λ h. cc) e

stop_alone : (d : Declared) (s : State) (want : Want) → want_act d s want ≡ Some act.Stop → want ≡ stops
unfolding want_act
stop_alone d s (asks who x) e = absurd (never_wish s who x e)
stop_alone d s (takes w) e = absurd (never_both take_act (slice_get s.loopers w) (slice_get s.ports w) never_take e)
stop_alone d s (begins w) e = absurd (never_then (λ (link : List Numbered). if length link == 0 then Some (act.Begin (is_any (dirty_of s w))) else None) (slice_get s.links w) (λ link. never_if (length link == 0) _ None (λ h. cc) (λ h. cc)) e)
stop_alone d s (flushes w) e = absurd (never_flush s w e)
stop_alone d s (draws_end w) e = absurd (never_draw s w e)
stop_alone d s (ends w) e = absurd (never_map end_act (hand_at s w) (λ hand. never_end (end_telling hand.duty hand.route)) e)
stop_alone d s (notifies w) e = absurd (never_map (λ (p : Port Message). act.Notify (length p.arrived + 1)) (slice_get s.ports w) (λ p h. cc) e)
stop_alone d s (executes w) e = absurd (never_both (λ pane (c : Numbered). Some (act.Exec c.number (effect_outcome d.pictures s w (effect_of c.command) pane))) (slice_get s.panes w) (option_and_then (λ (link : List Numbered). slice_get link 0) (slice_get s.links w)) (λ pane c h. cc) e)
stop_alone d s (uses x) e = absurd (never_event d s x e)
stop_alone d s stops e = refl

-- ---- a legal entry that stops the machine

pub record IsTheEnd (d : Declared) (s : State) (e : Entry) : Type 0 where
  pub tells : Stops d s e.act
  pub after : step d s e ≡ stopped s

the_end : (d : Declared) (s : State) (e : Entry) (want : Want) → want ≡ stops → want_act d s want ≡ Some e.act → step d s e ≡ met d s want → IsTheEnd d s e
unfolding met want_act
the_end d s e want is granted stepped = record {
  tells = stop_tells d s e.act (ap (want_act d s) (sym is) ∙ granted);
  after = stepped ∙ ap (met d s) is;
}

-- by the state behind it
pub end_by_state : (d : Declared) (s : State) (e : Entry) → IsLegal d s e → s.stopped ≡ false → (step d s e).stopped ≡ true → IsTheEnd d s e
end_by_state d s e legal runs stops_after =
    let is : IsMet d s e = met_by d s e legal in
    the_end d s e is.want (stops_alone d s is.want runs (sym (ap (λ (t : State). t.stopped) is.stepped) ∙ stops_after)) is.granted is.stepped

-- by its act
pub end_by_act : (d : Declared) (s : State) (e : Entry) → IsLegal d s e → e.act ≡ act.Stop → IsTheEnd d s e
end_by_act d s e legal stop =
    let is : IsMet d s e = met_by d s e legal in
    the_end d s e is.want (stop_alone d s is.want (is.granted ∙ ap Some stop)) is.granted is.stepped
