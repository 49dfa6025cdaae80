-- Only the closing activity stops, and only where all has come to rest.
use Rattle.std.proofs.Common.{◌≡◌, ℕ, ◌+◌, Bool, true, false, List, length, Option, Some, None, refl, ap, subst, ◌∙◌}
use Rattle.std.specs.Prelude.{slice_get, ◌==◌, option_map, option_and_then, if◌then◌else◌}
use Rattle.be_actor.specs.declared.Wish.{Wish}
use Rattle.be_actor.specs.declared.Wish.TheVariants as wish
use Rattle.be_command.specs.Effects.{effect_of}
use Rattle.be_link.specs.Queues.{Numbered, Buffer, is_full, fits}
use Rattle.be_looper.specs.Duties.{Hand, reply_answer, end_telling, EndTelling, nobody, no_reply, not_understood}
use Rattle.be_message.specs.Messages.{Message}
use Rattle.be_pane.specs.Panes.{Pane}
use Rattle.be_port.specs.declared.Duty.{Duty}
use Rattle.be_port.specs.declared.Duty.TheVariants as duty
use Rattle.be_port.specs.Ports.{Letter, Port, judged, front}
use Rattle.be_script.specs.Script.{Declared}
use Rattle.be_machine.specs.Activities.{Runner}
use Rattle.be_machine.specs.Commands.{draw_act, flush_act, sync_act, exec_act, effect_outcome}
use Rattle.be_machine.specs.declared.Act.{Act}
use Rattle.be_machine.specs.declared.Act.TheVariants as act
use Rattle.be_machine.specs.Legal.{wish_act, want_act}
use Rattle.be_machine.specs.Looper.{lock_act, answer_of, end_act, end_of}
use Rattle.be_machine.specs.Port.{post_act, take_act}
use Rattle.be_machine.specs.Program.{window_of, hop_of, hand_at, hand_of}
use Rattle.be_machine.specs.State.{State, Looper, free, locked, handling}
use Rattle.be_machine.specs.Step.{met}
use Rattle.be_script.specs.declared.InputLine.{InputLine}
use Rattle.be_script.specs.declared.InputLine.TheVariants as line
use Rattle.be_machine.specs.Closing.{stop_act, stopped, all_done, all_quiet}
use Rattle.be_machine.specs.declared.Entry.{Entry}
use Rattle.be_machine.specs.Input.{event_act}
use Rattle.be_machine.specs.Legal.{IsLegal}
use Rattle.be_machine.specs.Program.{has_ended}
use Rattle.be_machine.specs.Step.{step}
use Rattle.be_machine.specs.Wants.{Want, asks, takes, begins, flushes, draws_end, ends, notifies, executes, uses, stops}
use Rattle.be_machine.specs.Windows.{dirty_of}
use Rattle.be_update.specs.Sessions.{is_any}
use Rattle.std.specs.Prelude.{not, ◌&&◌}
use Rattle.be_machine.specs.Looper.{reply_for, kind_of_reply}
use Rattle.be_machine.proofs.Found.{IsMapped, mapped, IsChained, chained, IsJoined, joined, IsTested, tested, untested}
use Rattle.be_machine.proofs.LegalEntries.{IsMet, met_by}

not_mapped : {X : Type 0} (f : X → Act) (o : Option X) → ((x : X) → f x ≡ act.Stop → ⊥) → option_map f o ≡ Some act.Stop → ⊥
not_mapped f o other e = let at : IsMapped f o act.Stop = mapped f o act.Stop e in other at.from at.is

not_chained : {X : Type 0} (f : X → Option Act) (o : Option X) → ((x : X) → f x ≡ Some act.Stop → ⊥) → option_and_then f o ≡ Some act.Stop → ⊥
not_chained f o other e = let at : IsChained f o act.Stop = chained f o act.Stop e in other at.from at.is

not_tested : (b : Bool) (a : Act) → (a ≡ act.Stop → ⊥) → (if b then Some a else None) ≡ Some act.Stop → ⊥
not_tested b a other e = let at : IsTested b a act.Stop = tested b a act.Stop e in other at.is

not_untested : (b : Bool) (a : Act) → (a ≡ act.Stop → ⊥) → (if b then None else Some a) ≡ Some act.Stop → ⊥
not_untested b a other e = let at : (b ≡ false) × (a ≡ act.Stop) = untested b a act.Stop e in other at.1

no_post : (s : State) (v hop : ℕ) → post_act s v hop ≡ Some act.Stop → ⊥
no_post s v hop e = not_mapped (λ (p : Port Message). act.Post v (judged p hop)) (slice_get s.ports v) (λ p h. cc) e

no_flush : (s : State) (v : ℕ) → flush_act s v ≡ Some act.Stop → ⊥
no_flush s v e =
    let at : IsJoined (λ b link. if fits b link then Some (act.Flush v (length b.commands)) else None) (slice_get s.buffers v) (slice_get s.links v) act.Stop =
    joined (λ (b : Buffer) (link : List Numbered). if fits b link then Some (act.Flush v (length b.commands)) else None) (slice_get s.buffers v) (slice_get s.links v) act.Stop e in
    not_tested (fits at.first at.second) (act.Flush v (length at.first.commands)) (λ h. cc) at.is

no_sync : (s : State) (v : ℕ) → sync_act s v ≡ Some act.Stop → ⊥
no_sync s v e = not_chained (λ (link : List Numbered). if length link == 0 then Some (act.SyncDone v) else None) (slice_get s.links v) (λ link h. not_tested (length link == 0) (act.SyncDone v) (λ k. cc) h) e

no_draw : (s : State) (v : ℕ) → draw_act s v ≡ Some act.Stop → ⊥
no_draw s v e = not_chained (λ (b : Buffer). if is_full b then None else Some (act.Draw v (b.made + 1))) (slice_get s.buffers v) (λ b h. not_untested (is_full b) (act.Draw v (b.made + 1)) (λ k. cc) h) e

no_lock : (v : ℕ) (l : Looper) → lock_act v l ≡ Some act.Stop → ⊥
no_lock v free e = cc
no_lock v (locked m) e = cc
no_lock v (handling hand g) e = cc

no_answer : (x : Duty) → answer_of (reply_answer x) ≡ act.Stop → ⊥
no_answer (duty.Owed m) e = cc
no_answer duty.Done e = cc
no_answer duty.Free e = cc

no_wish : (s : State) (who : Runner) (x : Wish) → wish_act s who x ≡ Some act.Stop → ⊥
unfolding wish_act
no_wish s who (wish.Note word) e = cc
no_wish s who (wish.Post v target message) e = no_post s v (hop_of s who) e
no_wish s who (wish.Send v target message) e = no_post s v (hop_of s who) e
no_wish s who (wish.Forward v target) e = no_post s v (hop_of s who) e
no_wish s who (wish.Reply message) e = not_mapped (λ (hand : Hand Message). answer_of (reply_answer hand.duty)) (hand_of s who) (λ hand h. no_answer hand.duty h) e
no_wish s who wish.Claim e = not_mapped (λ (m : Message). act.Claim (kind_of_reply m)) (reply_for s who) (λ m h. cc) e
no_wish s who (wish.Lock v) e = not_chained (lock_act v) (slice_get s.loopers v) (no_lock v) e
no_wish s who wish.Unlock e = not_chained (λ v. Some (act.Unlock v)) (window_of s who) (λ v h. cc) e
no_wish s who wish.Flush e = not_chained (flush_act s) (window_of s who) (no_flush s) e
no_wish s who wish.SyncDone e = not_chained (sync_act s) (window_of s who) (no_sync s) e
no_wish s who (wish.Draw c) e = not_chained (draw_act s) (window_of s who) (no_draw s) e

no_take : (l : Looper) (p : Port Message) → take_act l p ≡ Some act.Stop → ⊥
no_take free p e = not_mapped (λ (x : Letter Message). act.Take (p.taken + 1)) (front p) (λ x h. cc) e
no_take (locked m) p e = cc
no_take (handling hand g) p e = cc

no_end : (x : EndTelling) → end_of x ≡ act.Stop → ⊥
no_end nobody e = cc
no_end (no_reply m) e = cc
no_end (not_understood m) e = cc

no_event : (d : Declared) (s : State) (x : InputLine) → event_act d s x ≡ Some act.Stop → ⊥
no_event d s (line.Press p) e = cc
no_event d s (line.Release p) e = cc
no_event d s (line.Move p) e = cc
no_event d s (line.Key key) e = cc
no_event d s (line.After m) e = not_tested (has_ended d s m) (act.Event (s.events + 1) None None) (λ h. cc) e

no_exec : (d : Declared) (s : State) (v : ℕ) → exec_act d s v ≡ Some act.Stop → ⊥
no_exec d s v e =
    let at : IsJoined (λ pane c. Some (act.Exec c.number (effect_outcome d.pictures s v (effect_of c.command) pane))) (slice_get s.panes v) (option_and_then (λ link. slice_get link 0) (slice_get s.links v)) act.Stop =
    joined (λ (pane : Pane) (c : Numbered). Some (act.Exec c.number (effect_outcome d.pictures s v (effect_of c.command) pane))) (slice_get s.panes v) (option_and_then (λ link. slice_get link 0) (slice_get s.links v)) act.Stop e in
    let is : Some (act.Exec at.second.number (effect_outcome d.pictures s v (effect_of at.second.command) at.first)) ≡ Some act.Stop = at.is in
    cc

-- only one want is met by stopping
stops_by : (d : Declared) (s : State) (want : Want) → want_act d s want ≡ Some act.Stop → want ≡ stops
unfolding want_act
stops_by d s (asks who x) e = absurd (no_wish s who x e)
stops_by d s (takes v) e =
    let at : IsJoined take_act (slice_get s.loopers v) (slice_get s.ports v) act.Stop = joined take_act (slice_get s.loopers v) (slice_get s.ports v) act.Stop e in
    absurd (no_take at.first at.second at.is)
stops_by d s (begins v) e = absurd (not_chained (λ (link : List Numbered). if length link == 0 then Some (act.Begin (is_any (dirty_of s v))) else None) (slice_get s.links v) (λ link h. not_tested (length link == 0) (act.Begin (is_any (dirty_of s v))) (λ k. cc) h) e)
stops_by d s (flushes v) e = absurd (no_flush s v e)
stops_by d s (draws_end v) e = absurd (no_draw s v e)
stops_by d s (ends v) e = absurd (not_mapped end_act (hand_at s v) (λ hand h. no_end (end_telling hand.duty hand.route) h) e)
stops_by d s (notifies v) e = absurd (not_mapped (λ (p : Port Message). act.Notify (length p.arrived + 1)) (slice_get s.ports v) (λ p h. cc) e)
stops_by d s (executes v) e = absurd (no_exec d s v e)
stops_by d s (uses x) e = absurd (no_event d s x e)
stops_by d s stops e = refl

-- all has come to rest, and is as it was but that it has stopped
pub record IsAtRest (d : Declared) (s : State) (e : Entry) : Type 0 where
  pub running : not s.stopped ≡ true
  pub done : all_done d s ≡ true
  pub quiet : all_quiet s ≡ true
  pub after : step d s e ≡ stopped s

rest_of : (d : Declared) (s : State) (e : Entry) (a b c : Bool) → (if a && b && c then Some act.Stop else None) ≡ Some act.Stop → not s.stopped ≡ a → all_done d s ≡ b → all_quiet s ≡ c → step d s e ≡ stopped s → IsAtRest d s e
rest_of d s e true true true h ra rb rc after = record { running = ra; done = rb; quiet = rc; after = after }
rest_of d s e false b c h ra rb rc after = cc
rest_of d s e true false c h ra rb rc after = cc
rest_of d s e true true false h ra rb rc after = cc

pub at_rest : (d : Declared) (s : State) (e : Entry) → IsLegal d s e → e.act ≡ act.Stop → IsAtRest d s e
unfolding want_act met
at_rest d s e legal is_stop =
    let is : IsMet d s e = met_by d s e legal in
    let by : is.want ≡ stops = stops_by d s is.want (is.granted ∙ ap Some is_stop) in
    let can : stop_act d s ≡ Some act.Stop = subst (λ x. want_act d s x ≡ Some act.Stop) by (is.granted ∙ ap Some is_stop) in
    rest_of d s e (not s.stopped) (all_done d s) (all_quiet s) can refl refl refl (is.stepped ∙ ap (met d s) by)
