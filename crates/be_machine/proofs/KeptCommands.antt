-- Commands that wait are within their limits, and an application that sends waits for nothing.
use Rattle.std.proofs.Common.{◌≡◌, ℕ, zero, suc, Bool, true, false, List, [], ◌∷◌, ◌++◌, length, Option, Some, None, ◌⊎◌, inl, inr, refl, sym, ap, subst, ◌∙◌}
use Rattle.std.specs.Prelude.{◌==◌, not, slice_get, option_map, option_and_then, if◌then◌else◌}
use Rattle.std.specs.Option.{option_map_or}
use Rattle.std.proofs.lemmas.Option.{same_Some}
use Rattle.be_actor.specs.declared.Instruction.{Instruction}
use Rattle.be_actor.specs.declared.Instruction.TheVariants.{Note, Post, Send, Reply, Forward, Lock, Unlock, Flush, Sync, Draw}
use Rattle.be_actor.specs.declared.Wish.{Wish}
use Rattle.be_actor.specs.declared.Wish.TheVariants as wish
use Rattle.be_actor.specs.Wishes.{wish_at, has_no_room}
use Rattle.be_command.specs.declared.Command.{Command}
use Rattle.be_command.specs.declared.Command.TheVariants.{EndUpdate}
use Rattle.be_command.specs.Effects.{Effect, at_view, changes, ends_update, effect_of}
use Rattle.be_bitmap.specs.Pictures.{Picture}
use Rattle.be_desk.specs.Changes.{Desk, desk_after}
use Rattle.be_geom.specs.declared.change.Change.{Change}
use Rattle.be_geom.specs.declared.change.Change.TheVariants.{Activate}
use Rattle.be_input.specs.Deliveries.{Delivery}
use Rattle.be_input.specs.declared.Event.TheVariants as event
use Rattle.be_link.specs.Queues.{Buffer, Numbered, empty_buffer, with_command, emptied, lengthened, shortened}
use Rattle.be_looper.specs.Duties.{EndTelling, nobody, no_reply, not_understood, end_telling}
use Rattle.be_message.specs.declared.target.Target.{Target}
use Rattle.be_message.specs.Messages.{Message}
use Rattle.be_port.specs.declared.Duty.{Duty}
use Rattle.be_reply.specs.Cells as reply
use Rattle.be_script.specs.declared.InputLine.{InputLine}
use Rattle.be_script.specs.declared.InputLine.TheVariants as line
use Rattle.be_script.specs.Limits.{IsWithinLimits}
use Rattle.be_script.specs.Programs.{is_command_for, is_body_step, is_app_step, is_locked_step}
use Rattle.be_script.specs.Script.{Declared}
use Rattle.be_stack.specs.declared.fault.ChangeFault.{ChangeFault}
use Rattle.std.proofs.Common.{Result, Ok, Err}
use Rattle.be_update.specs.Sessions.{is_any}
use Rattle.be_machine.specs.Activities.{Runner, app, looper, Activity, runner}
use Rattle.be_machine.specs.Commands.{drawn, flushed, flushed_into, with_effect, done_at_view, without_front, executed_command, executed}
use Rattle.be_machine.specs.declared.Entry.{Entry}
use Rattle.be_machine.specs.History.{AreLegalFrom, IsLegalHistory, state_from, state_after}
use Rattle.be_machine.specs.Input.{delivery_of, activated, with_delivery, with_event}
use Rattle.be_machine.specs.KeptLimits.{IsOnItsWay}
use Rattle.be_machine.specs.Legal.{IsLegal}
use Rattle.be_machine.specs.Looper.{with_duty, with_waiting, forwarded_hand, told, told_at_end, claimed, cell_of, ended_hand, freed}
use Rattle.be_machine.specs.Port.{is_accepted_at, with_letter_in_hand}
use Rattle.be_machine.specs.Program.{app_program, buffered, locked_by, window_of, hop_of, hand_of, hand_at, moved_on}
use Rattle.be_machine.specs.State.{State, App, opening_state}
use Rattle.be_machine.specs.Step.{granted, met, step}
use Rattle.be_machine.specs.Update.{begun, opened, passed_by}
use Rattle.be_machine.specs.Wants.{Want, asks, takes, begins, flushes, draws_end, ends, notifies, executes, uses, stops, want_of}
use Rattle.be_machine.specs.Windows.{corner_at, dirty_of, changed, changed_to}
use Rattle.be_machine.proofs.LegalEntries.{IsMet, met_by, maker, maker_is}
use Rattle.be_machine.proofs.Opening.{repeated}
use Rattle.be_machine.proofs.ProgressAfter.{IsSettled, opening_settled, settled_step}
use Rattle.be_machine.proofs.ProgressCases.{by_test, by_option}
use Rattle.be_machine.proofs.ProgressLocks.{Follows, StepKeeps, step_keeps}
use Rattle.be_machine.proofs.ProgressLocksMet.{IsLockedState}
use Rattle.be_machine.proofs.ProgressPlaces.{Each, each_kept}
use Rattle.be_machine.proofs.ProgressStands.{AppStands, app_stands, LooperStands, looper_stands}
use Rattle.be_machine.proofs.ReadsLocks.{locked_is}
use Rattle.be_machine.proofs.Waiting.{is_busy, claims, IsWaiting}
use Rattle.be_machine.proofs.WaitingAfter.{waiting_after}

-- ---- an application that sends

first_part : (b : Bool) (x : Wish) (w : ℕ) (target : Target) (message : Message) → (if b then x else wish.Claim) ≡ wish.Send w target message → not b ≡ false
first_part true x w target message e = refl
first_part false x w target message e = cc

sends_by : (i : Instruction) (part n w : ℕ) (target : Target) (message : Message) → wish_at part None n i ≡ wish.Send w target message → claims (Some i) part ≡ false
sends_by (Send v other draft) part n w target message asked = first_part (part == 0) _ w target message asked
sends_by (Note word) part n w target message asked = refl
sends_by (Post v other draft) part n w target message asked = refl
sends_by (Reply draft) part n w target message asked = refl
sends_by (Forward v other) part n w target message asked = refl
sends_by (Lock v) part n w target message asked = refl
sends_by Unlock part n w target message asked = refl
sends_by Flush part n w target message asked = refl
sends_by Sync part n w target message asked = refl
sends_by (Draw c) part n w target message asked = refl

idle_cell : (c : reply.Cell) → is_busy c ≡ false → c ≡ reply.idle
idle_cell reply.idle e = refl
idle_cell reply.waiting e = cc
idle_cell (reply.replied message) e = cc

pub idle_at_send : (d : Declared) (h : List Entry) (m w : ℕ) (target : Target) (message : Message) → IsWithinLimits d → IsLegalHistory d h → want_of d (state_after d h) (runner (app m)) ≡ Some (asks (app m) (wish.Send w target message)) → cell_of (state_after d h) (app m) ≡ Some reply.idle
idle_at_send d h m w target message limits legal wanted =
    let is : AppStands d (state_after d h) m (wish.Send w target message) = app_stands d (state_after d h) m (wish.Send w target message) wanted in
    let waits : IsWaiting d (state_after d h) = waiting_after d h limits legal in
    let quiet : claims (Some is.step) is.it.place.part ≡ false = sends_by is.step is.it.place.part (buffered (state_after d h) (app m)) w target message is.asked in
    let busy : is_busy is.it.cell ≡ false = waits.busy m is.it is.read ∙ ap (λ o. claims o is.it.place.part) is.next ∙ quiet in
    ap (option_map (λ (a : App). a.cell)) is.read ∙ ap Some (idle_cell is.it.cell busy)

-- ---- commands that wait

abbrev AreOnTheirWay : Declared → ℕ → List Numbered → Type 0
AreOnTheirWay d w cs = (i : ℕ) (c : Numbered) → slice_get cs i ≡ Some c → IsOnItsWay d w c

pub record AreKept (d : Declared) (buffers : List Buffer) (links : List (List Numbered)) : Type 0 where
  pub buffered : Each (λ w (b : Buffer). AreOnTheirWay d w b.commands) buffers
  pub linked : Each (AreOnTheirWay d) links

abbrev IsKept : Declared → State → Type 0
IsKept d s = AreKept d s.buffers s.links

joined_way : (d : Declared) (w : ℕ) (xs ys : List Numbered) → AreOnTheirWay d w xs → AreOnTheirWay d w ys → AreOnTheirWay d w (xs ++ ys)
joined_way d w [] ys h k i c e = k i c e
joined_way d w (x ∷ xs) ys h k zero c e = h zero c e
joined_way d w (x ∷ xs) ys h k (suc i) c e = joined_way d w xs ys (λ j y read. h (suc j) y read) k i c e

one_way : (d : Declared) (w : ℕ) (x : Numbered) → IsOnItsWay d w x → AreOnTheirWay d w (x ∷ [])
one_way d w x h zero c e = subst (IsOnItsWay d w) (same_Some x c e) h
one_way d w x h (suc i) c e = cc

shorter_way : (d : Declared) (w : ℕ) (xs : List Numbered) → AreOnTheirWay d w xs → AreOnTheirWay d w (shortened xs)
shorter_way d w [] h i c e = cc
shorter_way d w (x ∷ xs) h i c e = h (suc i) c e

drawn_kept : (d : Declared) (s : State) (w : ℕ) (c : Command) → (is_command_for d w c ≡ true) ⊎ (c ≡ EndUpdate) → IsKept d s → IsKept d (drawn s w c)
drawn_kept d s w c fits h = record {
  buffered = each_kept (λ w (b : Buffer). AreOnTheirWay d w b.commands) s.buffers w (with_command c) (λ b read old. joined_way d w b.commands _ old (one_way d w _ fits)) h.buffered;
  linked = h.linked;
}

flushed_by : (d : Declared) (s : State) (w : ℕ) (o : Option Buffer) → slice_get s.buffers w ≡ o → IsKept d s → IsKept d (option_map_or (flushed_into s w) o s)
flushed_by d s w (Some b) there h = record {
  buffered = each_kept (λ w (b : Buffer). AreOnTheirWay d w b.commands) s.buffers w emptied (λ x read old i c e. cc) h.buffered;
  linked = each_kept (AreOnTheirWay d) s.links w (lengthened b) (λ link read old. joined_way d w link b.commands old (h.buffered w b there)) h.linked;
}
flushed_by d s w None there h = h

flushed_kept : (d : Declared) (s : State) (w : ℕ) → IsKept d s → IsKept d (flushed s w)
flushed_kept d s w h = flushed_by d s w (slice_get s.buffers w) refl h

front_kept : (d : Declared) (s : State) (w : ℕ) → IsKept d s → IsKept d (without_front s w)
front_kept d s w h = record { buffered = h.buffered; linked = each_kept (AreOnTheirWay d) s.links w shortened (λ link read old. shorter_way d w link old) h.linked }

-- ---- which commands are drawn

draw_if : (P : Command → Type 0) (c : Command) (b : Bool) (x y : Wish) → (x ≡ wish.Draw c → P c) → (y ≡ wish.Draw c → P c) → (if b then x else y) ≡ wish.Draw c → P c
draw_if P c true x y f g e = f e
draw_if P c false x y f g e = g e

-- a command that is asked for is the instruction's
draw_of : (P : Command → Type 0) (i : Instruction) (part n : ℕ) (now : Option Message) (c : Command) → ((k : Command) → i ≡ Draw k → P k) → wish_at part now n i ≡ wish.Draw c → P c
draw_of P (Draw k) part n now c h e = draw_if P c (has_no_room n) wish.Flush (wish.Draw k) (λ never. absurd (cc)) (λ is. let same : k ≡ c = cc in subst P same (h k refl)) e
draw_of P (Note word) part n now c h e = absurd (cc)
draw_of P (Post v target draft) part n now c h e = absurd (cc)
draw_of P (Send v target draft) part n now c h e = draw_if P c (part == 0) (wish.Send v target _) wish.Claim (λ never. absurd (cc)) (λ never. absurd (cc)) e
draw_of P (Reply draft) part n now c h e = absurd (cc)
draw_of P (Forward v target) part n now c h e = absurd (cc)
draw_of P (Lock v) part n now c h e = absurd (cc)
draw_of P Unlock part n now c h e = draw_if P c (n == 0) wish.Unlock wish.Flush (λ never. absurd (cc)) (λ never. absurd (cc)) e
draw_of P Flush part n now c h e = absurd (cc)
draw_of P Sync part n now c h e = draw_if P c (part == 0) wish.Flush wish.SyncDone (λ never. absurd (cc)) (λ never. absurd (cc)) e

-- under the lock of the window
app_command : (d : Declared) (s : State) (m w : ℕ) (c : Command) → IsLockedState d s → AppStands d s m (wish.Draw c) → locked_by s m ≡ Some w → is_command_for d w c ≡ true
app_command d s m w c locks is has =
    let follows : Follows d s.loopers m is.it = locks.follows m is.it is.read in
    let lock : follows.lock ≡ Some w = sym (locked_is s.loopers m follows.lock follows.has) ∙ has in
    let keeps : StepKeeps d follows.lock is.step _ = step_keeps d follows.lock (app_program d m) is.it.place.step is.step is.next follows.keeps in
    let step : is_app_step d (Some w) is.step ≡ true = subst (λ o. is_app_step d o is.step ≡ true) lock keeps.here in
    draw_of (λ k. is_command_for d w k ≡ true) is.step is.it.place.part (buffered s (app m)) None c (λ k e. subst (λ i. is_locked_step d w i ≡ true) e step) is.asked

body_command : (d : Declared) (s : State) (w : ℕ) (c : Command) → LooperStands d s w (wish.Draw c) → is_command_for d w c ≡ true
body_command d s w c is =
    draw_of (λ k. is_command_for d w k ≡ true) is.step is.place.part (buffered s (looper w)) (Some is.hand.letter.body) c (λ k e. subst (λ i. is_body_step d w i ≡ true) e is.allowed) is.asked

-- ---- what instructions do

duty_kept : (d : Declared) (f : Duty → Duty) (who : Runner) (s : State) → IsKept d s → IsKept d (with_duty f who s)
duty_kept d f (looper v) s h = h
duty_kept d f (app m) s h = h

told_kept : (d : Declared) (message : Message) (o : Option ℕ) (s : State) → IsKept d s → IsKept d (told message o s)
told_kept d message (Some m) s h = h
told_kept d message None s h = h

waiting_kept : (d : Declared) (who : Runner) (s : State) → IsKept d s → IsKept d (with_waiting who s)
waiting_kept d (app m) s h = h
waiting_kept d (looper v) s h = h

claimed_kept : (d : Declared) (who : Runner) (s : State) → IsKept d s → IsKept d (claimed s who)
claimed_kept d (app m) s h = h
claimed_kept d (looper v) s h = h

moved_kept : (d : Declared) (who : Runner) (accepted : Bool) (x : Wish) (s : State) → IsKept d s → IsKept d (moved_on d who accepted x s)
unfolding moved_on
moved_kept d (app m) accepted x s h = h
moved_kept d (looper v) accepted x s h = h

granted_kept : (d : Declared) (s : State) (who : Runner) (x : Wish) → ((w : ℕ) (c : Command) → x ≡ wish.Draw c → window_of s who ≡ Some w → is_command_for d w c ≡ true) → IsKept d s → IsKept d (granted s who x)
unfolding granted
granted_kept d s who (wish.Note word) fits h = h
granted_kept d s who (wish.Post v target message) fits h = h
granted_kept d s who (wish.Send v target message) fits h = by_test (IsKept d) (is_accepted_at s v (hop_of s who)) _ _ (waiting_kept d who _ h) h
granted_kept d s who (wish.Forward v target) fits h = by_option (IsKept d) (forwarded_hand s who v target) s (hand_of s who) h (λ hand. by_test (IsKept d) (is_accepted_at s v (hop_of s who)) _ _ (duty_kept d _ who _ h) h)
granted_kept d s who (wish.Reply message) fits h = duty_kept d _ who _ (told_kept d message _ s h)
granted_kept d s who wish.Claim fits h = claimed_kept d who s h
granted_kept d s who (wish.Lock v) fits h = h
granted_kept d s who wish.Unlock fits h = by_option (IsKept d) (freed s) s (window_of s who) h (λ v. h)
granted_kept d s who wish.Flush fits h = by_option (IsKept d) (flushed s) s (window_of s who) h (λ v. flushed_kept d s v h)
granted_kept d s who wish.SyncDone fits h = h
granted_kept d s who (wish.Draw c) fits h = draws_in (window_of s who) refl
  where
    draws_in : (o : Option ℕ) → window_of s who ≡ o → IsKept d (option_map_or (λ w. drawn s w c) o s)
    draws_in (Some w) there = drawn_kept d s w c (inl (fits w c refl there)) h
    draws_in None there = h

-- ---- commands, updates and input

changed_by : (d : Declared) (s : State) (w : ℕ) (change : Change) (r : Result Desk ChangeFault) → IsKept d s → IsKept d (changed_to s w change r)
changed_by d s w change (Ok desk) h = h
changed_by d s w change (Err f) h = h

changed_kept : (d : Declared) (s : State) (w : ℕ) (change : Change) → IsKept d s → IsKept d (changed s w change)
unfolding changed
changed_kept d s w change h = changed_by d s w change (desk_after s.desk w change) h

effect_kept : (d : Declared) (pictures : List Picture) (s : State) (w : ℕ) (effect : Effect) → IsKept d s → IsKept d (with_effect pictures s w effect)
effect_kept d pictures s w (at_view v deed) h = by_option (IsKept d) (done_at_view pictures s w v deed) s (slice_get s.panes w) h (λ pane. h)
effect_kept d pictures s w (changes change) h = changed_kept d s w change h
effect_kept d pictures s w ends_update h = h

executed_kept : (d : Declared) (s : State) (w : ℕ) → IsKept d s → IsKept d (executed d s w)
unfolding executed
executed_kept d s w h = by_option (IsKept d) (executed_command d s w) s (option_and_then (λ link. slice_get link 0) (slice_get s.links w)) h (λ c. effect_kept d d.pictures (without_front s w) w (effect_of c.command) (front_kept d s w h))

begun_kept : (d : Declared) (s : State) (w : ℕ) → IsKept d s → IsKept d (begun s w)
unfolding begun
begun_kept d s w h = by_test (IsKept d) (is_any (dirty_of s w)) (option_map_or (opened s w) (corner_at s w) s) (passed_by s w) (by_option (IsKept d) (opened s w) s (corner_at s w) h (λ corner. h)) h

telling_kept : (d : Declared) (t : EndTelling) (s : State) → IsKept d s → IsKept d (told_at_end t s)
telling_kept d nobody s h = h
telling_kept d (no_reply m) s h = h
telling_kept d (not_understood m) s h = h

activated_kept : (d : Declared) (s : State) (o : Option ℕ) → IsKept d s → IsKept d (activated s o)
activated_kept d s (Some w) h = changed_kept d s w Activate h
activated_kept d s None h = h

delivery_kept : (d : Declared) (s : State) (x : Delivery) → IsKept d s → IsKept d (with_delivery s x)
delivery_kept d s x h = activated_kept d _ x.activate h

event_kept : (d : Declared) (s : State) (x : InputLine) → IsKept d s → IsKept d (with_event s x)
event_kept d s (line.Press p) h = delivery_kept d s (delivery_of s (event.Press p)) h
event_kept d s (line.Release p) h = delivery_kept d s (delivery_of s (event.Release p)) h
event_kept d s (line.Move p) h = delivery_kept d s (delivery_of s (event.Move p)) h
event_kept d s (line.Key key) h = delivery_kept d s (delivery_of s (event.Key key)) h
event_kept d s (line.After m) h = h

-- ---- all wants

own_window : (s : State) (v w : ℕ) (c : Command) (P : ℕ → Type 0) → window_of s (looper v) ≡ Some w → P v → P w
own_window s v w c P e h = subst P (same_Some v w e) h

asked_kept : (d : Declared) (s : State) (who : Runner) (x : Wish) → IsWithinLimits d → IsLockedState d s → want_of d s (runner who) ≡ Some (asks who x) → IsKept d s → IsKept d (granted s who x)
asked_kept d s (app m) x limits locks wanted h =
    granted_kept d s (app m) x (λ w c is has. app_command d s m w c locks (subst (AppStands d s m) is (app_stands d s m x wanted)) has) h
asked_kept d s (looper v) x limits locks wanted h =
    granted_kept d s (looper v) x (λ w c is has. own_window s v w c (λ u. is_command_for d u c ≡ true) has (body_command d s v c (subst (LooperStands d s v) is (looper_stands d s v x limits wanted)))) h

want_kept : (d : Declared) (s : State) (who : Activity) (want : Want) → IsWithinLimits d → IsLockedState d s → maker want ≡ who → want_of d s who ≡ Some want → IsKept d s → IsKept d (met d s want)
unfolding met
want_kept d s who (asks maker_of x) limits locks made wanted h = moved_kept d maker_of _ x _ (asked_kept d s maker_of x limits locks (ap (want_of d s) made ∙ wanted) h)
want_kept d s who (takes w) limits locks made wanted h = by_option (IsKept d) (with_letter_in_hand d s w) s _ h (λ letter. h)
want_kept d s who (begins w) limits locks made wanted h = begun_kept d s w h
want_kept d s who (flushes w) limits locks made wanted h = flushed_kept d s w h
want_kept d s who (draws_end w) limits locks made wanted h = drawn_kept d s w EndUpdate (inr refl) h
want_kept d s who (ends w) limits locks made wanted h = by_option (IsKept d) (ended_hand s w) s (hand_at s w) h (λ hand. telling_kept d (end_telling hand.duty hand.route) (freed s w) h)
want_kept d s who (notifies w) limits locks made wanted h = h
want_kept d s who (executes w) limits locks made wanted h = executed_kept d s w h
want_kept d s who (uses x) limits locks made wanted h = event_kept d s x h
want_kept d s who stops limits locks made wanted h = h

step_kept : (d : Declared) (s : State) (e : Entry) → IsWithinLimits d → IsLegal d s e → IsLockedState d s → IsKept d s → IsKept d (step d s e)
step_kept d s e limits legal locks h =
    let is : IsMet d s e = met_by d s e legal in
    subst (IsKept d) (sym is.stepped) (want_kept d s is.who is.want limits locks (maker_is d s is.who is.want is.wanted) is.wanted h)

-- ---- histories

opening_kept : (d : Declared) → IsKept d (opening_state d)
unfolding opening_state
opening_kept d = record {
  buffered = λ w b read i c e. (let none : slice_get empty_buffer.commands i ≡ Some c = ap (λ (x : Buffer). slice_get x.commands i) (repeated (length d.windows) w empty_buffer b read) ∙ e in absurd (nothing_there i c none));
  linked = λ w link read i c e. (let none : slice_get [] i ≡ Some c = ap (λ (l : List Numbered). slice_get l i) (repeated (length d.windows) w [] link read) ∙ e in absurd (nothing_there i c none));
}
  where
    nothing_there : (i : ℕ) (c : Numbered) → slice_get [] i ≡ Some c → ⊥
    nothing_there i c e = cc

kept_from : (d : Declared) (s : State) (h : List Entry) → IsWithinLimits d → AreLegalFrom d s h → IsSettled d s → IsKept d s → IsKept d (state_from d s h)
unfolding AreLegalFrom state_from
kept_from d s [] limits legal settled is = is
kept_from d s (e ∷ es) limits legal settled is = kept_from d (step d s e) es limits legal.1 (settled_step d s e limits legal.0 settled) (step_kept d s e limits legal.0 settled.locks is)

kept_after : (d : Declared) (h : List Entry) → IsWithinLimits d → IsLegalHistory d h → IsKept d (state_after d h)
kept_after d h limits legal = kept_from d (opening_state d) h limits legal (opening_settled d limits) (opening_kept d)

pub linked_within : (d : Declared) (h : List Entry) (w i : ℕ) (link : List Numbered) (c : Numbered) → IsWithinLimits d → IsLegalHistory d h → slice_get (state_after d h).links w ≡ Some link → slice_get link i ≡ Some c → IsOnItsWay d w c
linked_within d h w i link c limits legal read e = (kept_after d h limits legal).linked w link read i c e

pub buffered_within : (d : Declared) (h : List Entry) (w i : ℕ) (b : Buffer) (c : Numbered) → IsWithinLimits d → IsLegalHistory d h → slice_get (state_after d h).buffers w ≡ Some b → slice_get b.commands i ≡ Some c → IsOnItsWay d w c
buffered_within d h w i b c limits legal read e = (kept_after d h limits legal).buffered w b read i c e
