-- Every legal entry keeps who waits for whom.
use Rattle.std.proofs.Common.{◌≡◌, ℕ, ◌+◌, List, Option, Some, None, refl, sym, ap, subst, ◌∙◌}
use Rattle.std.specs.Prelude.{slice_get, Result, Ok, Err, option_map, option_and_then}
use Rattle.std.specs.Option.{option_map_or}
use Rattle.std.proofs.lemmas.Option.{same_Some}
use Rattle.be_bitmap.specs.Pictures.{Picture}
use Rattle.be_command.specs.declared.Command.TheVariants.{EndUpdate}
use Rattle.be_command.specs.Effects.{Effect, at_view, changes, ends_update, effect_of}
use Rattle.be_desk.specs.Changes.{Desk, desk_after}
use Rattle.be_geom.specs.declared.change.Change.{Change}
use Rattle.be_geom.specs.declared.change.Change.TheVariants.{Show, Hide, MoveTo, MoveBy, ResizeTo, Activate, Behind, Focus, Close}
use Rattle.be_handler.specs.declared.Route.{Route}
use Rattle.be_handler.specs.declared.Route.TheVariants.{Skipped, Handler, Unknown}
use Rattle.be_input.specs.declared.Event.TheVariants as event
use Rattle.be_input.specs.Deliveries.{Post, Delivery}
use Rattle.be_link.specs.Queues.{Numbered}
use Rattle.be_looper.specs.Duties.{Hand, end_telling}
use Rattle.be_message.specs.Messages.{Message}
use Rattle.be_message.specs.Words.{no_reply_word, not_understood_word}
use Rattle.be_port.specs.declared.Duty.{Duty}
use Rattle.be_port.specs.declared.Duty.TheVariants.{Free, Owed, Done}
use Rattle.be_port.specs.Ports.{Letter, Port, front, closed_port}
use Rattle.be_script.specs.declared.InputLine.{InputLine}
use Rattle.be_script.specs.declared.InputLine.TheVariants as line
use Rattle.be_script.specs.Limits.{IsWithinLimits}
use Rattle.be_script.specs.Script.{Declared}
use Rattle.be_stack.specs.declared.fault.ChangeFault.{ChangeFault}
use Rattle.be_machine.specs.Activities.{app, looper, Activity}
use Rattle.be_machine.specs.Commands.{drawn, done_at_view, with_effect, without_front, executed_command, executed}
use Rattle.be_machine.specs.declared.Act.{Act}
use Rattle.be_machine.specs.declared.Act.TheVariants as act
use Rattle.be_machine.specs.declared.Entry.{Entry}
use Rattle.be_machine.specs.Input.{input_letter, ports_with, delivery_of, used, with_under, activated, with_delivery, with_event}
use Rattle.be_machine.specs.Legal.{want_act, IsLegal}
use Rattle.be_machine.specs.Lists.{with_both}
use Rattle.be_machine.specs.Looper.{with_looper, freed, word_alone, told_at_end, ended_hand}
use Rattle.be_machine.specs.Port.{letter_route, first_stage, notice, take_act, with_letter_in_hand, taken}
use Rattle.be_machine.specs.Program.{hand_in, hand_at}
use Rattle.be_machine.specs.State.{State, Looper, free, locked, handling, Stage, ending}
use Rattle.be_machine.specs.Step.{met, step}
use Rattle.be_machine.specs.Update.{at_stage, opened, passed_by, begun}
use Rattle.be_machine.specs.Wants.{Want, asks, takes, begins, flushes, draws_end, ends, notifies, executes, uses, stops, want_of}
use Rattle.be_update.specs.Sessions.{is_any}
use Rattle.be_machine.specs.Windows.{dirty_of, corner_at, ports_after, changed_to, changed}
use Rattle.be_machine.proofs.ProgressCases.{by_test, by_option}
use Rattle.be_machine.proofs.LegalEntries.{IsMet, met_by, maker, maker_is}
use Rattle.be_machine.proofs.ProgressStands.{app_stands, looper_stands}
use Rattle.be_machine.proofs.Waiting.{owes, owed_by_looper, IsWaiting, Waits}
use Rattle.be_machine.proofs.WaitingMoves.{loopers_kept, ports_kept, post_kept, notice_kept, take_kept, answer_kept}
use Rattle.be_machine.proofs.WaitingApps.{flushed_kept}
use Rattle.be_machine.proofs.WaitingGranted.{app_granted}
use Rattle.be_machine.proofs.WaitingBodies.{body_granted}

-- ---- a letter is taken

-- a free looper, and the letter at the front of its port
pub record Takes (s : State) (w : ℕ) : Type 0 where
  pub is_free : slice_get s.loopers w ≡ Some free
  pub port : Port Message
  pub read : slice_get s.ports w ≡ Some port
  pub letter : Letter Message
  pub first : front port ≡ Some letter

front_tells : (s : State) (w : ℕ) (a : Act) (p : Port Message) (o : Option (Letter Message)) → slice_get s.loopers w ≡ Some free → slice_get s.ports w ≡ Some p → front p ≡ o → option_map (λ letter. act.Take (p.taken + 1)) o ≡ Some a → Takes s w
front_tells s w a p (Some letter) is_free read first e = record { is_free = is_free; port = p; read = read; letter = letter; first = first }
front_tells s w a p None is_free read first e = cc

take_by : (s : State) (w : ℕ) (a : Act) (l : Option Looper) (p : Option (Port Message)) → slice_get s.loopers w ≡ l → slice_get s.ports w ≡ p → with_both take_act l p ≡ Some a → Takes s w
take_by s w a (Some free) (Some p) is_free read e = front_tells s w a p (front p) is_free read refl e
take_by s w a (Some (locked m)) (Some p) is_free read e = cc
take_by s w a (Some (handling hand stage)) (Some p) is_free read e = cc
take_by s w a (Some l) None is_free read e = cc
take_by s w a None p is_free read e = cc

pub take_tells : (d : Declared) (s : State) (w : ℕ) (a : Act) → want_act d s (takes w) ≡ Some a → Takes s w
unfolding want_act
take_tells d s w a e = take_by s w a (slice_get s.loopers w) (slice_get s.ports w) refl refl e

pub taken_is : (d : Declared) (s : State) (w : ℕ) (is : Takes s w) → taken d s w ≡ with_letter_in_hand d s w is.letter
taken_is d s w is = ap (λ o. option_map_or (with_letter_in_hand d s w) (option_and_then front o) s) is.read ∙ ap (λ o. option_map_or (with_letter_in_hand d s w) o s) is.first

taken_kept : (d : Declared) (s : State) (w : ℕ) (is : Takes s w) → IsWaiting d s → IsWaiting d (taken d s w)
taken_kept d s w is h =
    subst (IsWaiting d) (sym (taken_is d s w is)) (take_kept d s.ports s.loopers s.apps w is.letter (letter_route d w is.letter) (first_stage is.letter) is.port is.read is.first is.is_free h)

-- ---- updates

staged_owes : (k : ℕ) (stage : Stage) (l : Looper) → owed_by_looper k (at_stage stage l) ≡ owed_by_looper k l
staged_owes k stage (handling hand old) = refl
staged_owes k stage (locked m) = refl
staged_owes k stage free = refl

staged_kept : (d : Declared) (s : State) (w : ℕ) (stage : Stage) → IsWaiting d s → IsWaiting d (with_looper s w (at_stage stage))
staged_kept d s w stage h = loopers_kept d s.ports s.loopers s.apps w (at_stage stage) (λ k l read. staged_owes k stage l) h

begun_kept : (d : Declared) (s : State) (w : ℕ) → IsWaiting d s → IsWaiting d (begun s w)
unfolding begun
begun_kept d s w h = by_test (IsWaiting d) (is_any (dirty_of s w)) (option_map_or (opened s w) (corner_at s w) s) (passed_by s w) (by_option (IsWaiting d) (opened s w) s (corner_at s w) h (λ corner. staged_kept d s w _ h)) (staged_kept d s w ending h)

-- ---- the end of a message

pub hand_read : (s : State) (w : ℕ) (hand : Hand Message) (o : Option Looper) → slice_get s.loopers w ≡ o → option_and_then hand_in o ≡ Some hand → (stage : Stage) × (slice_get s.loopers w ≡ Some (handling hand stage))
hand_read s w hand (Some (handling other stage)) read e = (stage, read ∙ ap (λ x. Some (handling x stage)) (same_Some other hand e))
hand_read s w hand (Some (locked m)) read e = cc
hand_read s w hand (Some free) read e = cc
hand_read s w hand None read e = cc

ended_owed : (d : Declared) (s : State) (w n : ℕ) (hand : Hand Message) (stage : Stage) (route : Route) → slice_get s.loopers w ≡ Some (handling hand stage) → hand.duty ≡ Owed n → IsWaiting d s → IsWaiting d (told_at_end (end_telling (Owed n) route) (freed s w))
ended_owed d s w n hand stage Unknown read duty h = answer_kept d s.ports s.loopers s.apps w n (λ _. free) (handling hand stage) (word_alone not_understood_word) read (λ k. ap (owes k) duty) (λ k. refl) h
ended_owed d s w n hand stage Skipped read duty h = answer_kept d s.ports s.loopers s.apps w n (λ _. free) (handling hand stage) (word_alone no_reply_word) read (λ k. ap (owes k) duty) (λ k. refl) h
ended_owed d s w n hand stage (Handler target) read duty h = answer_kept d s.ports s.loopers s.apps w n (λ _. free) (handling hand stage) (word_alone no_reply_word) read (λ k. ap (owes k) duty) (λ k. refl) h

freed_kept : (d : Declared) (s : State) (w : ℕ) (hand : Hand Message) (stage : Stage) → slice_get s.loopers w ≡ Some (handling hand stage) → ((k : ℕ) → owes k hand.duty ≡ 0) → IsWaiting d s → IsWaiting d (freed s w)
freed_kept d s w hand stage read none h = loopers_kept d s.ports s.loopers s.apps w (λ _. free) (λ k l there. sym (ap (owed_by_looper k) (same_Some l (handling hand stage) (sym there ∙ read)) ∙ none k)) h

ended_by : (d : Declared) (s : State) (w : ℕ) (hand : Hand Message) (stage : Stage) (duty : Duty) → slice_get s.loopers w ≡ Some (handling hand stage) → hand.duty ≡ duty → IsWaiting d s → IsWaiting d (told_at_end (end_telling duty hand.route) (freed s w))
ended_by d s w hand stage (Owed n) read duty h = ended_owed d s w n hand stage hand.route read duty h
ended_by d s w hand stage Done read duty h = freed_kept d s w hand stage read (λ k. ap (owes k) duty) h
ended_by d s w hand stage Free read duty h = freed_kept d s w hand stage read (λ k. ap (owes k) duty) h

ends_kept : (d : Declared) (s : State) (w : ℕ) (o : Option (Hand Message)) → hand_at s w ≡ o → IsWaiting d s → IsWaiting d (option_map_or (ended_hand s w) o s)
ends_kept d s w (Some hand) e h =
    let read : (stage : Stage) × (slice_get s.loopers w ≡ Some (handling hand stage)) = hand_read s w hand (slice_get s.loopers w) refl e in
    ended_by d s w hand read.0 hand.duty read.1 refl h
ends_kept d s w None e h = h

-- ---- commands

close_kept : (d : Declared) (s : State) (w : ℕ) (change : Change) → IsWaiting d s → Waits d (ports_after w change s.ports) s.loopers s.apps
close_kept d s w Close h = ports_kept d s.ports s.loopers s.apps w closed_port (λ m p read in_time. refl) (λ p in_time. in_time) h
close_kept d s w Show h = h
close_kept d s w Hide h = h
close_kept d s w (MoveTo corner) h = h
close_kept d s w (MoveBy dx dy) h = h
close_kept d s w (ResizeTo width height) h = h
close_kept d s w Activate h = h
close_kept d s w (Behind front) h = h
close_kept d s w (Focus view) h = h

changed_by : (d : Declared) (s : State) (w : ℕ) (change : Change) (r : Result Desk ChangeFault) → IsWaiting d s → IsWaiting d (changed_to s w change r)
changed_by d s w change (Ok desk) h = close_kept d s w change h
changed_by d s w change (Err fault) h = h

changed_kept : (d : Declared) (s : State) (w : ℕ) (change : Change) → IsWaiting d s → IsWaiting d (changed s w change)
unfolding changed
changed_kept d s w change h = changed_by d s w change (desk_after s.desk w change) h

effect_kept : (d : Declared) (pictures : List Picture) (s : State) (w : ℕ) (effect : Effect) → IsWaiting d s → IsWaiting d (with_effect pictures s w effect)
effect_kept d pictures s w (at_view v deed) h = by_option (IsWaiting d) (done_at_view pictures s w v deed) s (slice_get s.panes w) h (λ pane. h)
effect_kept d pictures s w (changes change) h = changed_kept d s w change h
effect_kept d pictures s w ends_update h = h

executed_kept : (d : Declared) (s : State) (w : ℕ) → IsWaiting d s → IsWaiting d (executed d s w)
unfolding executed
executed_kept d s w h = by_option (IsWaiting d) (executed_command d s w) s (option_and_then (λ (link : List Numbered). slice_get link 0) (slice_get s.links w)) h (λ c. effect_kept d d.pictures (without_front s w) w (effect_of c.command) h)

-- ---- input

ports_with_kept : (d : Declared) (ports : List (Port Message)) (s : State) (o : Option Post) → Waits d ports s.loopers s.apps → Waits d (ports_with ports o) s.loopers s.apps
ports_with_kept d ports s (Some post) h = post_kept d ports s.loopers s.apps post.window (input_letter post) refl h
ports_with_kept d ports s None h = h

activated_kept : (d : Declared) (s : State) (o : Option ℕ) → IsWaiting d s → IsWaiting d (activated s o)
activated_kept d s (Some w) h = changed_kept d s w Activate h
activated_kept d s None h = h

delivery_kept : (d : Declared) (s : State) (delivery : Delivery) → IsWaiting d s → IsWaiting d (with_delivery s delivery)
delivery_kept d s delivery h =
    activated_kept d (record (used s) { ports = ports_with (ports_with s.ports delivery.first) delivery.second; desk = with_under delivery s.desk }) delivery.activate
    (ports_with_kept d (ports_with s.ports delivery.first) s delivery.second (ports_with_kept d s.ports s delivery.first h))

event_kept : (d : Declared) (s : State) (x : InputLine) → IsWaiting d s → IsWaiting d (with_event s x)
event_kept d s (line.Press p) h = delivery_kept d s (delivery_of s (event.Press p)) h
event_kept d s (line.Release p) h = delivery_kept d s (delivery_of s (event.Release p)) h
event_kept d s (line.Move p) h = delivery_kept d s (delivery_of s (event.Move p)) h
event_kept d s (line.Key key) h = delivery_kept d s (delivery_of s (event.Key key)) h
event_kept d s (line.After m) h = h

-- ---- all wants

want_kept : (d : Declared) (s : State) (who : Activity) (want : Want) (a : Act) → IsWithinLimits d → maker want ≡ who → want_of d s who ≡ Some want → want_act d s want ≡ Some a → IsWaiting d s → IsWaiting d (met d s want)
unfolding met
want_kept d s who (asks (app m) x) a limits made wanted granted h =
    app_granted d s m x a (app_stands d s m x (ap (want_of d s) made ∙ wanted)) granted h
want_kept d s who (asks (looper w) x) a limits made wanted granted h =
    body_granted d s w x (looper_stands d s w x limits (ap (want_of d s) made ∙ wanted)) h
want_kept d s who (takes w) a limits made wanted granted h = taken_kept d s w (take_tells d s w a granted) h
want_kept d s who (begins w) a limits made wanted granted h = begun_kept d s w h
want_kept d s who (flushes w) a limits made wanted granted h = flushed_kept d s w h
want_kept d s who (draws_end w) a limits made wanted granted h = staged_kept d (drawn s w EndUpdate) w ending h
want_kept d s who (ends w) a limits made wanted granted h = ends_kept d s w (hand_at s w) refl h
want_kept d s who (notifies w) a limits made wanted granted h = notice_kept d s.ports s.loopers s.apps w (notice w) refl h
want_kept d s who (executes w) a limits made wanted granted h = executed_kept d s w h
want_kept d s who (uses x) a limits made wanted granted h = event_kept d s x h
want_kept d s who stops a limits made wanted granted h = h

pub waiting_step : (d : Declared) (s : State) (e : Entry) → IsWithinLimits d → IsLegal d s e → IsWaiting d s → IsWaiting d (step d s e)
waiting_step d s e limits legal h =
    let is : IsMet d s e = met_by d s e legal in
    subst (IsWaiting d) (sym is.stepped) (want_kept d s is.who is.want e.act limits (maker_is d s is.who is.want is.wanted) is.wanted is.granted h)
