-- Every legal entry keeps notices and sessions apart.
use Rattle.std.proofs.Common.{◌≡◌, ℕ, ◌≤◌, Bool, true, false, List, Option, Some, None, Result, Ok, Err, refl, sym, ap, subst, ◌∙◌, arith}
use Rattle.std.specs.Prelude.{◌&&◌, not, is_none, slice_get, option_and_then, if◌then◌else◌}
use Rattle.std.specs.Option.{option_map_or}
use Rattle.be_facts.proofs.Truths.{and_first, and_second}
use Rattle.be_actor.specs.declared.Wish.{Wish}
use Rattle.be_actor.specs.declared.Wish.TheVariants as wish
use Rattle.be_actor.specs.Wishes.{first_place}
use Rattle.be_bitmap.specs.Pictures.{Picture}
use Rattle.be_command.specs.Effects.{Deed, Effect, at_view, changes, ends_update, effect_of}
use Rattle.be_desk.specs.Changes.{Desk, desk_after}
use Rattle.be_geom.specs.declared.change.Change.{Change}
use Rattle.be_geom.specs.declared.change.Change.TheVariants.{Show, Hide, MoveTo, MoveBy, ResizeTo, Activate, Behind, Focus, Close}
use Rattle.be_looper.specs.Duties.{Hand}
use Rattle.be_message.specs.Messages.{Message}
use Rattle.be_pane.specs.Panes.{Pane}
use Rattle.be_port.specs.declared.Duty.{Duty}
use Rattle.be_port.specs.Ports.{Letter, Port, posted, with_letter, without_front, closed_port}
use Rattle.be_script.specs.Script.{Declared}
use Rattle.be_stack.specs.declared.fault.ChangeFault.{ChangeFault}
use Rattle.be_stack.specs.declared.window.Window.{Window}
use Rattle.be_twin.specs.Deeds.{deed_outcome}
use Rattle.be_twin.specs.Executed.{Sight, is_done, pane_by, pane_after, without_session}
use Rattle.be_update.specs.Sessions.{is_any, session_of, with_session, passed, with_notice}
use Rattle.be_machine.specs.Activities.{Runner, app, looper}
use Rattle.be_machine.specs.Commands.{flushed, flushed_into, drawn, sight_at, with_effect, done_at_view, without_front as without_command, executed_command, executed}
use Rattle.be_machine.specs.Lists.{at}
use Rattle.be_machine.specs.Looper.{with_duty_by, with_duty, with_waiting, forwarded_hand, told, claimed, freed, locked_for}
use Rattle.be_machine.specs.Port.{is_accepted_at, first_stage, letter_route, with_letter_in_hand, notice, notified, taken}
use Rattle.be_machine.specs.Program.{window_of, hop_of, hand_of, moved_on, looper_gone_on, stage_gone_on}
use Rattle.be_machine.specs.State.{State, Looper, free, locked, handling, Stage, in_body, beginning, in_update, ending}
use Rattle.be_machine.specs.Step.{granted}
use Rattle.be_machine.specs.Update.{owes, owes_notice, at_stage, begun, opened, passed_by}
use Rattle.be_machine.specs.Windows.{corner_at, dirty_of, ports_after, changed, changed_to}
use Rattle.be_machine.proofs.KeptNotices.{begins_at, begins_in, is_notice, IsNoted, AreNoted, at_same, all_noted, port_noted, looper_noted, pane_noted, post_notices, more_waits}
use Rattle.be_machine.proofs.Lists.{same_element}
use Rattle.be_machine.proofs.ProgressCases.{by_test, by_option}
use Rattle.be_machine.proofs.ProgressPlaces.{Each}
use Rattle.be_machine.proofs.Waiting.{IsTakenInTime, one_where}
use Rattle.be_machine.proofs.WaitingSteps.{Takes, taken_is}
use Rattle.be_machine.proofs.WaitingSums.{total_front}

abbrev pub IsNotedState : State → Type 0
IsNotedState s = AreNoted s.ports s.loopers s.panes

abbrev pub AreInTime : List (Port Message) → Type 0
AreInTime ports = Each (λ w p. IsTakenInTime p) ports

-- ---- what leaves a stage, or ends it

gone_begins : (d : Declared) (w : ℕ) (accepted : Bool) (x : Wish) (hand : Hand Message) (stage : Stage) → begins_at (stage_gone_on d w accepted x hand stage) ≤ begins_at stage
gone_begins d w accepted x hand (in_body place) = omega arith
gone_begins d w accepted x hand (in_update views place) = omega arith
gone_begins d w accepted x hand beginning = omega arith
gone_begins d w accepted x hand ending = omega arith

looper_gone : (d : Declared) (w : ℕ) (accepted : Bool) (x : Wish) (l : Looper) → begins_in (looper_gone_on d w accepted x l) ≤ begins_in l
looper_gone d w accepted x (handling hand stage) = gone_begins d w accepted x hand stage
looper_gone d w accepted x (locked m) = omega arith
looper_gone d w accepted x free = omega arith

duty_begins : (f : Duty → Duty) (l : Looper) → begins_in (with_duty_by f l) ≤ begins_in l
duty_begins f (handling hand stage) = omega arith
duty_begins f (locked m) = omega arith
duty_begins f free = omega arith

lock_begins : (who : Runner) (l : Looper) → begins_in (locked_for who l) ≤ begins_in l
lock_begins (app m) l = omega arith
lock_begins (looper w) l = omega arith

pub ending_begins : (l : Looper) → begins_in (at_stage ending l) ≤ begins_in l
ending_begins (handling hand stage) = omega arith
ending_begins (locked m) = omega arith
ending_begins free = omega arith

-- ---- what instructions do

duty_noted : (f : Duty → Duty) (who : Runner) (s : State) → IsNotedState s → IsNotedState (with_duty f who s)
duty_noted f (looper v) s h = looper_noted s.ports s.loopers s.panes v (with_duty_by f) (λ l read. duty_begins f l) h
duty_noted f (app m) s h = h

pub told_noted : (message : Message) (o : Option ℕ) (s : State) → IsNotedState s → IsNotedState (told message o s)
told_noted message (Some m) s h = h
told_noted message None s h = h

waiting_noted : (who : Runner) (s : State) → IsNotedState s → IsNotedState (with_waiting who s)
waiting_noted (app m) s h = h
waiting_noted (looper v) s h = h

claimed_noted : (who : Runner) (s : State) → IsNotedState s → IsNotedState (claimed s who)
claimed_noted (app m) s h = h
claimed_noted (looper v) s h = h

pub freed_noted : (s : State) (w : ℕ) → IsNotedState s → IsNotedState (freed s w)
freed_noted s w h = looper_noted s.ports s.loopers s.panes w (λ _. free) (λ l read. omega arith) h

pub post_noted : (ports : List (Port Message)) (loopers : List Looper) (panes : List Pane) (v : ℕ) (letter : Letter Message) → letter.notice ≡ false → AreInTime ports → AreNoted ports loopers panes → AreNoted (at ports v (posted letter)) loopers panes
post_noted ports loopers panes v letter ordinary in_time h = port_noted ports loopers panes v (posted letter) (λ p read. post_notices letter p ordinary (in_time v p read)) h

pub granted_noted : (s : State) (who : Runner) (x : Wish) → AreInTime s.ports → IsNotedState s → IsNotedState (granted s who x)
unfolding granted
granted_noted s who (wish.Note word) in_time h = h
granted_noted s who (wish.Post v target message) in_time h = post_noted s.ports s.loopers s.panes v _ refl in_time h
granted_noted s who (wish.Send v target message) in_time h = by_test IsNotedState (is_accepted_at s v (hop_of s who)) _ _ (waiting_noted who _ (post_noted s.ports s.loopers s.panes v _ refl in_time h)) (post_noted s.ports s.loopers s.panes v _ refl in_time h)
granted_noted s who (wish.Forward v target) in_time h =
    by_option IsNotedState (forwarded_hand s who v target) s (hand_of s who) h (λ hand. by_test IsNotedState (is_accepted_at s v (hop_of s who)) _ _ (duty_noted _ who _ (post_noted s.ports s.loopers s.panes v _ refl in_time h)) (post_noted s.ports s.loopers s.panes v _ refl in_time h))
granted_noted s who (wish.Reply message) in_time h = duty_noted _ who _ (told_noted message _ s h)
granted_noted s who wish.Claim in_time h = claimed_noted who s h
granted_noted s who (wish.Lock v) in_time h = looper_noted s.ports s.loopers s.panes v (locked_for who) (λ l read. lock_begins who l) h
granted_noted s who wish.Unlock in_time h = by_option IsNotedState (freed s) s (window_of s who) h (λ v. freed_noted s v h)
granted_noted s who wish.Flush in_time h = by_option IsNotedState (flushed s) s (window_of s who) h (λ v. by_option IsNotedState (flushed_into s v) s (slice_get s.buffers v) h (λ b. h))
granted_noted s who wish.SyncDone in_time h = h
granted_noted s who (wish.Draw c) in_time h = by_option IsNotedState (λ v. drawn s v c) s (window_of s who) h (λ v. h)

pub moved_noted : (d : Declared) (who : Runner) (accepted : Bool) (x : Wish) (s : State) → IsNotedState s → IsNotedState (moved_on d who accepted x s)
unfolding moved_on
moved_noted d (app m) accepted x s h = h
moved_noted d (looper v) accepted x s h = looper_noted s.ports s.loopers s.panes v (looper_gone_on d v accepted x) (λ l read. looper_gone d v accepted x l) h

-- ---- a letter is taken

first_begins : (b : Bool) → begins_at (if b then beginning else in_body first_place) ≡ one_where b
first_begins true = refl
first_begins false = refl

pub taken_noted : (d : Declared) (s : State) (w : ℕ) → Takes s w → IsNotedState s → IsNotedState (taken d s w)
taken_noted d s w is h =
    subst IsNotedState (sym (taken_is d s w is))
    (subst (AreNoted (at s.ports w without_front) (with_letter_in_hand d s w is.letter).loopers) (at_same s.panes w)
    (all_noted s.ports s.loopers s.panes w without_front (λ _. handling (record { letter = is.letter; route = letter_route d w is.letter; duty = is.letter.duty }) (first_stage is.letter)) (λ x. x) (λ p l pane a b c old.
    let same : is.port ≡ p = same_element s.ports w is.port p is.read a in
    let idle : free ≡ l = same_element s.loopers w free l is.is_free b in
    let none : begins_in l ≡ 0 = ap begins_in (sym idle) in
    let first : slice_get p.arrived p.taken ≡ Some is.letter = ap (λ (q : Port Message). slice_get q.arrived q.taken) (sym same) ∙ is.first in
    record { count = omega (arith, old.count, none, total_front is_notice p.arrived p.taken is.letter first, first_begins is.letter.notice); closed = old.closed }) h))

-- ---- updates

begun_here : (p : Port Message) (l : Looper) (pane : Pane) (hand : Hand Message) (next : Stage) (k : Pane → Pane) → l ≡ handling hand beginning → begins_at next ≡ 0 → (k pane).notified ≡ false → IsNoted p l pane → IsNoted p (at_stage next l) (k pane)
begun_here p (handling other stage) pane hand next k is none over old =
    let one : begins_in (handling other stage) ≡ 1 = ap begins_in is in
    record { count = omega (arith, old.count, one, none, most_one pane.notified); closed = λ e. (let never : true ≡ false = sym e ∙ over in absurd (cc)) }
  where
    most_one : (b : Bool) → one_where b ≤ 1
    most_one true = omega arith
    most_one false = omega arith
begun_here p (locked m) pane hand next k is none over old = cc
begun_here p free pane hand next k is none over old = cc

stage_noted : (s : State) (w : ℕ) (hand : Hand Message) (next : Stage) (k : Pane → Pane) → slice_get s.loopers w ≡ Some (handling hand beginning) → begins_at next ≡ 0 → ((pane : Pane) → (k pane).notified ≡ false) → IsNotedState s → AreNoted s.ports (at s.loopers w (at_stage next)) (at s.panes w k)
stage_noted s w hand next k read none over h =
    subst (λ x. AreNoted x (at s.loopers w (at_stage next)) (at s.panes w k)) (at_same s.ports w)
    (all_noted s.ports s.loopers s.panes w (λ x. x) (at_stage next) k (λ p l pane a b c old. begun_here p l pane hand next k (same_element s.loopers w l (handling hand beginning) b read) none (over pane) old) h)

pub begun_noted : (s : State) (w : ℕ) (hand : Hand Message) → slice_get s.loopers w ≡ Some (handling hand beginning) → IsNotedState s → IsNotedState (begun s w)
unfolding begun
begun_noted s w hand read h =
    by_test IsNotedState (is_any (dirty_of s w)) (option_map_or (opened s w) (corner_at s w) s) (passed_by s w)
    (by_option IsNotedState (opened s w) s (corner_at s w) h (λ corner. stage_noted s w hand _ (with_session (session_of corner (dirty_of s w))) read refl (λ pane. refl) h))
    (stage_noted s w hand ending passed read refl (λ pane. refl) h)

-- ---- a notice is posted

record IsDue (pane : Pane) : Type 0 where
  closed : pane.session ≡ None
  first : pane.notified ≡ false

due_by : (a b : Bool) (pane : Pane) → (not a && b && is_none pane.session && not pane.notified) ≡ true → IsDue pane
due_by a b pane e =
    let three : (not a && b && is_none pane.session) ≡ true = and_first (not a && b && is_none pane.session) (not pane.notified) e in
    record { closed = none_of pane.session (and_second (not a && b) (is_none pane.session) three); first = not_of pane.notified (and_second (not a && b && is_none pane.session) (not pane.notified) e) }
  where
    none_of : {X : Type 0} (o : Option X) → is_none o ≡ true → o ≡ None
    none_of None e = refl
    none_of (Some x) e = cc

    not_of : (b : Bool) → not b ≡ true → b ≡ false
    not_of true e = cc
    not_of false e = refl

due_of : (s : State) (w : ℕ) (o : Option Window) (pane : Pane) → owes s w o (Some pane) ≡ true → IsDue pane
due_of s w (Some window) pane e = due_by window.closed (is_any (dirty_of s w)) pane e
due_of s w None pane e = cc

is_due : (s : State) (w : ℕ) (pane : Pane) → slice_get s.panes w ≡ Some pane → owes_notice s w ≡ true → IsDue pane
unfolding owes_notice
is_due s w pane read e = due_of s w (slice_get s.desk.windows.windows w) pane (sym (ap (owes s w (slice_get s.desk.windows.windows w)) read) ∙ e)

pub notified_noted : (s : State) (w : ℕ) → owes_notice s w ≡ true → AreInTime s.ports → IsNotedState s → IsNotedState (notified s w)
notified_noted s w due in_time h =
    subst (λ x. AreNoted (at s.ports w (with_letter (notice w))) x (at s.panes w with_notice)) (at_same s.loopers w)
    (all_noted s.ports s.loopers s.panes w (with_letter (notice w)) (λ x. x) with_notice (λ p l pane a b c old.
    let is : IsDue pane = is_due s w pane c due in
    let none : one_where pane.notified ≡ 0 = ap one_where is.first in
    record { count = omega (arith, old.count, none, more_waits (notice w) p (in_time w p a)); closed = λ e. is.closed }) h)

-- ---- commands

deed_noted : (pictures : List Picture) (deed : Deed) (v : ℕ) (o : Option Sight) (p : Port Message) (l : Looper) (pane : Pane) → IsNoted p l pane → IsNoted p l (pane_after pictures deed v o pane)
unfolding pane_after
deed_noted pictures deed v (Some sight) p l pane h = pane_if (is_done (deed_outcome pictures sight.reach.stack deed))
  where
    pane_if : (b : Bool) → IsNoted p l (if b then pane_by pictures deed v sight pane else pane)
    pane_if true = record { count = h.count; closed = h.closed }
    pane_if false = h
deed_noted pictures deed v None p l pane h = h

closing_noted : (s : State) (w : ℕ) (change : Change) → IsNotedState s → AreNoted (ports_after w change s.ports) s.loopers s.panes
closing_noted s w Close h = port_noted s.ports s.loopers s.panes w closed_port (λ p read. omega arith) h
closing_noted s w Show h = h
closing_noted s w Hide h = h
closing_noted s w (MoveTo corner) h = h
closing_noted s w (MoveBy dx dy) h = h
closing_noted s w (ResizeTo width height) h = h
closing_noted s w Activate h = h
closing_noted s w (Behind front) h = h
closing_noted s w (Focus view) h = h

changed_by : (s : State) (w : ℕ) (change : Change) (r : Result Desk ChangeFault) → IsNotedState s → IsNotedState (changed_to s w change r)
changed_by s w change (Ok desk) h = closing_noted s w change h
changed_by s w change (Err f) h = h

pub changed_noted : (s : State) (w : ℕ) (change : Change) → IsNotedState s → IsNotedState (changed s w change)
unfolding changed
changed_noted s w change h = changed_by s w change (desk_after s.desk w change) h

effect_noted : (pictures : List Picture) (s : State) (w : ℕ) (effect : Effect) → IsNotedState s → IsNotedState (with_effect pictures s w effect)
effect_noted pictures s w (at_view v deed) h = by_option IsNotedState (done_at_view pictures s w v deed) s (slice_get s.panes w) h (λ pane. pane_noted s.ports s.loopers s.panes w (pane_after pictures deed v (sight_at s w v pane)) (deed_noted pictures deed v (sight_at s w v pane)) h)
effect_noted pictures s w (changes change) h = changed_noted s w change h
effect_noted pictures s w ends_update h = pane_noted s.ports s.loopers s.panes w without_session (λ p l pane old. record { count = old.count; closed = λ e. refl }) h

pub executed_noted : (d : Declared) (s : State) (w : ℕ) → IsNotedState s → IsNotedState (executed d s w)
unfolding executed
executed_noted d s w h = by_option IsNotedState (executed_command d s w) s (option_and_then (λ link. slice_get link 0) (slice_get s.links w)) h (λ c. effect_noted d.pictures (without_command s w) w (effect_of c.command) h)
