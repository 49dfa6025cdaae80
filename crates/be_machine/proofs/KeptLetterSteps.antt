-- After every legal history the message in a hand lies at most 15 deep.
use Rattle.be_machine.proofs.ProgressAfter.{IsSettled, opening_settled, settled_step}
use Rattle.be_machine.proofs.Opening.{repeated, at_mapped}
use Rattle.be_machine.proofs.LegalEntries.{IsMet, met_by, maker, maker_is}
use Rattle.be_machine.specs.Legal.{IsLegal}
use Rattle.be_machine.specs.History.{AreLegalFrom, IsLegalHistory, state_from, state_after}
use Rattle.be_machine.specs.declared.Entry.{Entry}
use Rattle.be_script.specs.declared.WindowLine.{WindowLine}
use Rattle.be_actor.specs.declared.Wish.{Wish}
use Rattle.be_bitmap.specs.Pictures.{Picture}
use Rattle.be_command.specs.Effects.{Effect, at_view, changes, ends_update, effect_of}
use Rattle.be_desk.specs.Changes.{Desk, desk_after}
use Rattle.be_geom.specs.declared.change.Change.{Change}
use Rattle.be_geom.specs.declared.change.Change.TheVariants.{Show, Hide, MoveTo, MoveBy, ResizeTo, Activate, Behind, Focus, Close}
use Rattle.be_input.specs.Deliveries.{Delivery, Post}
use Rattle.be_looper.specs.Duties.{Hand, EndTelling, nobody, no_reply, not_understood, end_telling}
use Rattle.be_machine.proofs.KeptDepths.{IsWithin}
use Rattle.be_machine.proofs.KeptLetters.{IsShallow, AreShallow, IsShallowHand, ports_shallow, drafted_depth, IsMade, body_made, app_made, gone_hand, duty_hand, stage_hand, one_arrives}
use Rattle.be_machine.proofs.ProgressCases.{by_test, by_option}
use Rattle.be_machine.proofs.ProgressLocks.{Follows, StepKeeps, step_keeps}
use Rattle.be_machine.proofs.ProgressLocksMet.{IsLockedState}
use Rattle.be_machine.proofs.ProgressPlaces.{Each, each_kept}
use Rattle.be_machine.proofs.ProgressStands.{AppStands, app_stands, LooperStands, looper_stands}
use Rattle.be_machine.proofs.WaitingSteps.{hand_read}
use Rattle.be_machine.proofs.WorkDeliveries.{press_one, release_one, key_one, move_first, move_second}
use Rattle.be_machine.specs.Activities.{Runner, app, looper, runner, Activity}
use Rattle.be_machine.specs.Commands.{flushed, flushed_into, drawn, with_effect, done_at_view, without_front as without_command, executed_command, executed}
use Rattle.be_machine.specs.Input.{input_letter, ports_with, delivery_of, activated, with_delivery, with_event}
use Rattle.be_machine.specs.Lists.{at}
use Rattle.be_machine.specs.Looper.{with_duty_by, with_duty, with_waiting, forwarded_hand, told, claimed, freed, locked_for, told_at_end, ended_hand}
use Rattle.be_machine.specs.Port.{is_accepted_at, with_letter_in_hand, notice}
use Rattle.be_machine.specs.Program.{window_of, hop_of, hand_of, moved_on, looper_gone_on, buffered, app_program, hand_in, hand_at}
use Rattle.be_machine.specs.State.{State, Looper, free, handling, ending, opening_state}
use Rattle.be_machine.specs.Step.{granted, step, met}
use Rattle.be_machine.specs.Update.{at_stage, begun, opened, passed_by}
use Rattle.be_machine.specs.Wants.{asks, want_of, Want, takes, begins, flushes, draws_end, ends, notifies, executes, uses, stops}
use Rattle.be_machine.specs.Windows.{corner_at, dirty_of, ports_after, changed, changed_to}
use Rattle.be_message.specs.Depths.{depth_of}
use Rattle.be_message.specs.Messages.{Message}
use Rattle.be_message.specs.declared.target.Target.{Target}
use Rattle.be_port.specs.Ports.{Letter, Port, posted, without_front, closed_port, front, with_letter, empty_port}
use Rattle.be_port.specs.declared.Duty.{Duty}
use Rattle.be_script.specs.Limits.{IsWithinLimits}
use Rattle.be_script.specs.Script.{Declared}
use Rattle.be_script.specs.declared.InputLine.{InputLine}
use Rattle.be_stack.specs.declared.fault.ChangeFault.{ChangeFault}
use Rattle.be_update.specs.Sessions.{is_any}
use Rattle.std.proofs.Common.{◌≡◌, ℕ, ◌≤◌, Bool, true, false, List, Option, Some, None, Result, Ok, Err, refl, sym, ap, subst, arith, ◌+◌, ◌∙◌, [], ◌∷◌, length}
use Rattle.std.specs.Option.{option_map_or}
use Rattle.std.specs.Prelude.{slice_get, option_and_then}
use Rattle.be_actor.specs.declared.Wish.TheVariants as wish
use Rattle.be_input.specs.declared.Event.TheVariants as event
use Rattle.be_script.specs.declared.InputLine.TheVariants as line

record AreLettered (ports : List (Port Message)) (loopers : List Looper) : Type 0 where
  arrived : Each (λ w p. AreShallow p) ports
  hands : Each (λ w l. IsShallowHand l) loopers

abbrev IsLettered : State → Type 0
IsLettered s = AreLettered s.ports s.loopers

-- ---- what instructions do

post_lettered : (s : State) (v : ℕ) (letter : Letter Message) → depth_of letter.body ≤ letter.hop + 1 → IsLettered s → AreLettered (at s.ports v (posted letter)) s.loopers
post_lettered s v letter deep h = record { arrived = ports_shallow s.ports v letter deep h.arrived; hands = h.hands }

looper_lettered : (s : State) (w : ℕ) (f : Looper → Looper) → ((l : Looper) → IsShallowHand l → IsShallowHand (f l)) → IsLettered s → AreLettered s.ports (at s.loopers w f)
looper_lettered s w f keep h = record { arrived = h.arrived; hands = each_kept (λ w l. IsShallowHand l) s.loopers w f (λ l read old. keep l old) h.hands }

duty_lettered : (f : Duty → Duty) (who : Runner) (s : State) → IsLettered s → IsLettered (with_duty f who s)
duty_lettered f (looper v) s h = looper_lettered s v (with_duty_by f) (duty_hand f) h
duty_lettered f (app m) s h = h

told_lettered : (message : Message) (o : Option ℕ) (s : State) → IsLettered s → IsLettered (told message o s)
told_lettered message (Some m) s h = h
told_lettered message None s h = h

waiting_lettered : (who : Runner) (s : State) → IsLettered s → IsLettered (with_waiting who s)
waiting_lettered (app m) s h = h
waiting_lettered (looper v) s h = h

claimed_lettered : (who : Runner) (s : State) → IsLettered s → IsLettered (claimed s who)
claimed_lettered (app m) s h = h
claimed_lettered (looper v) s h = h

lock_hand : (who : Runner) (l : Looper) → IsShallowHand l → IsShallowHand (locked_for who l)
lock_hand (app m) l h = tt
lock_hand (looper w) l h = h

-- a message fits the hop with which it is posted
abbrev IsFitting : ℕ → Wish → Type 0
IsFitting k (wish.Post w target message) = depth_of message ≤ k + 1
IsFitting k (wish.Send w target message) = depth_of message ≤ k + 1
IsFitting k (wish.Note word) = Unit {0}
IsFitting k wish.Claim = Unit {0}
IsFitting k (wish.Forward w target) = Unit {0}
IsFitting k (wish.Reply message) = Unit {0}
IsFitting k (wish.Lock w) = Unit {0}
IsFitting k wish.Unlock = Unit {0}
IsFitting k wish.Flush = Unit {0}
IsFitting k wish.SyncDone = Unit {0}
IsFitting k (wish.Draw c) = Unit {0}

in_hand_shallow : (s : State) (who : Runner) (hand : Hand Message) → hand_of s who ≡ Some hand → IsLettered s → depth_of hand.letter.body ≤ hop_of s who + 1
in_hand_shallow s (app m) hand e h = cc
in_hand_shallow s (looper v) hand e h =
    let read = hand_read s v hand (slice_get s.loopers v) refl e in
    let shallow : IsShallow hand.letter = h.hands v (handling hand read.0) read.1 in
    let hop : hop_of s (looper v) ≡ hand.letter.hop + 1 = ap (λ o. option_map_or (λ (x : Hand Message). x.letter.hop + 1) o 0) e in
    omega (arith, shallow.0, hop)

forward_lettered : (s : State) (who : Runner) (v : ℕ) (target : Target) (o : Option (Hand Message)) → hand_of s who ≡ o → IsLettered s → IsLettered (option_map_or (forwarded_hand s who v target) o s)
forward_lettered s who v target (Some hand) e h =
    by_test IsLettered (is_accepted_at s v (hop_of s who)) _ _ (duty_lettered _ who _ (post_lettered s v _ (in_hand_shallow s who hand e h) h)) (post_lettered s v _ (in_hand_shallow s who hand e h) h)
forward_lettered s who v target None e h = h

granted_lettered : (s : State) (who : Runner) (x : Wish) → IsFitting (hop_of s who) x → IsLettered s → IsLettered (granted s who x)
unfolding granted
granted_lettered s who (wish.Note word) fits h = h
granted_lettered s who (wish.Post v target message) fits h = post_lettered s v _ fits h
granted_lettered s who (wish.Send v target message) fits h = by_test IsLettered (is_accepted_at s v (hop_of s who)) _ _ (waiting_lettered who _ (post_lettered s v _ fits h)) (post_lettered s v _ fits h)
granted_lettered s who (wish.Forward v target) fits h = forward_lettered s who v target (hand_of s who) refl h
granted_lettered s who (wish.Reply message) fits h = duty_lettered _ who _ (told_lettered message _ s h)
granted_lettered s who wish.Claim fits h = claimed_lettered who s h
granted_lettered s who (wish.Lock v) fits h = looper_lettered s v (locked_for who) (lock_hand who) h
granted_lettered s who wish.Unlock fits h = by_option IsLettered (freed s) s (window_of s who) h (λ v. looper_lettered s v (λ _. free) (λ l old. tt) h)
granted_lettered s who wish.Flush fits h = by_option IsLettered (flushed s) s (window_of s who) h (λ v. by_option IsLettered (flushed_into s v) s (slice_get s.buffers v) h (λ b. h))
granted_lettered s who wish.SyncDone fits h = h
granted_lettered s who (wish.Draw c) fits h = by_option IsLettered (λ v. drawn s v c) s (window_of s who) h (λ v. h)

moved_lettered : (d : Declared) (who : Runner) (accepted : Bool) (x : Wish) (s : State) → IsLettered s → IsLettered (moved_on d who accepted x s)
unfolding moved_on
moved_lettered d (app m) accepted x s h = h
moved_lettered d (looper v) accepted x s h = looper_lettered s v (looper_gone_on d v accepted x) (gone_hand d v accepted x) h

fitting : (n : ℕ) (has : Bool) (now : Option Message) (x : Wish) → IsWithin n now → IsMade has now x → IsFitting n x
fitting n has now (wish.Post w target message) deep made = drafted_depth n has now message deep made
fitting n has now (wish.Send w target message) deep made = drafted_depth n has now message deep made
fitting n has now (wish.Note word) deep made = tt
fitting n has now wish.Claim deep made = tt
fitting n has now (wish.Forward w target) deep made = tt
fitting n has now (wish.Reply message) deep made = tt
fitting n has now (wish.Lock w) deep made = tt
fitting n has now wish.Unlock deep made = tt
fitting n has now wish.Flush deep made = tt
fitting n has now wish.SyncDone deep made = tt
fitting n has now (wish.Draw c) deep made = tt

app_fitting : (d : Declared) (s : State) (m : ℕ) (x : Wish) → IsLockedState d s → AppStands d s m x → IsFitting 0 x
app_fitting d s m x locks is =
    let follows : Follows d s.loopers m is.it = locks.follows m is.it is.read in
    let keeps : StepKeeps d follows.lock is.step _ = step_keeps d follows.lock (app_program d m) is.it.place.step is.step is.next follows.keeps in
    fitting 0 false None x tt (subst (IsMade false None) is.asked (app_made d follows.lock is.step is.it.place.part (buffered s (app m)) keeps.here))

body_fitting : (d : Declared) (s : State) (w : ℕ) (x : Wish) → IsLettered s → LooperStands d s w x → IsFitting (hop_of s (looper w)) x
body_fitting d s w x h is =
    let shallow : IsShallow is.hand.letter = h.hands w (handling is.hand is.stage) is.read in
    let hop : hop_of s (looper w) ≡ is.hand.letter.hop + 1 = ap (λ o. option_map_or (λ (x : Hand Message). x.letter.hop + 1) (option_and_then hand_in o) 0) is.read in
    subst (λ k. IsFitting k x) (sym hop) (fitting (is.hand.letter.hop + 1) true (Some is.hand.letter.body) x shallow.0 (subst (IsMade true (Some is.hand.letter.body)) is.asked (body_made d w is.step is.place.part (buffered s (looper w)) (Some is.hand.letter.body) is.allowed)))

asked_lettered : (d : Declared) (s : State) (who : Runner) (x : Wish) → IsWithinLimits d → IsLockedState d s → want_of d s (runner who) ≡ Some (asks who x) → IsLettered s → IsLettered (granted s who x)
asked_lettered d s (app m) x limits locks wanted h = granted_lettered s (app m) x (app_fitting d s m x locks (app_stands d s m x wanted)) h
asked_lettered d s (looper w) x limits locks wanted h = granted_lettered s (looper w) x (body_fitting d s w x h (looper_stands d s w x limits wanted)) h

-- ---- other wants

taken_lettered : (d : Declared) (s : State) (w : ℕ) (p : Port Message) (o : Option (Letter Message)) → slice_get s.ports w ≡ Some p → front p ≡ o → IsLettered s → IsLettered (option_map_or (with_letter_in_hand d s w) o s)
taken_lettered d s w p (Some letter) read first h = record {
  arrived = each_kept (λ w p. AreShallow p) s.ports w without_front (λ p read old. old) h.arrived;
  hands = each_kept (λ w l. IsShallowHand l) s.loopers w _ (λ l there old. h.arrived w p read p.taken letter first) h.hands;
}
taken_lettered d s w p None read first h = h

port_taken : (d : Declared) (s : State) (w : ℕ) (o : Option (Port Message)) → slice_get s.ports w ≡ o → IsLettered s → IsLettered (option_map_or (with_letter_in_hand d s w) (option_and_then front o) s)
port_taken d s w (Some p) read h = taken_lettered d s w p (front p) read refl h
port_taken d s w None read h = h

closing_lettered : (s : State) (w : ℕ) (change : Change) → IsLettered s → AreLettered (ports_after w change s.ports) s.loopers
closing_lettered s w Close h = record { arrived = each_kept (λ w p. AreShallow p) s.ports w closed_port (λ p read old. old) h.arrived; hands = h.hands }
closing_lettered s w Show h = h
closing_lettered s w Hide h = h
closing_lettered s w (MoveTo corner) h = h
closing_lettered s w (MoveBy dx dy) h = h
closing_lettered s w (ResizeTo width height) h = h
closing_lettered s w Activate h = h
closing_lettered s w (Behind front) h = h
closing_lettered s w (Focus view) h = h

changed_by : (s : State) (w : ℕ) (change : Change) (r : Result Desk ChangeFault) → IsLettered s → IsLettered (changed_to s w change r)
changed_by s w change (Ok desk) h = closing_lettered s w change h
changed_by s w change (Err f) h = h

changed_lettered : (s : State) (w : ℕ) (change : Change) → IsLettered s → IsLettered (changed s w change)
unfolding changed
changed_lettered s w change h = changed_by s w change (desk_after s.desk w change) h

effect_lettered : (pictures : List Picture) (s : State) (w : ℕ) (effect : Effect) → IsLettered s → IsLettered (with_effect pictures s w effect)
effect_lettered pictures s w (at_view v deed) h = by_option IsLettered (done_at_view pictures s w v deed) s (slice_get s.panes w) h (λ pane. h)
effect_lettered pictures s w (changes change) h = changed_lettered s w change h
effect_lettered pictures s w ends_update h = h

executed_lettered : (d : Declared) (s : State) (w : ℕ) → IsLettered s → IsLettered (executed d s w)
unfolding executed
executed_lettered d s w h = by_option IsLettered (executed_command d s w) s (option_and_then (λ link. slice_get link 0) (slice_get s.links w)) h (λ c. effect_lettered d.pictures (without_command s w) w (effect_of c.command) h)

begun_lettered : (s : State) (w : ℕ) → IsLettered s → IsLettered (begun s w)
unfolding begun
begun_lettered s w h =
    by_test IsLettered (is_any (dirty_of s w)) (option_map_or (opened s w) (corner_at s w) s) (passed_by s w)
    (by_option IsLettered (opened s w) s (corner_at s w) h (λ corner. looper_lettered s w _ (stage_hand _) h))
    (looper_lettered s w (at_stage ending) (stage_hand ending) h)

telling_lettered : (t : EndTelling) (s : State) → IsLettered s → IsLettered (told_at_end t s)
telling_lettered nobody s h = h
telling_lettered (no_reply m) s h = h
telling_lettered (not_understood m) s h = h

-- ---- input

abbrev IsFlat : Option Post → Type 0
IsFlat o = (post : Post) → o ≡ Some post → depth_of post.message ≡ 1

flat_ports : (ports : List (Port Message)) (o : Option Post) → IsFlat o → Each (λ w p. AreShallow p) ports → Each (λ w p. AreShallow p) (ports_with ports o)
flat_ports ports (Some post) flat h = ports_shallow ports post.window (input_letter post) (omega (arith, flat post refl)) h
flat_ports ports None flat h = h

activated_lettered : (s : State) (o : Option ℕ) → IsLettered s → IsLettered (activated s o)
activated_lettered s (Some w) h = changed_lettered s w Activate h
activated_lettered s None h = h

delivery_lettered : (s : State) (x : Delivery) → IsFlat x.first → IsFlat x.second → IsLettered s → IsLettered (with_delivery s x)
delivery_lettered s x first second h = activated_lettered _ x.activate (record { arrived = flat_ports (ports_with s.ports x.first) x.second second (flat_ports s.ports x.first first h.arrived); hands = h.hands })

none_flat : (o : Option Post) → o ≡ None → IsFlat o
none_flat (Some post) e other same = cc
none_flat None e other same = cc

event_lettered : (s : State) (x : InputLine) → IsLettered s → IsLettered (with_event s x)
event_lettered s (line.Press p) h = let one = press_one s.desk.windows s.desk.pointing p in delivery_lettered s (delivery_of s (event.Press p)) (λ post e. (one.fits post e).flat) (none_flat _ one.alone) h
event_lettered s (line.Release p) h = let one = release_one s.desk.windows s.desk.pointing p in delivery_lettered s (delivery_of s (event.Release p)) (λ post e. (one.fits post e).flat) (none_flat _ one.alone) h
event_lettered s (line.Move p) h = delivery_lettered s (delivery_of s (event.Move p)) (λ post e. (move_first s.desk.windows s.desk.pointing p post e).flat) (λ post e. (move_second s.desk.windows s.desk.pointing p post e).flat) h
event_lettered s (line.Key key) h = let one = key_one s.desk.windows s.desk.pointing key in delivery_lettered s (delivery_of s (event.Key key)) (λ post e. (one.fits post e).flat) (none_flat _ one.alone) h
event_lettered s (line.After m) h = h

-- ---- all wants

want_lettered : (d : Declared) (s : State) (who : Activity) (want : Want) → IsWithinLimits d → IsLockedState d s → maker want ≡ who → want_of d s who ≡ Some want → IsLettered s → IsLettered (met d s want)
unfolding met
want_lettered d s who (asks maker_of x) limits locks made wanted h = moved_lettered d maker_of _ x _ (asked_lettered d s maker_of x limits locks (ap (want_of d s) made ∙ wanted) h)
want_lettered d s who (takes w) limits locks made wanted h = port_taken d s w (slice_get s.ports w) refl h
want_lettered d s who (begins w) limits locks made wanted h = begun_lettered s w h
want_lettered d s who (flushes w) limits locks made wanted h = by_option IsLettered (flushed_into s w) s (slice_get s.buffers w) h (λ b. h)
want_lettered d s who (draws_end w) limits locks made wanted h = looper_lettered s w (at_stage ending) (stage_hand ending) h
want_lettered d s who (ends w) limits locks made wanted h = by_option IsLettered (ended_hand s w) s (hand_at s w) h (λ hand. telling_lettered (end_telling hand.duty hand.route) (freed s w) (looper_lettered s w (λ _. free) (λ l old. tt) h))
want_lettered d s who (notifies w) limits locks made wanted h = record { arrived = each_kept (λ w p. AreShallow p) s.ports w (with_letter (notice w)) (λ p read old. one_arrives p.arrived (notice w) old (omega arith, omega arith)) h.arrived; hands = h.hands }
want_lettered d s who (executes w) limits locks made wanted h = executed_lettered d s w h
want_lettered d s who (uses x) limits locks made wanted h = event_lettered s x h
want_lettered d s who stops limits locks made wanted h = h

step_lettered : (d : Declared) (s : State) (e : Entry) → IsWithinLimits d → IsLegal d s e → IsLockedState d s → IsLettered s → IsLettered (step d s e)
step_lettered d s e limits legal locks h =
    let is : IsMet d s e = met_by d s e legal in
    subst IsLettered (sym is.stepped) (want_lettered d s is.who is.want limits locks (maker_is d s is.who is.want is.wanted) is.wanted h)

-- ---- histories

no_letters : (i : ℕ) (letter : Letter Message) → slice_get [] i ≡ Some letter → IsShallow letter
no_letters i letter e = cc

opening_lettered : (d : Declared) → IsLettered (opening_state d)
unfolding opening_state
opening_lettered d = record {
  arrived = λ w. at_mapped AreShallow (λ (line : WindowLine). empty_port line.port) d.windows w (λ line i letter e. no_letters i letter e);
  hands = λ w l read. subst IsShallowHand (repeated (length d.windows) w free l read) tt;
}

lettered_from : (d : Declared) (s : State) (h : List Entry) → IsWithinLimits d → AreLegalFrom d s h → IsSettled d s → IsLettered s → IsLettered (state_from d s h)
unfolding AreLegalFrom state_from
lettered_from d s [] limits legal settled is = is
lettered_from d s (e ∷ es) limits legal settled is = lettered_from d (step d s e) es limits legal.1 (settled_step d s e limits legal.0 settled) (step_lettered d s e limits legal.0 settled.locks is)

pub shallow_hand : (d : Declared) (h : List Entry) (w : ℕ) (hand : Hand Message) → IsWithinLimits d → IsLegalHistory d h → hand_at (state_after d h) w ≡ Some hand → depth_of hand.letter.body ≤ 15
shallow_hand d h w hand limits legal e =
    let read = hand_read (state_after d h) w hand (slice_get (state_after d h).loopers w) refl e in
    let all : IsLettered (state_after d h) = lettered_from d (opening_state d) h limits legal (opening_settled d limits) (opening_lettered d) in
    let shallow : IsShallow hand.letter = all.hands w (handling hand read.0) read.1 in
    omega (arith, shallow.0, shallow.1)
