-- After every legal history no session is open where a notice is on its way.
use Rattle.std.proofs.Common.{◌≡◌, ℕ, ◌+◌, ◌<◌, ◌≤◌, Bool, true, false, List, [], ◌∷◌, length, length-append, Option, Some, None, refl, sym, ap, subst, ◌∙◌, arith}
use Rattle.std.specs.Prelude.{◌==◌, slice_get, option_map, if◌then◌else◌}
use Rattle.std.specs.List.{enumerate_from}
use Rattle.std.proofs.lemmas.Option.{same_Some, slice_get_within}
use Rattle.be_actor.specs.declared.Wish.{Wish}
use Rattle.be_actor.specs.Wishes.{has_no_room}
use Rattle.be_geom.specs.declared.change.Change.TheVariants.{Activate}
use Rattle.be_input.specs.Deliveries.{Delivery, Post}
use Rattle.be_input.specs.declared.Event.TheVariants as event
use Rattle.be_looper.specs.Duties.{Hand, EndTelling, nobody, no_reply, not_understood, end_telling}
use Rattle.be_message.specs.Messages.{Message}
use Rattle.be_pane.specs.Panes.{Pane, first_pane}
use Rattle.be_port.specs.Ports.{Letter, Port, is_accepted, judged, posted, with_letter, empty_port}
use Rattle.be_script.specs.declared.InputLine.{InputLine}
use Rattle.be_script.specs.declared.InputLine.TheVariants as line
use Rattle.be_script.specs.declared.WindowLine.{WindowLine}
use Rattle.be_script.specs.Limits.{IsWithinLimits}
use Rattle.be_script.specs.Script.{Declared}
use Rattle.be_script.specs.Windows.{colors_of}
use Rattle.be_machine.specs.Activities.{Runner, looper, Activity, runner, twin}
use Rattle.be_machine.specs.Commands.{flushed_into}
use Rattle.be_machine.specs.declared.Act.{Act}
use Rattle.be_machine.specs.declared.Entry.{Entry}
use Rattle.be_machine.specs.History.{AreLegalFrom, IsLegalHistory, state_from, state_after}
use Rattle.be_machine.specs.Input.{input_letter, ports_with, delivery_of, activated, with_delivery, with_event}
use Rattle.be_machine.specs.Legal.{want_act, IsLegal}
use Rattle.be_machine.specs.Looper.{told_at_end, ended_hand, freed}
use Rattle.be_machine.specs.Program.{hand_at, buffered, body_wish, letter_program, update_program}
use Rattle.be_machine.specs.State.{State, Looper, free, locked, handling, in_body, beginning, in_update, ending, opening_state}
use Rattle.be_machine.specs.Step.{granted, met, step}
use Rattle.be_machine.specs.Update.{owes_notice, at_stage}
use Rattle.be_machine.specs.Wants.{Want, asks, takes, begins, flushes, draws_end, ends, notifies, executes, uses, stops, asks_or, looper_want, want_of}
use Rattle.be_machine.proofs.KeptNotices.{notices, begins_in, IsNoted, AreNoted, looper_noted}
use Rattle.be_machine.proofs.LegalEntries.{IsMet, met_by, maker, maker_is}
use Rattle.be_machine.proofs.Lists.{IsThere, there}
use Rattle.be_machine.proofs.HasParts.{HasParts}
use Rattle.be_machine.proofs.Histories.{parts_after}
use Rattle.be_machine.proofs.Opening.{repeated, at_mapped}
use Rattle.be_machine.proofs.ProgressCases.{by_option}
use Rattle.be_machine.proofs.ProgressPlaces.{each_kept}
use Rattle.be_machine.proofs.Waiting.{IsTakenInTime, one_where, IsWaiting}
use Rattle.be_machine.proofs.WaitingAfter.{opening_waiting}
use Rattle.be_machine.proofs.WaitingSteps.{take_tells, waiting_step}
use Rattle.be_machine.proofs.KeptNoticeSteps.{IsNotedState, AreInTime, ending_begins, granted_noted, moved_noted, taken_noted, begun_noted, notified_noted, changed_noted, executed_noted, freed_noted, post_noted}

-- ---- input

timely_by : (b : Bool) (letter : Letter Message) (p : Port Message) → IsTakenInTime p → IsTakenInTime (if b then with_letter letter p else p)
timely_by true letter p h = let more : length (with_letter letter p).arrived ≡ length p.arrived + 1 = length-append p.arrived (letter ∷ []) in omega (arith, h, more)
timely_by false letter p h = h

timely : (letter : Letter Message) (p : Port Message) → IsTakenInTime p → IsTakenInTime (posted letter p)
unfolding posted
timely letter p h = timely_by (is_accepted (judged p letter.hop)) letter p h

with_timely : (ports : List (Port Message)) (o : Option Post) → AreInTime ports → AreInTime (ports_with ports o)
with_timely ports (Some post) h = each_kept (λ w p. IsTakenInTime p) ports post.window (posted (input_letter post)) (λ p read old. timely (input_letter post) p old) h
with_timely ports None h = h

with_noted : (ports : List (Port Message)) (loopers : List Looper) (panes : List Pane) (o : Option Post) → AreInTime ports → AreNoted ports loopers panes → AreNoted (ports_with ports o) loopers panes
with_noted ports loopers panes (Some post) in_time h = post_noted ports loopers panes post.window (input_letter post) refl in_time h
with_noted ports loopers panes None in_time h = h

activated_noted : (s : State) (o : Option ℕ) → IsNotedState s → IsNotedState (activated s o)
activated_noted s (Some w) h = changed_noted s w Activate h
activated_noted s None h = h

delivery_noted : (s : State) (x : Delivery) → AreInTime s.ports → IsNotedState s → IsNotedState (with_delivery s x)
delivery_noted s x in_time h = activated_noted _ x.activate (with_noted (ports_with s.ports x.first) s.loopers s.panes x.second (with_timely s.ports x.first in_time) (with_noted s.ports s.loopers s.panes x.first in_time h))

event_noted : (s : State) (x : InputLine) → AreInTime s.ports → IsNotedState s → IsNotedState (with_event s x)
event_noted s (line.Press p) in_time h = delivery_noted s (delivery_of s (event.Press p)) in_time h
event_noted s (line.Release p) in_time h = delivery_noted s (delivery_of s (event.Release p)) in_time h
event_noted s (line.Move p) in_time h = delivery_noted s (delivery_of s (event.Move p)) in_time h
event_noted s (line.Key key) in_time h = delivery_noted s (delivery_of s (event.Key key)) in_time h
event_noted s (line.After m) in_time h = h

-- ---- what is wanted

pub not_begins : (who : Runner) (w : ℕ) (o : Option Wish) (b : Bool) (x y : Want) → (x ≡ begins w → ⊥) → (y ≡ begins w → ⊥) → asks_or who o (if b then x else y) ≡ begins w → ⊥
not_begins who w (Some wish) b x y f g e = cc
not_begins who w None true x y f g e = f e
not_begins who w None false x y f g e = g e

-- a looper that wants to begin has a notice in its hand
record IsBeginning (l : Looper) : Type 0 where
  hand : Hand Message
  is : l ≡ handling hand beginning

begins_by : (d : Declared) (s : State) (w : ℕ) (l : Looper) → looper_want d s w l ≡ begins w → IsBeginning l
begins_by d s w (handling hand (in_body place)) e = absurd (not_begins (looper w) w (body_wish s w hand (letter_program d w hand) place) (buffered s (looper w) == 0) (ends w) (flushes w) (λ never. cc) (λ never. cc) e)
begins_by d s w (handling hand beginning) e = record { hand = hand; is = refl }
begins_by d s w (handling hand (in_update views place)) e = absurd (not_begins (looper w) w (body_wish s w hand (update_program d w views) place) (has_no_room (buffered s (looper w))) (flushes w) (draws_end w) (λ never. cc) (λ never. cc) e)
begins_by d s w (handling hand ending) e = absurd (not_begins (looper w) w None (buffered s (looper w) == 0) (ends w) (flushes w) (λ never. cc) (λ never. cc) e)
begins_by d s w (locked m) e = cc
begins_by d s w free e = cc

pub begins_read : (d : Declared) (s : State) (w : ℕ) (o : Option Looper) → slice_get s.loopers w ≡ o → option_map (looper_want d s w) o ≡ Some (begins w) → (hand : Hand Message) × (slice_get s.loopers w ≡ Some (handling hand beginning))
begins_read d s w (Some l) read e = let is : IsBeginning l = begins_by d s w l (same_Some (looper_want d s w l) (begins w) e) in (is.hand, read ∙ ap Some is.is)
begins_read d s w None read e = cc

pub begins_there : (d : Declared) (s : State) (w : ℕ) → want_of d s (runner (looper w)) ≡ Some (begins w) → (hand : Hand Message) × (slice_get s.loopers w ≡ Some (handling hand beginning))
unfolding want_of
begins_there d s w e = begins_read d s w (slice_get s.loopers w) refl e

owed_if : (w : ℕ) (b : Bool) → (if b then notifies w else executes w) ≡ notifies w → b ≡ true
owed_if w true e = refl
owed_if w false e = cc

owed_there : (d : Declared) (s : State) (w : ℕ) → want_of d s (twin w) ≡ Some (notifies w) → owes_notice s w ≡ true
unfolding want_of
owed_there d s w e = owed_if w (owes_notice s w) (same_Some _ (notifies w) e)

-- ---- all wants

telling_noted : (t : EndTelling) (s : State) → IsNotedState s → IsNotedState (told_at_end t s)
telling_noted nobody s h = h
telling_noted (no_reply m) s h = h
telling_noted (not_understood m) s h = h

want_noted : (d : Declared) (s : State) (who : Activity) (want : Want) (a : Act) → AreInTime s.ports → maker want ≡ who → want_of d s who ≡ Some want → want_act d s want ≡ Some a → IsNotedState s → IsNotedState (met d s want)
unfolding met
want_noted d s who (asks maker_of x) a in_time made wanted granted h = moved_noted d maker_of _ x _ (granted_noted s maker_of x in_time h)
want_noted d s who (takes w) a in_time made wanted granted h = taken_noted d s w (take_tells d s w a granted) h
want_noted d s who (begins w) a in_time made wanted granted h = let at = begins_there d s w (ap (want_of d s) made ∙ wanted) in begun_noted s w at.0 at.1 h
want_noted d s who (flushes w) a in_time made wanted granted h = by_option IsNotedState (flushed_into s w) s (slice_get s.buffers w) h (λ b. h)
want_noted d s who (draws_end w) a in_time made wanted granted h = looper_noted s.ports s.loopers s.panes w (at_stage ending) (λ l read. ending_begins l) h
want_noted d s who (ends w) a in_time made wanted granted h = by_option IsNotedState (ended_hand s w) s (hand_at s w) h (λ hand. telling_noted (end_telling hand.duty hand.route) (freed s w) (freed_noted s w h))
want_noted d s who (notifies w) a in_time made wanted granted h = notified_noted s w (owed_there d s w (ap (want_of d s) made ∙ wanted)) in_time h
want_noted d s who (executes w) a in_time made wanted granted h = executed_noted d s w h
want_noted d s who (uses x) a in_time made wanted granted h = event_noted s x in_time h
want_noted d s who stops a in_time made wanted granted h = h

step_noted : (d : Declared) (s : State) (e : Entry) → IsLegal d s e → IsWaiting d s → IsNotedState s → IsNotedState (step d s e)
step_noted d s e legal waits h =
    let is : IsMet d s e = met_by d s e legal in
    subst IsNotedState (sym is.stepped) (want_noted d s is.who is.want e.act waits.taken (maker_is d s is.who is.want is.wanted) is.wanted is.granted h)

-- ---- histories

opening_noted : (d : Declared) → IsNotedState (opening_state d)
unfolding opening_state
opening_noted d = λ w p l pane a b c.
    let none_waits : notices p ≡ 0 = at_mapped (λ q. notices q ≡ 0) (λ (line : WindowLine). empty_port line.port) d.windows w (λ line. refl) p a in
    let none_begins : begins_in l ≡ 0 = ap begins_in (sym (repeated (length d.windows) w free l b)) in
    let none_notified : pane.notified ≡ false = at_mapped (λ (q : Pane). q.notified ≡ false) (λ (p : ℕ × WindowLine). first_pane (colors_of d p.0 p.1)) (enumerate_from 0 d.windows) w (λ p. refl) pane c in
    record { count = omega (arith, none_waits, none_begins); closed = λ e. (let never : true ≡ false = sym e ∙ none_notified in absurd (cc)) }

noted_from : (d : Declared) (s : State) (h : List Entry) → IsWithinLimits d → AreLegalFrom d s h → IsWaiting d s → IsNotedState s → IsNotedState (state_from d s h)
unfolding AreLegalFrom state_from
noted_from d s [] limits legal waits is = is
noted_from d s (e ∷ es) limits legal waits is = noted_from d (step d s e) es limits legal.1 (waiting_step d s e limits legal.0 waits) (step_noted d s e legal.0 waits is)

pub noted_after : (d : Declared) (h : List Entry) → IsWithinLimits d → IsLegalHistory d h → IsNotedState (state_after d h)
noted_after d h limits legal = noted_from d (opening_state d) h limits legal (opening_waiting d) (opening_noted d)

notified_by : (b : Bool) (pane : Pane) → pane.notified ≡ b → 1 ≤ one_where pane.notified → pane.notified ≡ true
notified_by true pane e one = e
notified_by false pane e one = let none : one_where pane.notified ≡ 0 = ap one_where e in absurd (omega (arith, none, one))

here_noted : (p : Port Message) (l : Looper) (pane : Pane) → begins_in l ≡ 1 → IsNoted p l pane → (pane.notified ≡ true) × (pane.session ≡ None)
here_noted p l pane one is =
    let on_its_way : pane.notified ≡ true = notified_by pane.notified pane refl (omega (arith, is.count, one)) in
    (on_its_way, is.closed on_its_way)

pub no_session : (d : Declared) (h : List Entry) (w : ℕ) (hand : Hand Message) (pane : Pane) → IsWithinLimits d → IsLegalHistory d h → slice_get (state_after d h).loopers w ≡ Some (handling hand beginning) → slice_get (state_after d h).panes w ≡ Some pane → (pane.notified ≡ true) × (pane.session ≡ None)
no_session d h w hand pane limits legal read there_pane =
    let parts : HasParts d (state_after d h) = parts_after d h legal in
    let inside : w < length (state_after d h).panes = slice_get_within (state_after d h).panes w pane there_pane in
    let port : IsThere (state_after d h).ports w = there (state_after d h).ports w (omega (arith, inside, parts.panes, parts.ports)) in
    here_noted port.element (handling hand beginning) pane refl (noted_after d h limits legal w port.element (handling hand beginning) pane port.read read there_pane)
