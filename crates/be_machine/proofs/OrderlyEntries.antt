-- What any legal entry says of a window may happen there next, and the tally behind it is that of the state behind it.
use Rattle.std.proofs.Common.{◌≡◌, ℕ, ◌+◌, List, ◌++◌, length, Option, Some, None, refl, sym, ap, subst, ◌∙◌}
use Rattle.std.specs.Prelude.{slice_get, ◌==◌, option_map, option_and_then, if◌then◌else◌}
use Rattle.std.specs.Option.{option_map_or}
use Rattle.std.proofs.lemmas.Option.{same_Some}
use Rattle.be_command.specs.declared.Command.TheVariants.{EndUpdate}
use Rattle.be_geom.specs.declared.change.Change.TheVariants.{Activate}
use Rattle.be_link.specs.Queues.{Numbered}
use Rattle.be_looper.specs.Duties.{Hand, end_telling, EndTelling, nobody, no_reply, not_understood}
use Rattle.be_message.specs.Messages.{Message}
use Rattle.be_port.specs.Ports.{Letter, Port, judged, front}
use Rattle.be_script.specs.Limits.{IsWithinLimits}
use Rattle.be_script.specs.Script.{Declared}
use Rattle.be_machine.specs.Activities.{looper, runner, twin, input, closing}
use Rattle.be_machine.specs.Commands.{draw_act, drawn}
use Rattle.be_machine.specs.declared.Act.{Act}
use Rattle.be_machine.specs.declared.Act.TheVariants as act
use Rattle.be_machine.specs.Happenings.{of_act, of_delivery}
use Rattle.be_machine.specs.Legal.{want_act}
use Rattle.be_machine.specs.Lists.{with_both}
use Rattle.be_machine.specs.Looper.{with_looper, freed, end_act, end_of, ended_hand, told_at_end}
use Rattle.be_machine.specs.Orderly.{Tally, tally_from}
use Rattle.be_machine.specs.Port.{notify_act, notified, take_act, with_letter_in_hand, taken}
use Rattle.be_machine.specs.Program.{hand_at, hand_in}
use Rattle.be_machine.specs.State.{State, Looper, free, locked, handling, Stage, ending}
use Rattle.be_machine.specs.Step.{met}
use Rattle.be_machine.specs.Update.{at_stage, begin_act, begun, opened, passed_by}
use Rattle.be_machine.proofs.Found.{IsMapped, mapped, IsChained, chained, IsJoined, joined, IsTested, tested}
use Rattle.be_machine.proofs.Lists.{AtPlace, at_past}
use Rattle.be_machine.proofs.OrderlyLoopers.{looper_kept, lock_goes, unlock_goes, duty_kept, forward_keeps, reply_keeps, reply_goes, end_goes}
use Rattle.be_machine.proofs.OrderlyPorts.{post_goes, notice_goes, take_goes}
use Rattle.be_machine.proofs.Tallied.{OfPort, IsTallied, GoesOn, nothing_happens, in_turn_append, tally_append}
use Rattle.be_geom.specs.declared.point.Point.{Point}
use Rattle.be_input.specs.declared.Event.TheVariants as event
use Rattle.be_input.specs.Deliveries.{Post, Delivery}
use Rattle.be_script.specs.declared.InputLine.{InputLine}
use Rattle.be_script.specs.declared.InputLine.TheVariants as line
use Rattle.be_machine.specs.Activities.{activity_of}
use Rattle.be_machine.specs.Closing.{stop_act, stopped, all_done, all_quiet}
use Rattle.be_machine.specs.declared.Entry.{Entry}
use Rattle.be_machine.specs.Input.{input_letter, ports_with, outcome_in, delivery_act, delivery_of, event_act, used, with_under, activated, with_delivery, with_event}
use Rattle.be_machine.specs.Legal.{IsLegal}
use Rattle.be_machine.specs.Program.{has_ended}
use Rattle.be_machine.specs.Step.{step}
use Rattle.be_machine.specs.Wants.{Want, asks, takes, begins, flushes, draws_end, ends, notifies, executes, uses, stops, want_of}
use Rattle.be_machine.specs.Windows.{corner_at, dirty_of}
use Rattle.be_update.specs.Sessions.{is_any}
use Rattle.std.specs.Prelude.{not, ◌&&◌}
use Rattle.be_machine.proofs.LegalEntries.{IsMet, met_by, maker, maker_is}
use Rattle.be_machine.proofs.OrderlyLoopers as loopers
use Rattle.be_machine.proofs.OrderlySteps.{Goes, with_act, other_state, by_test, stage_shown, told_tallied, draw_done, flush_done, exec_done, changed_tallied}
use Rattle.be_machine.proofs.OrderlyWishes.{asked_goes}

-- ---- letters

take_free : (l : Looper) (p : Port Message) (a : Act) → take_act l p ≡ Some a → (l ≡ free) × IsMapped (λ x. act.Take (p.taken + 1)) (front p) a
take_free free p a e = (refl, mapped (λ (x : Letter Message). act.Take (p.taken + 1)) (front p) a e)
take_free (locked m) p a e = cc
take_free (handling hand g) p a e = cc

take_done : (d : Declared) (s : State) (v w : ℕ) (t : Tally) (a : Act) → with_both take_act (slice_get s.loopers v) (slice_get s.ports v) ≡ Some a → IsTallied s w t → Goes (taken d s v) w t (runner (looper v)) a
take_done d s v w t a e h =
    let at : IsJoined take_act (slice_get s.loopers v) (slice_get s.ports v) a = joined take_act (slice_get s.loopers v) (slice_get s.ports v) a e in
    let is : (at.first ≡ free) × IsMapped (λ x. act.Take (at.second.taken + 1)) (front at.second) a = take_free at.first at.second a at.is in
    let next : option_and_then front (slice_get s.ports v) ≡ Some is.1.from = ap (option_and_then front) at.read_second ∙ is.1.read in
    subst (λ o. Goes (option_map_or (with_letter_in_hand d s v) o s) w t (runner (looper v)) a) (sym next)
    (with_act (with_letter_in_hand d s v is.1.from) w t (runner (looper v)) (act.Take (at.second.taken + 1)) a is.1.is
    (take_goes d s v w t at.second is.1.from (at.read_first ∙ ap Some is.0) at.read_second is.1.read h))

notify_done : (s : State) (v w : ℕ) (t : Tally) (a : Act) → notify_act s v ≡ Some a → IsTallied s w t → Goes (notified s v) w t (twin v) a
notify_done s v w t a e h =
    let at : IsMapped (λ p. act.Notify (length p.arrived + 1)) (slice_get s.ports v) a = mapped (λ (p : Port Message). act.Notify (length p.arrived + 1)) (slice_get s.ports v) a e in
    with_act (notified s v) w t (twin v) (act.Notify (length at.from.arrived + 1)) a at.is (notice_goes s v w t at.from at.read h)

-- ---- updates

opened_tallied : (s : State) (v w : ℕ) (t : Tally) (o : Option Point) → IsTallied s w t → IsTallied (option_map_or (opened s v) o s) w t
opened_tallied s v w t (Some corner) h =
    let is : _ = looper_kept s v w t (at_stage _) (stage_shown _ t) h in
    record { port = h.port; looper = is.looper; buffer = h.buffer; link = h.link }
opened_tallied s v w t None h = h

passed_tallied : (s : State) (v w : ℕ) (t : Tally) → IsTallied s w t → IsTallied (passed_by s v) w t
passed_tallied s v w t h =
    let is : IsTallied (with_looper s v (at_stage ending)) w t = looper_kept s v w t (at_stage ending) (stage_shown ending t) h in
    record { port = h.port; looper = is.looper; buffer = h.buffer; link = h.link }

begun_tallied : (s : State) (v w : ℕ) (t : Tally) → IsTallied s w t → IsTallied (begun s v) w t
unfolding begun
begun_tallied s v w t h = by_test (λ x. IsTallied x w t) (is_any (dirty_of s v)) _ _ (opened_tallied s v w t (corner_at s v) h) (passed_tallied s v w t h)

begin_done : (s : State) (v w : ℕ) (t : Tally) (a : Act) → begin_act s v ≡ Some a → IsTallied s w t → Goes (begun s v) w t (runner (looper v)) a
begin_done s v w t a e h =
    let at : IsChained (λ link. if length link == 0 then Some (act.Begin (is_any (dirty_of s v))) else None) (slice_get s.links v) a =
    chained (λ (link : List Numbered). if length link == 0 then Some (act.Begin (is_any (dirty_of s v))) else None) (slice_get s.links v) a e in
    let is : IsTested (length at.from == 0) (act.Begin (is_any (dirty_of s v))) a = tested (length at.from == 0) (act.Begin (is_any (dirty_of s v))) a at.is in
    with_act (begun s v) w t (runner (looper v)) (act.Begin (is_any (dirty_of s v))) a is.is (nothing_happens _ w t (begun_tallied s v w t h))

draw_end_done : (s : State) (v w : ℕ) (t : Tally) (a : Act) → draw_act s v ≡ Some a → IsTallied s w t → Goes (with_looper (drawn s v EndUpdate) v (at_stage ending)) w t (runner (looper v)) a
draw_end_done s v w t a e h =
    other_state (drawn s v EndUpdate) (with_looper (drawn s v EndUpdate) v (at_stage ending)) w t _ (λ u k. looper_kept (drawn s v EndUpdate) v w u (at_stage ending) (stage_shown ending u) k)
    (draw_done s (runner (looper v)) v w t EndUpdate a e h)

-- ---- the end of a message

as_answer : (x : EndTelling) → end_of x ≡ act.End (loopers.answer_of x)
as_answer nobody = refl
as_answer (no_reply m) = refl
as_answer (not_understood m) = refl

told_at_end_tallied : (x : EndTelling) (s : State) (w : ℕ) (t : Tally) → IsTallied s w t → IsTallied (told_at_end x s) w t
told_at_end_tallied nobody s w t h = h
told_at_end_tallied (no_reply m) s w t h = told_tallied _ (Some m) s w t h
told_at_end_tallied (not_understood m) s w t h = told_tallied _ (Some m) s w t h

hand_of_looper : (l : Looper) (hand : Hand Message) → hand_in l ≡ Some hand → (g : Stage) × (l ≡ handling hand g)
hand_of_looper (handling other g) hand e = (g, ap (λ x. handling x g) (same_Some other hand e))
hand_of_looper (locked m) hand e = cc
hand_of_looper free hand e = cc

end_done : (s : State) (v w : ℕ) (t : Tally) (a : Act) → option_map end_act (hand_at s v) ≡ Some a → IsTallied s w t → Goes (option_map_or (ended_hand s v) (hand_at s v) s) w t (runner (looper v)) a
end_done s v w t a e h =
    let at : IsMapped end_act (hand_at s v) a = mapped end_act (hand_at s v) a e in
    let held : IsChained hand_in (slice_get s.loopers v) at.from = chained hand_in (slice_get s.loopers v) at.from at.read in
    let is : (g : Stage) × (held.from ≡ handling at.from g) = hand_of_looper held.from at.from held.is in
    subst (λ o. Goes (option_map_or (ended_hand s v) o s) w t (runner (looper v)) a) (sym at.read)
    (with_act (ended_hand s v at.from) w t (runner (looper v)) (act.End (loopers.answer_of (end_telling at.from.duty at.from.route))) a (sym (as_answer (end_telling at.from.duty at.from.route)) ∙ at.is)
    (other_state (freed s v) (ended_hand s v at.from) w t _ (told_at_end_tallied (end_telling at.from.duty at.from.route) (freed s v) w)
    (end_goes s v w t at.from is.0 (held.read ∙ ap Some is.1) h)))

-- ---- input

abbrev with_ports : State → List (Port Message) → State
with_ports s ports = record s { ports = ports }

sent_to : (s : State) (w : ℕ) (t : Tally) (post : Post) (o : Option (Port Message)) → slice_get s.ports post.window ≡ o → IsTallied s w t → GoesOn (with_ports s (ports_with s.ports (Some post))) w t (of_delivery w (option_map (λ p. (post.window, judged p 0)) o))
sent_to s w t post (Some p) read h = post_goes s post.window w t (input_letter post) p read h
sent_to s w t post None read h =
    nothing_happens _ w t (record { port = subst (λ ports. AtPlace (OfPort t) ports w) (sym (at_past s.ports post.window _ read)) h.port; looper = h.looper; buffer = h.buffer; link = h.link })

delivery_goes : (s : State) (w : ℕ) (t : Tally) (post : Option Post) → IsTallied s w t → GoesOn (with_ports s (ports_with s.ports post)) w t (of_delivery w (option_and_then (outcome_in s.ports) post))
delivery_goes s w t (Some post) h = sent_to s w t post (slice_get s.ports post.window) refl h
delivery_goes s w t None h = nothing_happens _ w t (record { port = h.port; looper = h.looper; buffer = h.buffer; link = h.link })

activated_tallied : (s : State) (o : Option ℕ) (w : ℕ) (t : Tally) → IsTallied s w t → IsTallied (activated s o) w t
activated_tallied s (Some v) w t h = changed_tallied s v w t Activate h
activated_tallied s None w t h = h

with_delivery_goes : (s : State) (x : Delivery) (w : ℕ) (t : Tally) → IsTallied s w t → Goes (with_delivery s x) w t input (delivery_act s x)
with_delivery_goes s x w t h =
    let one : _ = delivery_goes s w t x.first h in
    let between : State = with_ports s (ports_with s.ports x.first) in
    let two : _ = delivery_goes between w (tally_from t (of_delivery w (option_and_then (outcome_in s.ports) x.first))) x.second one.tallied in
    let after : State = record (used s) { ports = ports_with (ports_with s.ports x.first) x.second; desk = with_under x s.desk } in
    let both_in : IsTallied (with_ports between (ports_with between.ports x.second)) w (tally_from t (of_delivery w (option_and_then (outcome_in s.ports) x.first) ++ of_delivery w (option_and_then (outcome_in between.ports) x.second))) =
    subst (IsTallied (with_ports between (ports_with between.ports x.second)) w) (sym (tally_append t (of_delivery w (option_and_then (outcome_in s.ports) x.first)) (of_delivery w (option_and_then (outcome_in between.ports) x.second)))) two.tallied in
    record {
      in_turn = in_turn_append t (of_delivery w (option_and_then (outcome_in s.ports) x.first)) (of_delivery w (option_and_then (outcome_in between.ports) x.second)) one.in_turn two.in_turn;
      tallied = activated_tallied after x.activate w _ (record { port = both_in.port; looper = both_in.looper; buffer = both_in.buffer; link = both_in.link });
    }

event_done : (d : Declared) (s : State) (x : InputLine) (w : ℕ) (t : Tally) (a : Act) → event_act d s x ≡ Some a → IsTallied s w t → Goes (with_event s x) w t input a
event_done d s (line.Press p) w t a e h = with_act _ w t input _ a (same_Some _ a e) (with_delivery_goes s (delivery_of s (event.Press p)) w t h)
event_done d s (line.Release p) w t a e h = with_act _ w t input _ a (same_Some _ a e) (with_delivery_goes s (delivery_of s (event.Release p)) w t h)
event_done d s (line.Move p) w t a e h = with_act _ w t input _ a (same_Some _ a e) (with_delivery_goes s (delivery_of s (event.Move p)) w t h)
event_done d s (line.Key key) w t a e h = with_act _ w t input _ a (same_Some _ a e) (with_delivery_goes s (delivery_of s (event.Key key)) w t h)
event_done d s (line.After m) w t a e h =
    let is : IsTested (has_ended d s m) (act.Event (s.events + 1) None None) a = tested (has_ended d s m) (act.Event (s.events + 1) None None) a e in
    with_act (used s) w t input _ a is.is (nothing_happens _ w t (record { port = h.port; looper = h.looper; buffer = h.buffer; link = h.link }))

stop_done : (d : Declared) (s : State) (w : ℕ) (t : Tally) (a : Act) → stop_act d s ≡ Some a → IsTallied s w t → Goes (stopped s) w t closing a
stop_done d s w t a e h =
    let is : IsTested (not s.stopped && all_done d s && all_quiet s) act.Stop a = tested (not s.stopped && all_done d s && all_quiet s) act.Stop a e in
    with_act (stopped s) w t closing act.Stop a is.is (nothing_happens _ w t (record { port = h.port; looper = h.looper; buffer = h.buffer; link = h.link }))

-- ---- all wants

want_goes : (d : Declared) (s : State) (w : ℕ) (t : Tally) (want : Want) (a : Act) → IsWithinLimits d → want_of d s (maker want) ≡ Some want → want_act d s want ≡ Some a → IsTallied s w t → Goes (met d s want) w t (maker want) a
unfolding want_act met
want_goes d s w t (asks who x) a limits wants e h = asked_goes d s who w t x a limits wants e h
want_goes d s w t (takes v) a limits wants e h = take_done d s v w t a e h
want_goes d s w t (begins v) a limits wants e h = begin_done s v w t a e h
want_goes d s w t (flushes v) a limits wants e h = flush_done s (runner (looper v)) v w t a e h
want_goes d s w t (draws_end v) a limits wants e h = draw_end_done s v w t a e h
want_goes d s w t (ends v) a limits wants e h = end_done s v w t a e h
want_goes d s w t (notifies v) a limits wants e h = notify_done s v w t a e h
want_goes d s w t (executes v) a limits wants e h = exec_done d s v w t a e h
want_goes d s w t (uses x) a limits wants e h = event_done d s x w t a e h
want_goes d s w t stops a limits wants e h = stop_done d s w t a e h

-- a legal entry
pub legal_goes : (d : Declared) (s : State) (e : Entry) (w : ℕ) (t : Tally) → IsWithinLimits d → IsLegal d s e → IsTallied s w t → GoesOn (step d s e) w t (of_act w (activity_of d e.actor) e.act)
legal_goes d s e w t limits legal h =
    let is : IsMet d s e = met_by d s e legal in
    let by : maker is.want ≡ is.who = maker_is d s is.who is.want is.wanted in
    let goes : Goes (met d s is.want) w t (maker is.want) e.act = want_goes d s w t is.want e.act limits (ap (want_of d s) by ∙ is.wanted) is.granted h in
    let at_step : GoesOn (step d s e) w t (of_act w (Some (maker is.want)) e.act) = subst (λ x. GoesOn x w t (of_act w (Some (maker is.want)) e.act)) (sym is.stepped) goes in
    subst (λ o. GoesOn (step d s e) w t (of_act w o e.act)) (ap Some by ∙ sym is.numbered) at_step
