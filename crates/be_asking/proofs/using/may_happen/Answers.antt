use Rattle.std.proofs.Common.{◌+◌, ◌≤◌, arith}
use Rattle.std.proofs.lemmas.Option.{MatchOption-at_none, MatchOption-at_some}
use Rattle.be_machine.specs.declared.Act.TheVariants as act
use Rattle.be_parts.specs.declared.part.Part.TheVariants as kinds
use Rattle.be_script.specs.Script.{declared_by}
use Rattle.be_asking.proofs.UsesAnswered.{active_is_there, event_acts, event_needs_desk, event_needs_input, few_events, first_postable, happens, many_windows, needs_first, needs_second, needs_active, second_postable}
use Rattle.be_asking.proofs.using.may_happen.Goals as goal

pub returns-in-Err : goal.returns-in-Err
returns-in-Err c = event_needs_input (declared_by c.args.script.now) c.args.held.now.parts c.args.number c.args.event.now c.requires c.in-Err.place c.in-Err.ensures.missing

pub returns-in-Err-find_desk : goal.returns-in-Err-find_desk
returns-in-Err-find_desk c = event_needs_desk (declared_by c.args.script.now) c.args.held.now.parts c.args.number c.args.event.now c.requires c.in-Err-find_desk.place c.in-Err-find_desk.ensures.missing

pub first_answer-requires : goal.first_answer-requires
first_answer-requires c =
    first_postable (declared_by c.args.script.now) c.args.held.now.parts c.args.number c.args.event.now c.requires c.in-Ok-find_desk.part.now c.in-Ok-find_desk.ensures.there c.desk-known.result.now c.desk-known.ensures.slice c.in_ok-delivery.delivery c.in_ok-delivery.ensures

pub returns-in-Err-first_answer : goal.returns-in-Err-first_answer
returns-in-Err-first_answer c =
    needs_first (declared_by c.args.script.now) c.args.held.now.parts c.args.number c.args.event.now c.requires c.in-Ok-find_desk.part.now c.in-Ok-find_desk.ensures.there c.desk-known.result.now c.desk-known.ensures.slice c.in_ok-delivery.delivery c.in_ok-delivery.ensures
    c.in-Err-first_answer.place c.in-Err-first_answer.ensures.missing

pub second_answer-requires : goal.second_answer-requires
second_answer-requires c =
    second_postable (declared_by c.args.script.now) c.args.held.now.parts c.args.number c.args.event.now c.requires c.in-Ok-find_desk.part.now c.in-Ok-find_desk.ensures.there c.desk-known.result.now c.desk-known.ensures.slice c.in_ok-delivery.delivery c.in_ok-delivery.ensures

pub returns-in-Err-second_answer : goal.returns-in-Err-second_answer
returns-in-Err-second_answer c =
    needs_second (declared_by c.args.script.now) c.args.held.now.parts c.args.number c.args.event.now c.requires c.in-Ok-find_desk.part.now c.in-Ok-find_desk.ensures.there c.desk-known.result.now c.desk-known.ensures.slice c.in_ok-delivery.delivery c.in_ok-delivery.ensures
    c.in-Err-second_answer.place c.in-Err-second_answer.ensures.missing

pub missing_pane-requires-clause-many : goal.missing_pane-requires-clause-many
missing_pane-requires-clause-many c =
    many_windows (declared_by c.args.script.now) c.args.held.now.parts c.args.number c.args.event.now c.requires c.in-Ok-find_desk.part.now c.in-Ok-find_desk.ensures.there c.desk-known.result.now c.desk-known.ensures.slice c.in_ok-delivery.delivery c.in_ok-delivery.ensures

pub missing_pane-requires-clause-there : goal.missing_pane-requires-clause-there
missing_pane-requires-clause-there c =
    active_is_there (declared_by c.args.script.now) c.args.held.now.parts c.args.number c.args.event.now c.requires c.in-Ok-find_desk.part.now c.in-Ok-find_desk.ensures.there c.desk-known.result.now c.desk-known.ensures.slice c.in_ok-delivery.delivery c.in_ok-delivery.ensures

pub returns-in-Some : goal.returns-in-Some
returns-in-Some c =
    needs_active (declared_by c.args.script.now) c.args.held.now.parts c.args.number c.args.event.now c.requires c.in-Ok-find_desk.part.now c.in-Ok-find_desk.ensures.there c.desk-known.result.now c.desk-known.ensures.slice c.in_ok-delivery.delivery c.in_ok-delivery.ensures
    c.in-Some.place (MatchOption-at_some _ _ c.in-Some.place c.in-Some.is c.in_ok-place.ensures)

pub overflow_add-act : goal.overflow_add-act
overflow_add-act c =
    let few : c.used.result ≤ 4611686018427387904 = few_events (declared_by c.args.script.now) c.args.held.now.parts c.args.number _ _ c.requires.asked c.in-Ok.input.now c.in-Ok.ensures.there c.used.result c.used.ensures in
    omega arith

pub returns : goal.returns
returns c =
    happens (declared_by c.args.script.now) c.args.held.now.parts c.args.number c.args.event.now c.requires c.in-Ok-find_desk.part.now c.in-Ok-find_desk.ensures.there c.desk-known.result.now c.desk-known.ensures.slice c.in_ok-delivery.delivery c.in_ok-delivery.ensures
    (kinds.Input c.in-Ok.input.now, c.in-Ok.ensures.there) c.in-Ok-first_answer.ensures.there c.in-Ok-second_answer.ensures.there (MatchOption-at_none _ _ c.in-None.is c.in_ok-place.ensures)
    (act.Event (c.used.result + 1) c.in-Ok-first_answer.first c.in-Ok-second_answer.second)
    (event_acts (declared_by c.args.script.now) c.args.held.now.parts c.args.number c.args.event.now c.requires c.in-Ok-find_desk.part.now c.in-Ok-find_desk.ensures.there c.desk-known.result.now c.desk-known.ensures.slice c.in_ok-delivery.delivery c.in_ok-delivery.ensures
    c.in-Ok.input.now c.in-Ok.ensures.there c.used.result c.used.ensures c.in-Ok-first_answer.first c.in-Ok-second_answer.second c.in-Ok-first_answer.ensures.told c.in-Ok-second_answer.ensures.told)
