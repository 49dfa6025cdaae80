use Rattle.std.proofs.Common.{◌≤◌, subst, arith}
use Rattle.be_script.specs.Script.{declared_by}
use Rattle.be_machine.specs.Program.{has_ended}
use Rattle.be_asking.specs.Stopping.{Tells}
use Rattle.be_asking.proofs.UsesAnswered.{after_needs_cell, after_needs_input, after_reach_cell, few_events, goes_on, waits_on}
use Rattle.be_asking.proofs.using.may_go_on.Goals as goal

pub returns-in-Err : goal.returns-in-Err
returns-in-Err c = after_needs_input (declared_by c.args.script.now) c.args.held.now.parts c.args.number c.args.app c.requires c.in-Err.place c.in-Err.ensures.missing

pub has_ended-requires : goal.has_ended-requires
has_ended-requires c = after_reach_cell (declared_by c.args.script.now) c.args.held.now.parts c.args.number c.args.app c.requires

pub returns-in-Err-has_ended : goal.returns-in-Err-has_ended
returns-in-Err-has_ended c = after_needs_cell (declared_by c.args.script.now) c.args.held.now.parts c.args.number c.args.app c.requires c.in-Err-has_ended.place c.in-Err-has_ended.ensures.missing

pub overflow_add-result : goal.overflow_add-result
overflow_add-result c =
    let few : c.used.result ≤ 4611686018427387904 = few_events (declared_by c.args.script.now) c.args.held.now.parts c.args.number _ _ c.requires.asked c.in-Ok.input.now c.in-Ok.ensures.there c.used.result c.used.ensures in
    omega arith

pub returns-in-Ok-true : goal.returns-in-Ok-true
returns-in-Ok-true c =
    goes_on (declared_by c.args.script.now) c.args.held.now.parts c.args.number c.args.app c.requires c.in-Ok.input.now c.in-Ok.ensures.there c.used.result c.used.ensures
    (subst (Tells (declared_by c.args.script.now) c.args.held.now.parts (λ s. has_ended (declared_by c.args.script.now) s c.args.app)) c.in-Ok-true.field-0-test c.in-Ok-true.ensures.told) c.in-Ok-true.ensures.there

pub returns-in-Ok-false : goal.returns-in-Ok-false
returns-in-Ok-false c =
    waits_on (declared_by c.args.script.now) c.args.held.now.parts c.args.number c.args.app c.requires
    (subst (Tells (declared_by c.args.script.now) c.args.held.now.parts (λ s. has_ended (declared_by c.args.script.now) s c.args.app)) c.in-Ok-false.field-0-test c.in-Ok-false.ensures.told)
