use Rattle.std.proofs.Common.{subst}
use Rattle.be_script.specs.Script.{declared_by}
use Rattle.be_asking.specs.Stopping.{Tells, can_stop}
use Rattle.be_asking.proofs.StopAnswered.{stop_needs, stops_later, stops_now}
use Rattle.be_asking.proofs.stopping.may_stop.Goals as goal

pub returns-in-Err : goal.returns-in-Err
returns-in-Err c = stop_needs (declared_by c.args.script.now) c.args.held.now.parts c.args.number c.requires.number c.in-Err.place c.in-Err.ensures.lost

pub returns-in-Ok-true : goal.returns-in-Ok-true
returns-in-Ok-true c =
    stops_now (declared_by c.args.script.now) c.args.held.now.parts c.args.number c.requires.number
    (subst (Tells (declared_by c.args.script.now) c.args.held.now.parts (can_stop (declared_by c.args.script.now))) c.in-Ok-true.field-0-test c.in-Ok-true.ensures.told) (c.in-Ok-true.ensures.there c.in-Ok-true.field-0-test)

pub returns-in-Ok-false : goal.returns-in-Ok-false
returns-in-Ok-false c =
    stops_later (declared_by c.args.script.now) c.args.held.now.parts c.args.number c.requires.number
    (subst (Tells (declared_by c.args.script.now) c.args.held.now.parts (can_stop (declared_by c.args.script.now))) c.in-Ok-false.field-0-test c.in-Ok-false.ensures.told)
