use Rattle.be_machine.specs.Touched as part
use Rattle.be_script.specs.Script.{declared_by}
use Rattle.be_check.proofs.Looking.{desk_is, never_missing, reachable}
use Rattle.be_check.proofs.color.desk_in.Goals as goal

pub find_desk-requires : goal.find_desk-requires
find_desk-requires c =
    reachable (declared_by c.args.script.now) c.args.held.now.parts c.requires part.desk tt

pub unreachable-requires : goal.unreachable-requires
unreachable-requires c =
    never_missing (declared_by c.args.script.now) c.args.held.now.parts c.requires part.desk
    c.in_default.field-0 tt c.in_default.ensures.missing

pub returns : goal.returns
returns c =
    desk_is (declared_by c.args.script.now) c.args.held.now.parts c.requires c.in-Ok.part.now
    c.desk.result.now c.in-Ok.ensures.there c.desk.ensures.slice
