use Rattle.std.specs.Prelude.{option_copied}
use Rattle.be_machine.specs.Touched as part
use Rattle.be_script.specs.Script.{declared_by}
use Rattle.be_check.proofs.Gathering.{front_is}
use Rattle.be_check.proofs.Looking.{never_missing, reachable}
use Rattle.be_check.proofs.taking.front_of.Goals as goal

pub find_port-requires : goal.find_port-requires
find_port-requires c =
    reachable (declared_by c.args.script.now) c.args.held.now.parts c.requires.all
    (part.port c.args.window) c.requires.there

pub unreachable-requires : goal.unreachable-requires
unreachable-requires c =
    never_missing (declared_by c.args.script.now) c.args.held.now.parts c.requires.all
    (part.port c.args.window) c.in_default.field-0 c.requires.there c.in_default.ensures.missing

pub returns : goal.returns
returns c =
    front_is (declared_by c.args.script.now) c.args.held.now.parts c.requires.all c.args.window
    c.requires.there c.in-Ok.part.now c.port.result.now c.in-Ok.ensures.there c.port.ensures
    (option_copied c.front.result) c.front.ensures
