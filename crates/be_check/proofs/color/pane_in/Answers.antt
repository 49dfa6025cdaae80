use Rattle.be_machine.specs.Touched as part
use Rattle.be_script.specs.Script.{declared_by}
use Rattle.be_check.proofs.Looking.{never_missing, pane_is, reachable}
use Rattle.be_check.proofs.color.pane_in.Goals as goal

pub find_pane-requires : goal.find_pane-requires
find_pane-requires c =
    reachable (declared_by c.args.script.now) c.args.held.now.parts c.requires.all
    (part.pane c.args.w) c.requires.there

pub unreachable-requires : goal.unreachable-requires
unreachable-requires c =
    never_missing (declared_by c.args.script.now) c.args.held.now.parts c.requires.all
    (part.pane c.args.w) c.in_default.field-0 c.requires.there c.in_default.ensures.missing

pub returns : goal.returns
returns c =
    pane_is (declared_by c.args.script.now) c.args.held.now.parts c.requires.all c.args.w
    c.requires.there c.in-Ok.part.now c.pane.result.now c.in-Ok.ensures.there c.pane.ensures
