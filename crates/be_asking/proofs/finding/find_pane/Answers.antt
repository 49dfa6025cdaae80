use Rattle.std.proofs.Common.{sym, subst}
use Rattle.be_machine.specs.Touched as part
use Rattle.be_parts.specs.Kinds.{IsOfKind, of_pane}
use Rattle.be_script.specs.Script.{declared_by}
use Rattle.be_asking.proofs.KindsThere.{kind_there}
use Rattle.be_asking.proofs.finding.find_pane.Goals as goal

pub pane_in_hand-requires : goal.pane_in_hand-requires
pane_in_hand-requires c =
    subst (IsOfKind of_pane c.args.held.now.parts) (sym c.pane_place-place.ensures)
    (kind_there (declared_by c.args.script.now) c.args.held.now.parts (part.pane c.args.w) c.requires)
