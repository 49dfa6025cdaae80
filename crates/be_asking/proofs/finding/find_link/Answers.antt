use Rattle.std.proofs.Common.{sym, subst}
use Rattle.be_machine.specs.Touched as part
use Rattle.be_parts.specs.Kinds.{IsOfKind, of_link}
use Rattle.be_script.specs.Script.{declared_by}
use Rattle.be_asking.proofs.KindsThere.{kind_there}
use Rattle.be_asking.proofs.finding.find_link.Goals as goal

pub link_in_hand-requires : goal.link_in_hand-requires
link_in_hand-requires c =
    subst (IsOfKind of_link c.args.held.now.parts) (sym c.link_place-place.ensures)
    (kind_there (declared_by c.args.script.now) c.args.held.now.parts (part.link c.args.w) c.requires)
