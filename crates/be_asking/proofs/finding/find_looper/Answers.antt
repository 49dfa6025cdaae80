use Rattle.std.proofs.Common.{sym, subst}
use Rattle.be_machine.specs.Touched as part
use Rattle.be_parts.specs.Kinds.{IsOfKind, of_looper}
use Rattle.be_script.specs.Script.{declared_by}
use Rattle.be_asking.proofs.KindsThere.{kind_there}
use Rattle.be_asking.proofs.finding.find_looper.Goals as goal

pub looper_in_hand-requires : goal.looper_in_hand-requires
looper_in_hand-requires c =
    subst (IsOfKind of_looper c.args.held.now.parts) (sym c.looper_place-place.ensures)
    (kind_there (declared_by c.args.script.now) c.args.held.now.parts (part.looper c.args.w) c.requires)
