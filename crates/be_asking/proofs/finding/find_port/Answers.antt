use Rattle.std.proofs.Common.{sym, subst}
use Rattle.be_machine.specs.Touched as part
use Rattle.be_parts.specs.Kinds.{IsOfKind, of_port}
use Rattle.be_script.specs.Script.{declared_by}
use Rattle.be_asking.proofs.KindsThere.{kind_there}
use Rattle.be_asking.proofs.finding.find_port.Goals as goal

pub port_in_hand-requires : goal.port_in_hand-requires
port_in_hand-requires c =
    subst (IsOfKind of_port c.args.held.now.parts) (sym c.port_place-place.ensures)
    (kind_there (declared_by c.args.script.now) c.args.held.now.parts (part.port c.args.w) c.requires)
