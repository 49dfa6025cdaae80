use Rattle.be_machine.specs.Touched as part
use Rattle.be_script.specs.Script.{declared_by}
use Rattle.be_asking.proofs.KindsThere.{kind_there}
use Rattle.be_asking.proofs.finding.find_cell.Goals as goal

pub cell_in_hand-requires : goal.cell_in_hand-requires
cell_in_hand-requires c = kind_there (declared_by c.args.script.now) c.args.held.now.parts (part.cell c.args.m) c.requires
