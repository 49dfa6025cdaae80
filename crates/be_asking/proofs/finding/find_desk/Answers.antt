use Rattle.be_machine.specs.Touched as part
use Rattle.be_script.specs.Script.{declared_by}
use Rattle.be_asking.proofs.KindsThere.{kind_there}
use Rattle.be_asking.proofs.finding.find_desk.Goals as goal

pub desk_in_hand-requires : goal.desk_in_hand-requires
desk_in_hand-requires c = kind_there (declared_by c.args.script.now) c.args.held.now.parts part.desk c.requires
