-- As many have the focus as there are windows: none.
use Rattle.be_script.specs.Script.{declared_by}
use Rattle.be_opening.proofs.Windows.{joined_desk}
use Rattle.be_opening.proofs.desk.desk_of.Goals as goal

pub returns : goal.returns
returns c = joined_desk (declared_by c.args.script.now) c.in_ok-stack_of.field-0 c.in_ok-trees_of.field-0.items c.in_ok-new.field-0 c.in_ok-stack_of.ensures c.in_ok-trees_of.ensures c.in_ok-new.ensures
