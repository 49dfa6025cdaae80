-- The views of one window more.
use Rattle.be_script.specs.Script.{declared_by}
use Rattle.be_opening.proofs.Windows.{next_tree}
use Rattle.be_opening.proofs.desk.trees_of.Goals as goal

pub loop-w-preserved : goal.loop-w-preserved
loop-w-preserved c =
    next_tree (declared_by c.args.script.now) c.deref-line-items.result.now c.loop-w.w c.line-item.result c.in_ok-tree_of.field-0 c.loop-w.trees.items c.push.new.self.items
    c.deref-line-items.ensures.value c.loop-w-test.true c.line-item.is c.loop-w.invariant c.in_ok-tree_of.ensures c.in_ok-push.ensures.items
