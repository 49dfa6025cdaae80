use Rattle.be_steps.proofs.BeginDone.{has_tree}
use Rattle.be_steps.proofs.updating.views_are_a_tree.Goals as goal

pub returns : goal.returns
returns c = has_tree c.args.held.now.parts c.args.place c.pane_at.result.now c.pane.result.now c.pane_at.ensures c.pane.ensures c.len-views.ensures.whole
