use Rattle.std.proofs.Common.{◌<◌, ◌≤◌, ◌∙◌, length, rules}
use Rattle.be_trees.proofs.TreeLines.{all_written, root_first, view_next}
use Rattle.be_trees.proofs.text.write_tree.Goals as goal

pub loop-view-init : goal.loop-view-init
loop-view-init c =
    root_first c.args.tree.now c.new-text.result.items c.write_size.new.text.items
    c.new-text.ensures.items c.len-count.ensures.whole.some c.in_ok-write_size.ensures

pub loop-view-preserved : goal.loop-view-preserved
loop-view-preserved c =
    let below : c.loop-view.view < length c.args.tree.now = search rules in
    view_next c.args.tree.now c.loop-view.view c.loop-view.text.items c.write_view.new.text.items
    below c.in_ok-write_view.ensures
    ∙ c.loop-view.invariant

pub returns : goal.returns
returns c =
    let end : length c.args.tree.now ≤ c.loop-view.view = search rules in
    all_written c.args.tree.now c.loop-view.view c.loop-view.text.items _ c.loop-view.invariant end
