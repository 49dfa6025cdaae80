-- A new pane at the window's place.
use Rattle.std.proofs.Common.{length, List, ap, sym, ◌∙◌}
use Rattle.be_color.specs.declared.colors.Color.{Color}
use Rattle.be_script.specs.Script.{declared_by}
use Rattle.be_views.specs.Trees.{Tree}
use Rattle.be_script.proofs.FrameLemmas.{line_framed}
use Rattle.be_machine.proofs.FittedSteps.{as_many}
use Rattle.be_opening.proofs.Shown.{new_shows}
use Rattle.be_opening.proofs.panes.pane_of.Goals as goal

pub tree_of-requires : goal.tree_of-requires
tree_of-requires c = line_framed (declared_by c.args.script.now) c.args.w c.args.line.now c.requires.limits c.requires.window

pub new-requires : goal.new-requires
new-requires c =
    ap (λ (l : List Color). length l) c.in_ok-colors.ensures ∙ as_many (declared_by c.args.script.now) c.args.w c.args.line.now ∙ sym (ap (λ (t : Tree). length t) c.in_ok-tree.ensures)

pub returns : goal.returns
returns c =
    new_shows (declared_by c.args.script.now) c.args.w c.args.line.now c.in_ok-pane.pane c.in_ok-colors.colors.items c.in_ok-tree.tree c.left_top-pane.result
    c.requires.window c.in_ok-colors.ensures c.in_ok-tree.ensures c.left_top-pane.ensures c.in_ok-pane.ensures.first c.in_ok-pane.ensures.whole
