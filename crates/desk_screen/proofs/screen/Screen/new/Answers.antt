use Rattle.std.proofs.Common.{List, sym, ap, subst}
use Rattle.be_input.specs.Pointing.{Pointing}
use Rattle.be_views.specs.Trees.{Tree}
use Rattle.desk_screen.specs.Making.{AreMade}
use Rattle.desk_screen.proofs.MadeLemmas.{screen_made}
use Rattle.desk_screen.proofs.screen.Screen.new.Goals as goal

pub invariant_of-result : goal.invariant_of-result
invariant_of-result c =
    let made = c.in_ok-made.made in
    let pointing = c.in_ok-pointing.pointing in
    let same = ap (λ (p : Pointing). p.trees) c.in_ok-pointing.ensures in
    screen_made made.stack pointing made.panes.items (subst (λ (trees : List Tree). AreMade made.stack trees made.panes.items) (sym same) c.in_ok-made.ensures)
