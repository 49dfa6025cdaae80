use Rattle.std.proofs.Common.{SFits, w16, rules, length, refl, ap, ◌∙◌}
use Rattle.std.proofs.lemmas.Int.{to_z-of_z}
use Rattle.be_span.specs.Cells.{desktop_cell}
use Rattle.be_views.specs.Trees.{Tree}
use Rattle.desk_screen.proofs.making.pane_of.Goals as goal

pub returns : goal.returns
returns c =
    let left : SFits w16 c.args.frame.left = search rules in
    let top : SFits w16 c.args.frame.top = search rules in
    let first = c.in_ok-pane.ensures.first (λ x y. desktop_cell) in
    let whole = c.in_ok-pane.ensures.whole in
    let long = ap (λ (t : Tree). length t) first.views in
    simp to_z-of_z (record {
      number = first.number;
      place = refl;
      views = first.views;
      colored = whole.colored ∙ long;
      drawn = whole.drawn ∙ long;
      none = first.pixels;
    })
