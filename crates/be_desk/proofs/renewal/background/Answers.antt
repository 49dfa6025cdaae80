-- What the screen shows, or the desktop.
use Rattle.std.proofs.Common.{◌≡◌, Some, None, ap, sym, ◌∙◌}
use Rattle.std.proofs.lemmas.Bool.{cond-true}
use Rattle.be_region.specs.Regions.{region_has}
use Rattle.be_span.specs.Cells.{desktop_cell}
use Rattle.be_span.specs.Spans.{Spans, cell_in}
use Rattle.be_desk.specs.Plans.{lent}
use Rattle.be_desk.proofs.RenewLemmas.{all_bare, all_shown, some_is}
use Rattle.be_desk.proofs.renewal.background.Goals as goal
use Rattle.be_desk.proofs.renewal.background.Goals.{then-has_clear, else-has_clear}

pub returns-clause-cells : goal.returns-clause-cells
returns-clause-cells c cells under x y has =
    let old = cell_in c.in_ok-spans.spans x y in
    let bare : cell_in c.in_ok-spans.spans x y ≡ Some desktop_cell = c.in_ok-spans.ensures.filled x y ∙ cond-true (region_has c.args.region x y) (Some desktop_cell) None has in
    elim c.if-has_clear.branch [
      | then-has_clear w ↦ all_shown (lent c.args.panes.now) x y (cells x y) old (cell_in c.if-has_clear.spans x y) c.args.colors.now bare (under.desktop x y has) (ap (λ (s : Spans). cell_in s x y) w.spans-is ∙ w.lay_panes.ensures.cells cells under.shown x y (some_is old desktop_cell bare))
      | else-has_clear w ↦ all_bare (cells x y) (cell_in c.if-has_clear.spans x y) c.args.colors.now (ap (λ (s : Spans). cell_in s x y) w.spans-is ∙ bare) (sym c.has_clear.ensures ∙ w.if-has_clear.false)
    ]
