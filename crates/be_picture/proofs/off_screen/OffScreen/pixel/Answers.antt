use Rattle.std.proofs.Common.{◌≡◌, None, Some, ap, sym, ◌∙◌}
use Rattle.std.proofs.lemmas.Int.{to_z-of_z}
use Rattle.be_span.specs.Spans.{cell_in}
use Rattle.be_picture.specs.Playing.{OffScreen, pixel_at}
use Rattle.be_picture.proofs.Rests.{pixel_seen}
use Rattle.be_picture.proofs.off_screen.OffScreen.pixel.Goals as goal

pub returns-in_err-cell-clause-pixel : goal.returns-in_err-cell-clause-pixel
returns-in_err-cell-clause-pixel c =
    let none : None ≡ cell_in c.self.inside.pane.spans c.args.x c.args.y =
    simp (to_z-of_z, c.ranges.x, c.ranges.y) at c.in_err-cell.ensures.cell in
    c.from_residual.ensures
    ∙ sym (pixel_seen c.self.inside.width c.self.inside.height c.self.inside.pane c.args.x c.args.y None
    c.self.invariant (sym none))
    ∙ ap (λ (o : OffScreen). pixel_at o c.args.x c.args.y) c.self.view_is

pub returns-clause-pixel : goal.returns-clause-pixel
returns-clause-pixel c =
    let some : Some c.in_ok-cell.cell ≡ cell_in c.self.inside.pane.spans c.args.x c.args.y =
    simp (to_z-of_z, c.ranges.x, c.ranges.y) at c.in_ok-cell.ensures.cell in
    sym (pixel_seen c.self.inside.width c.self.inside.height c.self.inside.pane c.args.x c.args.y
    (Some c.in_ok-cell.cell) c.self.invariant (sym some))
    ∙ ap (λ (o : OffScreen). pixel_at o c.args.x c.args.y) c.self.view_is
