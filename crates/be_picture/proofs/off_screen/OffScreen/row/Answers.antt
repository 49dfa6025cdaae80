use Rattle.std.proofs.Common.{◌*◌, ◌<◌, ap, drop, subst, sym, take, ◌∙◌}
use Rattle.be_picture.specs.Playing.{OffScreen}
use Rattle.be_picture.proofs.Rows.{cells_in_row, row_is, row_length}
use Rattle.be_picture.proofs.off_screen.OffScreen.row.Goals as goal

pub returns-clause-cells : goal.returns-clause-cells
returns-clause-cells c =
    let w = c.self.inside.width in
    let h = c.self.inside.height in
    let y = c.args.y in
    let below : y < h = subst (λ (o : OffScreen). y < o.height) (sym c.self.view_is) c.requires in
    row_is w h c.self.inside.pane y c.row_of.result.now c.self.invariant below c.row_of.ensures
    ∙ cells_in_row w h y c.self.inside.pane.spans below
    ∙ ap (λ (o : OffScreen). take o.width (drop (y * o.width) o.cells)) c.self.view_is

pub returns-clause-whole : goal.returns-clause-whole
returns-clause-whole c =
    let w = c.self.inside.width in
    let h = c.self.inside.height in
    let y = c.args.y in
    let below : y < h = subst (λ (o : OffScreen). y < o.height) (sym c.self.view_is) c.requires in
    row_length w h c.self.inside.pane y c.row_of.result.now c.self.invariant below c.row_of.ensures
    ∙ ap (λ (o : OffScreen). o.width) c.self.view_is
