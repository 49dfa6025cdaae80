use Rattle.std.proofs.Common.{◌++◌, ◌*◌, ◌+◌, List, map, take, ap, sym, ◌∙◌, arith}
use Rattle.be_color.specs.declared.colors.Color.{Color}
use Rattle.be_picture.specs.Playing.{OffScreen}
use Rattle.be_picture.proofs.Rows.{color_of, one_row_more}
use Rattle.be_picture.proofs.off_screen.OffScreen.colors.Goals as goal

pub loop-y-preserved : goal.loop-y-preserved
loop-y-preserved c =
    c.in_ok-push_colors.ensures
    ∙ ap (λ (cs : List Color). cs ++ map color_of c.row_of.result.now)
    (c.loop-y.invariant
    ∙ ap (λ (o : OffScreen). map color_of (take (c.loop-y.y * o.width) o.cells)) (sym c.self.view_is))
    ∙ one_row_more c.self.inside.width c.self.inside.height c.self.inside.pane c.loop-y.y
    c.row_of.result.now c.self.invariant (omega arith) c.row_of.ensures
    ∙ ap (λ (o : OffScreen). map color_of (take ((c.loop-y.y + 1) * o.width) o.cells)) c.self.view_is
