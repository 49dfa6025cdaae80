use Rattle.std.proofs.Common.{ℤ, ◌-ℤ◌, Bool, ◌&&◌, ap, sym}
use Rattle.be_shape.specs.Rasters.{raster_has}
use Rattle.be_shape.specs.declared.Raster.{Raster}
use Rattle.be_descent.specs.Drawing.{may_draw}
use Rattle.be_descent.specs.Inks.{shape_has}
use Rattle.be_descent.specs.Places.{has_moved}
use Rattle.be_descent.proofs.PaintLemmas.{same_painted}
use Rattle.be_paint.proofs.painting.paint_raster.Goals as goal

pub returns-in-Fill : goal.returns-in-Fill
unfolding raster_has
returns-in-Fill g c =
    let way = c.args.way in
    let more : ℤ → ℤ → Bool = λ x y. may_draw c.args.reach.now x y && g.P.Paint.at c.args.paint.now x y in
    same_painted (g.P.Paint.rule c.args.paint.now) (λ x y. has_moved c.in-Fill.rect way x y && more x y)
    (λ x y. shape_has c.args.raster.now way x y && more x y) c.args.spans.now c.paint_rect.new.spans
    (λ x y. ap (λ (r : Raster). raster_has r (x -ℤ way.right) (y -ℤ way.down) && more x y) (sym c.in-Fill.is))
    c.paint_rect.ensures
