use Rattle.std.proofs.Common.{ℤ, ◌-ℤ◌, Bool, ◌&&◌, ap, sym}
use Rattle.be_geom.specs.Rects.{rect_has}
use Rattle.be_shape.specs.Rasters.{line_has, raster_has}
use Rattle.be_shape.specs.declared.Raster.{Raster}
use Rattle.be_descent.specs.Drawing.{may_draw}
use Rattle.be_descent.specs.Inks.{shape_has}
use Rattle.be_descent.proofs.PaintLemmas.{same_painted}
use Rattle.be_descent.proofs.line.paint_held.Goals as goal

pub returns-in-Some : goal.returns-in-Some
unfolding raster_has
returns-in-Some g c =
    let way = c.args.way in
    let line = c.in-Some.line in
    let area = c.args.area in
    let may : ℤ → ℤ → Bool = may_draw c.args.reach.now in
    let more : ℤ → ℤ → Bool = g.P.Paint.at c.args.paint.now in
    same_painted (g.P.Paint.rule c.args.paint.now)
    (λ x y. rect_has area x y && (may x y
    && (line_has line.from line.to 1 (x -ℤ way.right) (y -ℤ way.down) && more x y)))
    (λ x y. rect_has area x y && (may x y && (shape_has c.args.raster.now way x y && more x y)))
    c.args.spans.now c.paint_reached.new.spans
    (λ x y. ap (λ (r : Raster). rect_has area x y && (may x y
    && (raster_has r (x -ℤ way.right) (y -ℤ way.down) && more x y)))
    (sym c.in-Some.ensures.line.0))
    c.paint_reached.ensures
