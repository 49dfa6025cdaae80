use Rattle.std.proofs.Common.{◌≡◌, ◌+ℤ◌, ◌-ℤ◌, SFits, w16, w32, refl, arith, rules}
use Rattle.std.proofs.lemmas.Int.{to_z-of_z, ints}
use Rattle.be_descent.specs.Drawing.{may_draw}
use Rattle.be_descent.specs.Inks.{frame_of, picture_color, shape_has}
use Rattle.be_descent.specs.Places.{has_moved}
use Rattle.be_descent.specs.declared.way.Way.{Way}
use Rattle.be_descent.proofs.FitLemmas.{fits_32}
use Rattle.be_span.specs.Slices.{painted, pattern_color}
use Rattle.be_paint.specs.Inks.{shape, text, image, text_has}
use Rattle.be_paint.specs.Laying.{brush_of}
use Rattle.be_paint.proofs.PaintLemmas.{ink_laid, is_image, is_shape, is_text}
use Rattle.be_paint.proofs.painting.paint_ink.Goals as goal

pub returns-in-Shape : goal.returns-in-Shape
returns-in-Shape c =
    let s = c.args.state.now in
    let way = c.args.way in
    let window = c.args.reach.now.window in
    let raster = c.in-Shape.raster in
    let pattern = c.in-Shape.pattern in
    let wx : SFits w32 way.right = search rules in
    let wy : SFits w32 way.down = search rules in
    rw c.in-Shape.is (ink_laid (shape raster pattern) s window way
    (λ x y. painted (brush_of s) (pattern_color (brush_of s) pattern.rows (x -ℤ window.x)
    (y -ℤ window.y))) (shape_has raster way) (may_draw c.args.reach.now) c.args.spans.now
    c.paint_shape.new.spans (is_shape raster pattern s window way)
    (rw c.brush_of-brush.ensures at c.paint_shape.ensures))

pub returns-in-Text : goal.returns-in-Text
returns-in-Text c =
    let s = c.args.state.now in
    let way = c.args.way in
    let window = c.args.reach.now.window in
    let codes = c.in-Text.codes.now in
    let wx : SFits w32 way.right = search rules in
    let wy : SFits w32 way.down = search rules in
    rw c.in-Text.is (ink_laid (text codes) s window way (λ x y. painted (brush_of s) s.high)
    (λ x y. text_has codes s.pen.x s.pen.y (x -ℤ way.right) (y -ℤ way.down))
    (may_draw c.args.reach.now) c.args.spans.now c.paint_text.new.spans
    (is_text codes s window way)
    (rw c.brush_of-brush.ensures at c.paint_text.ensures))

pub returns-in-Image : goal.returns-in-Image
returns-in-Image c =
    let s = c.args.state.now in
    let way = c.args.way in
    let window = c.args.reach.now.window in
    let picture = c.in-Image.bitmap.now in
    let corner = c.in-Image.corner in
    let near = c.requires.near in
    let cx : SFits w16 corner.x = search rules in
    let cy : SFits w16 corner.y = search rules in
    let fx : SFits w32 corner.x = search rules in
    let fy : SFits w32 corner.y = search rules in
    let vx : SFits w32 way.right = search rules in
    let vy : SFits w32 way.down = search rules in
    let rx : SFits w32 c.from.result = search rules in
    let ry : SFits w32 c.from-in-Image.result = search rules in
    let left : c.from.result ≡ corner.x = simp to_z-of_z at c.from.ensures in
    let top : c.from-in-Image.result ≡ corner.y = simp to_z-of_z at c.from-in-Image.ensures in
    let wx : SFits w32 (way.right +ℤ c.from.result) = fits_32 (way.right +ℤ c.from.result)
    (omega (arith, ints)) (omega (arith, ints)) in
    let wy : SFits w32 (way.down +ℤ c.from-in-Image.result) = fits_32 (way.down +ℤ c.from-in-Image.result)
    (omega (arith, ints)) (omega (arith, ints)) in
    let at : Way = record {
      right = way.right +ℤ corner.x;
      down = way.down +ℤ corner.y;
    } in
    rw c.in-Image.is (ink_laid (image picture corner) s window way
    (λ x y. painted (brush_of s) (picture_color picture at x y))
    (has_moved (frame_of picture) at) (may_draw c.args.reach.now) c.args.spans.now
    c.paint_image.new.spans (is_image picture corner s window way at refl refl)
    (rw (
      to_z-of_z w32 _ vx,
      to_z-of_z w32 _ vy,
      to_z-of_z w32 _ rx,
      to_z-of_z w32 _ ry,
      to_z-of_z w32 _ wx,
      to_z-of_z w32 _ wy,
      c.brush_of-brush.ensures,
      left,
      top,
    ) at c.paint_image.ensures))
