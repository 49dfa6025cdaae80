use Rattle.std.proofs.Common.{ℤ, ◌-ℤ◌, Bool, true, ◌&&◌, sym}
use Rattle.be_descent.specs.Drawing.{may_draw}
use Rattle.be_descent.specs.Inks.{shape_has}
use Rattle.be_span.specs.Painting.{Rule}
use Rattle.be_descent.proofs.PaintLemmas.{same_painted}
use Rattle.be_span.specs.Slices.{painted, pattern_color, recolored}
use Rattle.be_paint.proofs.PaintLemmas.{and_true, rule_painted}
use Rattle.be_paint.proofs.painting.paint_shape.Goals as goal

pub returns-in-Some : goal.returns-in-Some
returns-in-Some c =
    let coat = c.args.coat.now in
    let window = coat.window in
    let has : ℤ → ℤ → Bool = shape_has c.args.raster.now c.args.way in
    let may : ℤ → ℤ → Bool = may_draw c.args.reach.now in
    let rule : Rule = λ x y. painted coat.brush
    (pattern_color coat.brush coat.pattern.rows (x -ℤ window.x) (y -ℤ window.y)) in
    same_painted rule (λ x y. has x y && (may x y && true)) (λ x y. has x y && may x y)
    c.args.spans.now c.paint_raster.new.spans (λ x y. and_true (has x y) (may x y))
    (rule_painted (λ x y. recolored c.in-Some.rgb) rule (λ x y. has x y && (may x y && true))
    c.args.spans.now c.paint_raster.new.spans
    (λ x y cell. sym (c.in-Some.ensures (x -ℤ window.x) (y -ℤ window.y) cell))
    c.paint_raster.ensures)

pub returns-in-None : goal.returns-in-None
returns-in-None c =
    let coat = c.args.coat.now in
    let window = coat.window in
    let has : ℤ → ℤ → Bool = shape_has c.args.raster.now c.args.way in
    let may : ℤ → ℤ → Bool = may_draw c.args.reach.now in
    same_painted (λ x y. painted coat.brush
    (pattern_color coat.brush coat.pattern.rows (x -ℤ window.x) (y -ℤ window.y)))
    (λ x y. has x y && (may x y && true)) (λ x y. has x y && may x y)
    c.args.spans.now c.paint_raster-in-None.new.spans (λ x y. and_true (has x y) (may x y))
    c.paint_raster-in-None.ensures
