use Rattle.std.proofs.Common.{◌≡◌, ℤ, pos, ◌+ℤ◌, ◌-ℤ◌, Bool, ◌&&◌, SFits, w16, w32, ap, ◌∙◌}
use Rattle.std.proofs.Common.{arith, rules, refl}
use Rattle.std.proofs.lemmas.Int.{to_z-of_z, ints}
use Rattle.be_descent.specs.Drawing.{may_draw}
use Rattle.be_descent.specs.Inks.{masks_have}
use Rattle.be_descent.specs.declared.way.Way.{Way}
use Rattle.be_descent.proofs.PaintLemmas.{same_painted}
use Rattle.be_descent.proofs.FitLemmas.{fits_32}
use Rattle.be_descent.proofs.RegionLemmas.{and_joined}
use Rattle.be_geom.specs.Points.{between}
use Rattle.be_geom.specs.Rects.{rect_has}
use Rattle.be_span.specs.Slices.{painted}
use Rattle.be_paint.specs.Laying.{text_at}
use Rattle.be_paint.proofs.TextLemmas.{masks_are}
use Rattle.be_paint.proofs.texts.paint_columns.Goals as goal

pub returns : goal.returns
returns c =
    let text = c.args.text.now in
    let area = c.args.area in
    let near = c.requires.near in
    let column = c.requires.column in
    let px : SFits w16 text.pen.x = search rules in
    let py : SFits w16 text.pen.y = search rules in
    let qy : SFits w32 c.from.result = search rules in
    let row : c.from.result ≡ text.pen.y = simp to_z-of_z at c.from.ensures in
    let wx : SFits w32 text.way.right = search rules in
    let wy : SFits w32 text.way.down = search rules in
    let x : SFits w32 c.args.x = search rules in
    let sum : SFits w32 (text.way.right +ℤ c.args.x) = fits_32 (text.way.right +ℤ c.args.x)
    (omega (arith, ints, near, column)) (omega (arith, ints, near, column)) in
    let below : SFits w32 (text.way.down +ℤ c.from.result) =
    fits_32 (text.way.down +ℤ c.from.result) (omega (arith, ints, near, row))
    (omega (arith, ints, near, row)) in
    let top : SFits w32 (text.way.down +ℤ c.from.result -ℤ pos 6) =
    fits_32 (text.way.down +ℤ c.from.result -ℤ pos 6) (omega (arith, ints, near, row))
    (omega (arith, ints, near, row)) in
    let way : Way = record {
      right = text.way.right +ℤ c.args.x;
      down = text.way.down +ℤ c.from.result -ℤ pos 6;
    } in
    let masks = c.masks_at-masks.result in
    let may : ℤ → ℤ → Bool = λ u v. may_draw c.args.reach.now u v in
    let columns : ℤ → Bool = λ u. between c.args.x (u -ℤ text.way.right) (c.args.x +ℤ pos 63) in
    same_painted (λ u v. painted text.brush text.color)
    (λ u v. rect_has area u v && (masks_have masks way u v && may u v))
    (λ u v. rect_has area u v && (columns u && (text_at text u v && may u v))) c.args.spans.now
    c.paint_letters.new.spans
    (λ u v. ap (λ b. rect_has area u v && (b && may u v))
    (masks_are text.codes.now masks text.pen text.way way c.args.x u v (simp to_z-of_z at c.masks_at-masks.ensures) refl
    (omega (arith, ints, row)))
    ∙ ap (λ b. rect_has area u v && b) (and_joined (columns u) (text_at text u v) (may u v)))
    (rw (
      to_z-of_z w32 _ wx,
      to_z-of_z w32 _ wy,
      to_z-of_z w32 _ x,
      to_z-of_z w32 _ qy,
      to_z-of_z w32 _ sum,
      to_z-of_z w32 _ below,
      to_z-of_z w32 _ top,
    ) at c.paint_letters.ensures)
