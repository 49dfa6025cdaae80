use Rattle.std.proofs.Common.{◌≡◌, pos, ◌+ℤ◌, ◌-ℤ◌, ◌<ℤ◌, slice_get, SFits, w32, ap, ◌∙◌, inl, inr, arith, rules}
use Rattle.std.specs.Option.{option_map}
use Rattle.std.proofs.lemmas.Int.{ints, to_z-of_z}
use Rattle.be_color.specs.declared.colors.Color.{Color}
use Rattle.be_span.specs.Slices.{painted}
use Rattle.be_descent.proofs.CellLemmas.{color_at, none_above}
use Rattle.be_descent.proofs.image.ImagePaint.paint.Goals as goal

pub returns-then-above-eq0-clause-cells : goal.returns-then-above-eq0-clause-cells
returns-then-above-eq0-clause-cells c k =
    let s = c.args.self.now in
    let across : SFits w32 s.way.right = search rules in
    let down : SFits w32 s.way.down = search rules in
    let far = simp (to_z-of_z, c.ranges.x, across) at c.around-column.ensures.far in
    let row = simp (to_z-of_z, c.ranges.y, down) at c.around-row.ensures.far in
    let none = c.if-above-eq0.true in
    let is : pos c.around-row.result.0 ≡ c.args.y -ℤ s.way.down = omega (arith, ints) in
    c.paint_colors.ensures.cells k
    ∙ ap (λ (t : Color). option_map (painted s.brush t) (slice_get c.args.cells.now k))
    (color_at s.bitmap.now s.way c.row_from-colors.result.now c.around-column.result.0
    c.around-column.result.1 c.around-row.result.0 k c.args.x c.args.y far
    c.around-column.ensures.one is c.row_from-colors.ensures.pixels)

pub returns-else-above-eq0-clause-cells : goal.returns-else-above-eq0-clause-cells
returns-else-above-eq0-clause-cells c k =
    let s = c.args.self.now in
    let down : SFits w32 s.way.down = search rules in
    let row = simp (to_z-of_z, c.ranges.y, down) at c.around-row.ensures.far in
    let some = c.if-above-eq0.false in
    let out : (c.args.y -ℤ s.way.down) <ℤ pos 0 = elim c.around-row.ensures.one [
      | inl none ↦ omega (arith, ints)
      | inr none ↦ absurd (omega arith)
    ] in
    none_above s.brush s.bitmap.now s.way (c.args.x +ℤ pos k) c.args.y
    (slice_get c.args.cells.now k) out
