use Rattle.std.proofs.Common.{◌≡◌, pos, ◌+ℤ◌, ◌-ℤ◌, ◌<ℤ◌, ◌≤ℤ◌, slice_get, slice_index, false, SFits, w32}
use Rattle.std.proofs.Common.{ap, ◌∙◌, cond, inl, inr, arith, rules}
use Rattle.std.specs.Option.{option_map}
use Rattle.std.proofs.lemmas.Int.{ints, to_z-of_z}
use Rattle.be_color.specs.declared.colors.Color.TheVariants.{Clear}
use Rattle.be_span.specs.Slices.{painted}
use Rattle.be_descent.specs.Inks.{masks_have}
use Rattle.be_descent.proofs.BitLemmas.{mask_moved}
use Rattle.be_descent.proofs.CellLemmas.{bit_of, bits_above, bits_behind, bits_below, marked}
use Rattle.be_descent.proofs.CellLemmas.{not_changed}
use Rattle.be_descent.proofs.letters.LettersPaint.paint.Goals as goal
use Rattle.be_descent.proofs.letters.LettersPaint.paint.Goals.{else-above-eq0-via-then-above-eq0+then-row-lt7+else-column-lt64, else-above-eq0-via-then-above-eq0+else-row-lt7, else-above-eq0-via-else-above-eq0}

pub returns-then-column-lt64-clause-cells : goal.returns-then-column-lt64-clause-cells
returns-then-column-lt64-clause-cells c k =
    let s = c.args.self.now in
    let across : SFits w32 s.way.right = search rules in
    let down : SFits w32 s.way.down = search rules in
    let far = simp (to_z-of_z, c.ranges.x, across) at c.around-column.ensures.far in
    let row = simp (to_z-of_z, c.ranges.y, down) at c.around-row.ensures.far in
    let none = c.if-above-eq0.true in
    let is : pos c.around-row.result.0 ≡ c.args.y -ℤ s.way.down = omega (arith, ints) in
    let bit = bit_of s.masks.now s.way _ c.around-column.result.0 c.around-column.result.1
    c.around-row.result.0 k c.args.x c.args.y far c.around-column.ensures.one is c.if-row-lt7.true
    (λ j. mask_moved (slice_index s.masks.now c.around-row.result.0) c.around-column.result.0 j) in
    c.paint_marked.ensures.cells k
    ∙ ap (λ b. option_map (painted s.brush (cond b s.color Clear)) (slice_get c.args.cells.now k))
    bit
    ∙ marked s.brush s.color (masks_have s.masks.now s.way (c.args.x +ℤ pos k) c.args.y)
    (slice_get c.args.cells.now k)

pub returns-else-above-eq0-clause-cells : goal.returns-else-above-eq0-clause-cells
returns-else-above-eq0-clause-cells c k =
    let s = c.args.self.now in
    let x = c.args.x +ℤ pos k in
    let across : SFits w32 s.way.right = search rules in
    let down : SFits w32 s.way.down = search rules in
    let far = simp (to_z-of_z, c.ranges.x, across) at c.around-column.ensures.far in
    let row = simp (to_z-of_z, c.ranges.y, down) at c.around-row.ensures.far in
    let none : masks_have s.masks.now s.way x c.args.y ≡ false = elim c.else-above-eq0.branch [
      | else-above-eq0-via-then-above-eq0+then-row-lt7+else-column-lt64 w ↦
          let over = w.if-column-lt64.false in
          let behind : pos 64 ≤ℤ (x -ℤ s.way.right) = elim c.around-column.ensures.one [
            | inl none ↦ absurd (omega arith)
            | inr none ↦ omega (arith, ints)
          ] in
          bits_behind s.masks.now (x -ℤ s.way.right) (c.args.y -ℤ s.way.down) behind
      | else-above-eq0-via-then-above-eq0+else-row-lt7 w ↦
          let none = w.if-above-eq0.true in
          let over = w.if-row-lt7.false in
          bits_below s.masks.now (x -ℤ s.way.right) (c.args.y -ℤ s.way.down) (omega (arith, ints))
      | else-above-eq0-via-else-above-eq0 w ↦
          let some = w.if-above-eq0.false in
          let out : (c.args.y -ℤ s.way.down) <ℤ pos 0 = elim c.around-row.ensures.one [
            | inl none ↦ omega (arith, ints)
            | inr none ↦ absurd (omega arith)
          ] in
          bits_above s.masks.now (x -ℤ s.way.right) (c.args.y -ℤ s.way.down) out
    ] in
    not_changed (λ x y. painted s.brush s.color) (masks_have s.masks.now s.way) x c.args.y
    (slice_get c.args.cells.now k) none
