-- From the last set bit to the first.
use Rattle.std.proofs.Common.{◌-◌, ◌<◌, ◌≤◌, ◌^◌, length, List, bit_and, w64, false, subst, sym, arith}
use Rattle.std.specs.Int.{trailing_zeros}
use Rattle.be_color.specs.declared.colors.Color.TheVariants.{Solid}
use Rattle.be_span.specs.declared.Cell.{Cell}
use Rattle.be_span.specs.declared.brush.Brush.{Brush}
use Rattle.be_span.proofs.MaskLemmas.{IsPaintedBut, last_painted, last_past}
use Rattle.be_span.proofs.masks.paint_each.Goals as goal
use Rattle.be_span.proofs.masks.paint_each.Goals.{then-place-cells, else-place-cells}

pub bits-preserved : goal.bits-preserved
bits-preserved c =
    let brush : Brush = c.args.brush in
    let rest = c.bits.rest in
    let old = c.args.cells.now in
    let some : 0 < rest = omega arith in
    let fits : rest < 2 ^ 64 = omega arith in
    let place = 63 - trailing_zeros w64 rest in
    let so_far = c.bits.invariant.cells in
    let After : List Cell → Type 0 = λ l. IsPaintedBut brush (Solid c.args.rgb) c.args.mask (bit_and rest (rest - 1)) old l in
    let none : Cell = record { rgb = record { red = 0; green = 0; blue = 0 }; dirty = false } in
    record {
      cells = elim c.if-place-cells.branch [
        | then-place-cells w ↦
            let less : place < length c.bits.cells = omega arith in
            subst After (sym w.cells-is) (last_painted brush (Solid c.args.rgb) c.args.mask rest old c.bits.cells none w.painted.result some fits less so_far w.painted.ensures)
        | else-place-cells w ↦
            let past : length old ≤ place = omega arith in
            subst After (sym w.cells-is) (last_past brush (Solid c.args.rgb) c.args.mask rest old c.bits.cells some fits past so_far)
      ];
    }
