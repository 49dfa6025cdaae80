-- From the last set bit to the first.
use Rattle.std.proofs.Common.{Bool, ◌-◌, ◌<◌, ◌≤◌, ◌^◌, length, List, bit_and, w64, subst, ap, sym, ◌∙◌, arith}
use Rattle.std.specs.Int.{trailing_zeros}
use Rattle.be_color.specs.declared.colors.Color.TheVariants.{Solid}
use Rattle.be_span.specs.declared.Cell.{Cell}
use Rattle.be_span.specs.Slices.{plain}
use Rattle.be_span.specs.Spans.{clean_cell}
use Rattle.be_span.proofs.MarkLemmas.{filled_clean}
use Rattle.be_span.proofs.MaskLemmas.{IsPaintedBut, last_gone, last_painted, last_past}
use Rattle.be_span.proofs.masks.put_each.Goals as goal
use Rattle.be_span.proofs.masks.put_each.Goals.{then-place-cells, else-place-cells}

pub bits-preserved : goal.bits-preserved
bits-preserved c =
    let rest = c.bits.rest in
    let old = c.args.cells.now in
    let some : 0 < rest = omega arith in
    let fits : rest < 2 ^ 64 = omega arith in
    let place = 63 - trailing_zeros w64 rest in
    let so_far = c.bits.invariant.cells in
    let After : List Cell → Type 0 = λ l. IsPaintedBut plain (Solid c.args.cell.rgb) c.args.mask (bit_and rest (rest - 1)) old l in
    let marked : Bool → Cell = λ b. record { rgb = c.args.cell.rgb; dirty = b } in
    record {
      cells = elim c.if-place-cells.branch [
        | then-place-cells w ↦
            let less : place < length c.bits.cells = omega arith in
            let same = so_far.left place (last_gone rest some fits).set in
            subst After (sym w.cells-is)
            (last_painted plain (Solid c.args.cell.rgb) c.args.mask rest old c.bits.cells (clean_cell c.args.cell.rgb) c.args.cell some fits less so_far
            (ap marked c.requires.new ∙ filled_clean c.args.cell.rgb old c.bits.cells place (clean_cell c.args.cell.rgb) c.requires.clean less same))
        | else-place-cells w ↦
            let past : length old ≤ place = omega arith in
            subst After (sym w.cells-is) (last_past plain (Solid c.args.cell.rgb) c.args.mask rest old c.bits.cells some fits past so_far)
      ];
    }
