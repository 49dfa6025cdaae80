-- What a byte is for the cells.
use Rattle.std.proofs.Common.{◌≡◌, pos, ◌+ℤ◌, ◌+◌, ◌-◌, ◌%◌, ◌==◌, Bool, cond, true, slice_get, arith, sym, ap, ◌∙◌}
use Rattle.std.specs.Int.{bit_at}
use Rattle.std.specs.Option.{option_map}
use Rattle.std.proofs.lemmas.Int.{ints, to_z-of_z}
use Rattle.be_color.specs.Pattern.{place_in_pattern}
use Rattle.be_color.specs.Pixel.{picked}
use Rattle.be_color.specs.declared.colors.Color.{Color}
use Rattle.be_span.specs.Slices.{painted, row_bit}
use Rattle.be_span.proofs.SliceLemmas.{all_set, picks, place_next}
use Rattle.be_span.proofs.cells.paint_bits.Goals as goal

pub returns-then-byte-eq255-clause-cells : goal.returns-then-byte-eq255-clause-cells
returns-then-byte-eq255-clause-cells c k =
    let brush = c.args.brush in
    let x = c.args.column +ℤ pos k in
    let bit : row_bit c.args.byte x ≡ true = ap (λ n. row_bit n x) c.if-byte-eq255.true ∙ all_set x in
    c.paint_alike.ensures.cells k
    ∙ ap (λ (s : Color). option_map (painted brush s) (slice_get c.args.cells.now k))
    (c.pick-set.ensures ∙ ap (λ (b : Bool). picked brush.mode b brush.high brush.low) (sym bit))

pub returns-else-byte-eq0-clause-cells : goal.returns-else-byte-eq0-clause-cells
returns-else-byte-eq0-clause-cells c k =
    let brush = c.args.brush in
    let x = c.args.column +ℤ pos k in
    let column = c.ranges.column in
    let first = simp to_z-of_z at c.place_in_row-first.ensures.place in
    let place : (c.place_in_row-first.result + k) % 8 ≡ place_in_pattern x =
    ap (λ n. (n + k) % 8) first ∙ place_next c.args.column k (omega (arith, ints)) in
    let bit = ap (λ n. bit_at c.args.byte (7 - n) == 1) place in
    c.paint_turns.ensures.cells k
    ∙ ap (λ (s : Color). option_map (painted brush s) (slice_get c.args.cells.now k))
    (ap (λ (b : Bool). cond b c.pick-set.result c.pick-unset.result) bit
    ∙ picks brush (row_bit c.args.byte x) c.pick-set.result c.pick-unset.result c.pick-set.ensures c.pick-unset.ensures)
