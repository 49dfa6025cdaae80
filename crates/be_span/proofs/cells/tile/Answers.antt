-- From cell to cell.
use Rattle.std.proofs.Common.{◌≡◌, ◌+◌, cond, false, refl, sym, ap, ◌∙◌, arith}
use Rattle.be_span.specs.Slices.{turned_bit}
use Rattle.be_span.specs.Spans.{clean_cell}
use Rattle.be_span.specs.declared.Cell.{Cell}
use Rattle.be_span.proofs.SliceLemmas.{eight_before, told_more, turn_cell}
use Rattle.be_span.proofs.cells.tile.Goals as goal
use Rattle.be_span.proofs.cells.tile.Goals.{then-has_bit, else-has_bit}

pub loop-place-init : goal.loop-place-init
loop-place-init c = record { long = refl; done = λ k h. absurd (omega arith) }

pub loop-place-preserved : goal.loop-place-preserved
loop-place-preserved c =
    let place = c.loop-place.place in
    let old = c.args.cells.now in
    let so_far = c.loop-place.invariant in
    let long = so_far.long in
    let least = c.min-head.ensures in
    let picked : c.if-has_bit.rgb ≡ cond (turned_bit c.args.byte (c.args.first + place)) c.args.set c.args.unset =
    elim c.if-has_bit.branch [
      | then-has_bit w ↦ w.rgb-is ∙ ap (λ b. cond b c.args.set c.args.unset) (sym w.if-has_bit.true ∙ c.has_bit.ensures)
      | else-has_bit w ↦ w.rgb-is ∙ ap (λ b. cond b c.args.set c.args.unset) (sym w.if-has_bit.false ∙ c.has_bit.ensures)
    ] in
    told_more (turn_cell c.args.byte c.args.first c.args.set c.args.unset) old c.loop-place.cells place _ (omega arith) so_far (ap clean_cell picked)

pub loop-place-2-init : goal.loop-place-2-init
loop-place-2-init c =
    let so_far = c.loop-place.invariant in
    record { told = record { long = so_far.long; done = λ k h. so_far.done k (omega arith) } }

pub loop-place-2-preserved : goal.loop-place-2-preserved
loop-place-2-preserved c =
    let place = c.loop-place-2.place in
    let old = c.args.cells.now in
    let new = c.loop-place-2.cells in
    let so_far = c.loop-place-2.invariant.told in
    let long = so_far.long in
    let first_long = c.loop-place.invariant.long in
    let least = c.min-head.ensures in
    let none : Cell = record { rgb = record { red = 0; green = 0; blue = 0 }; dirty = false } in
    record {
      told = told_more (turn_cell c.args.byte c.args.first c.args.set c.args.unset) old new place _ (omega arith) so_far
          (eight_before c.args.byte c.args.first c.args.set c.args.unset old new place none (omega arith) so_far);
    }

pub returns-clause-each : goal.returns-clause-each
returns-clause-each c k less =
    let long = c.loop-place-2.invariant.told.long in
    let first_long = c.loop-place.invariant.long in
    c.loop-place-2.invariant.told.done k (omega arith)
