-- One colour all over.
use Rattle.std.proofs.Common.{◌≡◌, Option, Some, None, [], ◌∷◌, length, cond, arith, ap, ◌∙◌}
use Rattle.be_span.specs.declared.Cell.{Cell}
use Rattle.be_span.specs.Spans.{clean_cell, pixels_of}
use Rattle.be_span.proofs.CellLemmas.{cell_all, none_dirty}
use Rattle.be_span.proofs.grid.Grid.filled.Goals as goal

pub returns-clause-cells : goal.returns-clause-cells
returns-clause-cells c x y has =
    let area = c.area_of.ensures in
    let len = c.in_ok-cells.ensures.len in
    let whole : length c.in_ok-cells.cells.items ≡ pixels_of (c.args.frame ∷ []) = omega arith in
    let none : Option Cell = None in
    cell_all (c.args.frame ∷ []) c.in_ok-cells.cells.items (clean_cell c.args.rgb) x y whole c.in_ok-cells.ensures.same
    ∙ ap (λ b. cond b (Some (clean_cell c.args.rgb)) none) has

pub invariant_of-result : goal.invariant_of-result
invariant_of-result c = record {
  some = c.requires;
  whole = let area = c.area_of.ensures in let len = c.in_ok-cells.ensures.len in omega arith;
  counted = none_dirty c.args.rgb c.in_ok-cells.cells.items c.in_ok-cells.ensures.same;
}
