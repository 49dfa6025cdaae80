-- A row of the rectangle.
use Rattle.std.proofs.Common.{refl, sym, ◌∙◌, [], ◌∷◌}
use Rattle.std.proofs.lemmas.Int.{to_z-of_z}
use Rattle.be_span.proofs.CellLemmas.{part_get, stood_cell}
use Rattle.be_span.proofs.block.row_in.Goals as goal

pub start_of-start-requires-clause-run : goal.start_of-start-requires-clause-run
start_of-start-requires-clause-run c = simp (to_z-of_z, c.ranges.x, c.ranges.y) c.requires.run

pub returns-clause-cells : goal.returns-clause-cells
returns-clause-cells c k less =
    let stand = simp (to_z-of_z, c.ranges.x, c.ranges.y) at c.start_of-start.ensures.stand in
    stood_cell (c.args.frame ∷ []) c.args.cells.now c.start_of-start.result c.args.count c.args.x c.args.y k stand less
    ∙ sym (part_get c.args.cells.now _ c.start_of-start.result c.args.count k refl less)
