-- A row written over others.
use Rattle.std.proofs.Common.{ap, ◌∙◌, sym, subst, pos, ◌+ℤ◌, [], ◌∷◌, length, slice_get}
use Rattle.std.proofs.lemmas.Int.{to_z-of_z}
use Rattle.std.proofs.lemmas.List.{with_items_is}
use Rattle.be_span.specs.Runs.{HasRun}
use Rattle.be_span.specs.Spans.{Spans, block, cell_in}
use Rattle.be_span.proofs.CellLemmas.{stays_beside, stood_cell}
use Rattle.be_span.proofs.grid.Grid.put.Goals as goal

pub start_of-start-requires-clause-run : goal.start_of-start-requires-clause-run
start_of-start-requires-clause-run c =
    simp (to_z-of_z, c.ranges.x, c.ranges.y) (subst (λ (s : Spans). HasRun s.rects c.args.x c.args.y (length c.args.cells.now)) (sym c.self.view_is) c.requires.run)

pub returns-clause-cells : goal.returns-clause-cells
returns-clause-cells c k less =
    let stand = simp (to_z-of_z, c.ranges.x, c.ranges.y) at c.start_of-start.ensures.stand in
    let whole = with_items_is c.self.inside.cells c.overwrite-self-inside.new.cells (c.overwrite-self-inside.ensures.len ∙ c.deref_mut.ensures.len) in
    ap (λ l. cell_in (block c.self.inside.frame l) (c.args.x +ℤ pos k) c.args.y) whole
    ∙ stood_cell (c.self.inside.frame ∷ []) c.overwrite-self-inside.new.cells c.start_of-start.result (length c.args.cells.now) c.args.x c.args.y k stand less
    ∙ c.overwrite-self-inside.ensures.inside k less

pub returns-clause-others : goal.returns-clause-others
returns-clause-others c z w beside =
    let stand = simp (to_z-of_z, c.ranges.x, c.ranges.y) at c.start_of-start.ensures.stand in
    let whole = with_items_is c.self.inside.cells c.overwrite-self-inside.new.cells (c.overwrite-self-inside.ensures.len ∙ c.deref_mut.ensures.len) in
    ap (λ l. cell_in (block c.self.inside.frame l) z w) whole
    ∙ stays_beside (c.self.inside.frame ∷ []) c.self.inside.cells.items c.overwrite-self-inside.new.cells c.start_of-start.result (length c.args.cells.now) c.args.x c.args.y z w stand (λ q h. c.overwrite-self-inside.ensures.others q h ∙ ap (λ l. slice_get l q) c.deref_mut.ensures.value) beside
    ∙ ap (λ s. cell_in s z w) c.self.view_is
