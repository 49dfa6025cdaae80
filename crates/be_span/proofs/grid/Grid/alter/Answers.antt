-- A row altered.
use Rattle.std.proofs.Common.{ap, ◌∙◌, sym, subst, pos, ◌+ℤ◌}
use Rattle.std.specs.Option.{option_map}
use Rattle.std.proofs.lemmas.Int.{to_z-of_z}
use Rattle.std.proofs.lemmas.List.{with_items_is}
use Rattle.be_span.specs.Painting.{changed}
use Rattle.be_span.specs.Runs.{HasRun}
use Rattle.be_span.specs.Spans.{Spans, block, cell_in}
use Rattle.be_span.proofs.grid.Grid.alter.Goals as goal

pub alter_in-self-inside-requires-clause-run : goal.alter_in-self-inside-requires-clause-run
alter_in-self-inside-requires-clause-run g c =
    simp (to_z-of_z, c.ranges.x, c.ranges.y) (subst (λ (s : Spans). HasRun s.rects c.args.x c.args.y c.args.count) (sym c.self.view_is) c.requires.run)

pub returns-clause-altered : goal.returns-clause-altered
returns-clause-altered g c k less =
    let altered = simp (to_z-of_z, c.ranges.x, c.ranges.y) at c.alter_in-self-inside.ensures.altered in
    let whole = with_items_is c.self.inside.cells c.alter_in-self-inside.new.cells (c.alter_in-self-inside.ensures.len ∙ c.deref_mut.ensures.len) in
    ap (λ l. cell_in (block c.self.inside.frame l) (c.args.x +ℤ pos k) c.args.y) whole
    ∙ altered k less
    ∙ ap (λ s. option_map (changed (g.A.Alter.rule c.args.alter.now) (g.A.Alter.at c.args.alter.now) (c.args.x +ℤ pos k) c.args.y) (cell_in s (c.args.x +ℤ pos k) c.args.y)) (ap (block c.self.inside.frame) c.deref_mut.ensures.value ∙ c.self.view_is)

pub returns-clause-others : goal.returns-clause-others
returns-clause-others g c z w beside =
    let others = simp (to_z-of_z, c.ranges.x, c.ranges.y) at c.alter_in-self-inside.ensures.others in
    let whole = with_items_is c.self.inside.cells c.alter_in-self-inside.new.cells (c.alter_in-self-inside.ensures.len ∙ c.deref_mut.ensures.len) in
    ap (λ l. cell_in (block c.self.inside.frame l) z w) whole
    ∙ others z w beside
    ∙ ap (λ s. cell_in s z w) (ap (block c.self.inside.frame) c.deref_mut.ensures.value ∙ c.self.view_is)
