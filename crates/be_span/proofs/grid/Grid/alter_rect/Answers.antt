-- A rectangle altered.
use Rattle.std.proofs.Common.{ℤ, Bool, ap, ◌∙◌, sym, subst}
use Rattle.std.specs.Prelude.{◌&&◌}
use Rattle.std.proofs.lemmas.List.{with_items_is}
use Rattle.be_geom.specs.Rects.{rect_has}
use Rattle.be_region.specs.Regions.{region_has}
use Rattle.be_span.specs.Painting.{IsPainted}
use Rattle.be_span.specs.Spans.{Spans, block}
use Rattle.be_span.proofs.grid.Grid.alter_rect.Goals as goal

pub alter_rows-self-inside-requires-clause-inside : goal.alter_rows-self-inside-requires-clause-inside
alter_rows-self-inside-requires-clause-inside g c x y has =
    ap (λ (s : Spans). region_has s.rects x y) c.self.view_is ∙ c.requires.inside x y has

pub returns-clause-painted : goal.returns-clause-painted
returns-clause-painted g c =
    let rule = g.A.Alter.rule c.args.alter.now in
    let at : ℤ → ℤ → Bool = λ x y. rect_has c.args.rect x y && g.A.Alter.at c.args.alter.now x y in
    let whole = with_items_is c.self.inside.cells c.alter_rows-self-inside.new.cells (c.alter_rows-self-inside.ensures.len ∙ c.deref_mut.ensures.len) in
    let done = subst (λ s. IsPainted rule at s (block c.self.inside.frame c.alter_rows-self-inside.new.cells)) (ap (block c.self.inside.frame) c.deref_mut.ensures.value ∙ c.self.view_is) c.alter_rows-self-inside.ensures.painted in
    subst (λ l. IsPainted rule at c.args.self.now (block c.self.inside.frame l)) (sym whole) done
