-- No cell has a mark then.
use Rattle.std.proofs.Common.{◌≡◌, ◌∙◌, sym, ap, [], ◌∷◌, length, map, count_by}
use Rattle.std.proofs.lemmas.List.{with_items_is, length-map}
use Rattle.be_span.specs.Cells.{unmarked}
use Rattle.be_span.specs.declared.Cell.{Cell}
use Rattle.be_span.proofs.MarkLemmas.{cell_unmarked, none_marked}
use Rattle.be_span.proofs.grid.Grid.clear_marks.Goals as goal

pub invariant_of-self : goal.invariant_of-self
invariant_of-self c =
    let old = c.self.inside.cells.items in
    let made : c.unmark_all.new.cells ≡ map unmarked old = c.unmark_all.ensures ∙ ap (map unmarked) c.deref_mut.ensures.value in
    let whole = with_items_is c.self.inside.cells c.unmark_all.new.cells (c.unmark_all.auto.cells ∙ c.deref_mut.ensures.len) in
    record {
      some = c.self.invariant.some;
      whole = ap length whole ∙ ap length made ∙ length-map old unmarked ∙ c.self.invariant.whole;
      counted = sym (ap (count_by (λ (d : Cell). d.dirty)) whole ∙ ap (count_by (λ (d : Cell). d.dirty)) made ∙ none_marked old);
    }

pub returns-clause-cells : goal.returns-clause-cells
returns-clause-cells c x y =
    let old = c.self.inside.cells.items in
    let made : c.unmark_all.new.cells ≡ map unmarked old = c.unmark_all.ensures ∙ ap (map unmarked) c.deref_mut.ensures.value in
    let whole = with_items_is c.self.inside.cells c.unmark_all.new.cells (c.unmark_all.auto.cells ∙ c.deref_mut.ensures.len) in
    rw (← c.self.view_is) (cell_unmarked (c.self.inside.frame ∷ []) old _ x y (whole ∙ made))
