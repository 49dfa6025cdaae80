-- No cell has a mark then.
use Rattle.std.proofs.Common.{◌≡◌, ◌∙◌, ℤ, false, inl, inr, sym, ap}
use Rattle.std.specs.Option.{option_map}
use Rattle.be_facts.proofs.Truths.{true_or_false}
use Rattle.be_region.specs.Regions.{region_has}
use Rattle.be_span.specs.Cells.{unmarked}
use Rattle.be_span.specs.Seen.{IsSeen}
use Rattle.be_span.specs.Spans.{cell_in, is_dirty}
use Rattle.be_span.proofs.BufferLemmas.{cell_is, clean_of, dirty_is, none_is, rects_are}
use Rattle.be_span.proofs.MarkLemmas.{already_clean, none_unmarked}
use Rattle.be_span.proofs.SeenLemmas.{seen_cell, seen_rects, unseen_cell}
use Rattle.be_span.proofs.buffer.SpanBuf.clear_marks.Goals as goal

pub returns-then-dirty-eq0-clause-clean : goal.returns-then-dirty-eq0-clause-clean
returns-then-dirty-eq0-clause-clean c =
    dirty_is c.self.inside.region c.self.inside.grid c.args.self.now c.self.invariant c.self.view_is ∙ sym c.dirty.ensures ∙ c.if-dirty-eq0.true

pub returns-then-dirty-eq0-clause-cells : goal.returns-then-dirty-eq0-clause-cells
returns-then-dirty-eq0-clause-cells c x y = already_clean c.args.self.now x y (returns-then-dirty-eq0-clause-clean c)

is_clean : (c : goal.After-clear_marks) (x y : ℤ) → is_dirty (cell_in c.clear_marks.new.self x y) ≡ false
is_clean c x y = ap is_dirty (c.clear_marks.ensures.cells x y) ∙ none_unmarked (cell_in c.self.inside.grid x y)

kept : (c : goal.After-clear_marks) → IsSeen c.self.inside.region c.clear_marks.new.self
kept c = record {
  bands = c.self.invariant.bands;
  frame = c.self.invariant.frame;
  framed = c.clear_marks.ensures.frame ∙ c.self.invariant.framed;
  some = c.self.invariant.some;
  inside = λ x y has. ap (λ l. region_has l x y) c.clear_marks.ensures.frame ∙ c.self.invariant.inside x y has;
  whole = c.clear_marks.ensures.whole;
  outside = λ x y out. is_clean c x y;
}

pub invariant_of-self : goal.invariant_of-self
invariant_of-self c = kept c

pub returns-clause-region : goal.returns-clause-region
returns-clause-region c = seen_rects c.self.inside.region c.clear_marks.new.self ∙ sym (rects_are c.self.inside.region c.self.inside.grid c.args.self.now c.self.view_is)

pub returns-clause-cells : goal.returns-clause-cells
returns-clause-cells c x y =
    elim (true_or_false (region_has c.self.inside.region x y)) [
      | inl h ↦ seen_cell c.self.inside.region c.clear_marks.new.self x y (kept c) h ∙ c.clear_marks.ensures.cells x y ∙ ap (option_map unmarked) (sym (cell_is c.self.inside.region c.self.inside.grid c.args.self.now x y c.self.invariant c.self.view_is h))
      | inr h ↦ unseen_cell c.self.inside.region c.clear_marks.new.self x y h ∙ ap (option_map unmarked) (sym (none_is c.self.inside.region c.self.inside.grid c.args.self.now x y c.self.view_is h))
    ]

pub returns-clause-clean : goal.returns-clause-clean
returns-clause-clean c = clean_of c.self.inside.region c.clear_marks.new.self (kept c) (is_clean c)
