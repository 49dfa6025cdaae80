-- Rectangle by rectangle.
use Rattle.std.proofs.Common.{inl, inr, refl, sym, ap, ◌∙◌, cond, arith}
use Rattle.std.specs.Option.{option_map}
use Rattle.std.proofs.lemmas.List.{take_all}
use Rattle.be_facts.proofs.Truths.{and_true, true_or_false}
use Rattle.be_geom.specs.Rects.{rect_has}
use Rattle.be_region.specs.Regions.{region_has}
use Rattle.be_span.specs.Cells.{unmarked}
use Rattle.be_span.specs.Spans.{cell_in}
use Rattle.be_span.proofs.LaidLemmas.{rect_inside}
use Rattle.be_span.proofs.MarkLemmas.{already_clean}
use Rattle.be_span.proofs.BlockLemmas.{all_more, map_twice}
use Rattle.be_span.proofs.retake.unmark.Goals as goal

pub returns-then-dirty-eq0-clause-cells : goal.returns-then-dirty-eq0-clause-cells
returns-then-dirty-eq0-clause-cells c x y =
    let same = already_clean c.args.grid.now x y (sym c.dirty.ensures ∙ c.if-dirty-eq0.true) in
    elim (true_or_false (region_has c.args.region.now x y)) [
      | inl h ↦ same ∙ sym (ap (λ b. cond b (option_map unmarked (cell_in c.args.grid.now x y)) (cell_in c.args.grid.now x y)) h)
      | inr h ↦ sym (ap (λ b. cond b (option_map unmarked (cell_in c.args.grid.now x y)) (cell_in c.args.grid.now x y)) h)
    ]

pub loop-place-init : goal.loop-place-init
loop-place-init c = record { frame = refl; whole = c.requires.whole; cells = λ x y. refl }

pub alter_rect-requires-clause-inside : goal.alter_rect-requires-clause-inside
alter_rect-requires-clause-inside c x y has =
    ap (λ l. region_has l x y) c.loop-place.invariant.frame
    ∙ c.requires.inside x y (rect_inside c.args.region.now c.loop-place.place c.unwrap-rect.result x y (sym c.rect_at.ensures.at_place ∙ c.unwrap-rect.ensures) has)

pub loop-place-preserved : goal.loop-place-preserved
loop-place-preserved c = record {
  frame = c.alter_rect.ensures.painted.region ∙ c.loop-place.invariant.frame;
  whole = c.alter_rect.ensures.whole;
  cells = all_more (λ x y. option_map unmarked) c.args.grid.now c.loop-place.grid c.alter_rect.new.self c.args.region.now c.loop-place.place c.unwrap-rect.result (λ x y. map_twice unmarked (λ d. refl)) (sym c.rect_at.ensures.at_place ∙ c.unwrap-rect.ensures) c.loop-place.invariant.cells
      (λ x y. c.alter_rect.ensures.painted.cells x y ∙ ap (λ b. cond b (option_map unmarked (cell_in c.loop-place.grid x y)) (cell_in c.loop-place.grid x y)) (and_true (rect_has c.unwrap-rect.result x y)));
}

pub returns-clause-frame : goal.returns-clause-frame
returns-clause-frame c = c.loop-place.invariant.frame

pub returns-clause-whole : goal.returns-clause-whole
returns-clause-whole c = c.loop-place.invariant.whole

pub returns-clause-cells : goal.returns-clause-cells
returns-clause-cells c x y =
    let count = c.count-place-end.ensures.number in
    c.loop-place.invariant.cells x y
    ∙ ap (λ l. cond (region_has l x y) (option_map unmarked (cell_in c.args.grid.now x y)) (cell_in c.args.grid.now x y)) (take_all c.loop-place.place c.args.region.now (omega arith))
