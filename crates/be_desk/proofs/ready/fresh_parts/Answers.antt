-- Rectangle by rectangle.
use Rattle.std.proofs.Common.{◌≡◌, ℤ, true, Some, [], ◌∷◌, ◌++◌, sym, ap, ◌∙◌, arith, length}
use Rattle.std.specs.List.{list_any}
use Rattle.std.proofs.lemmas.List.{take_all}
use Rattle.std.proofs.lemmas.List.Elements.{All-push, All-same}
use Rattle.be_region.specs.Regions.{region_has}
use Rattle.be_span.specs.Spans.{Spans, cell_in, pixels_of}
use Rattle.be_span.proofs.LaidLemmas.{rect_inside}
use Rattle.be_desk.specs.Plans.{lent}
use Rattle.be_desk.specs.Renewals.{renewed_cell}
use Rattle.be_desk.proofs.ReadyLemmas.{parts_more, under_part}
use Rattle.be_desk.proofs.ready.fresh_parts.Goals as goal

pub renewed-requires-clause-colored : goal.renewed-requires-clause-colored
renewed-requires-clause-colored c x y has =
    c.requires.colored x y (rect_inside c.args.exposed.now c.loop-place.place c.unwrap-rect.result x y (sym c.rect_at.ensures.at_place ∙ c.unwrap-rect.ensures) (sym (c.in_ok-pixels.ensures x y) ∙ has))

pub loop-place-preserved : goal.loop-place-preserved
loop-place-preserved c =
    let there = sym c.rect_at.ensures.at_place ∙ c.unwrap-rect.ensures in
    let part = c.in_ok-part.part in
    let pixels = λ (x y : ℤ). ap (λ l. region_has l x y) c.in_ok-part.ensures.region ∙ c.in_ok-pixels.ensures x y in
    record {
      region = λ x y. ap (list_any (λ (s : Spans). region_has s.rects x y)) c.in_ok-push.ensures.items ∙ parts_more c.loop-place.parts.items part c.args.exposed.now c.loop-place.place c.unwrap-rect.result x y there (c.loop-place.invariant.region x y) (pixels x y);
      whole = All-same (λ (s : Spans). length s.cells ≡ pixels_of s.rects) _ (c.loop-place.parts.items ++ part ∷ []) c.in_ok-push.ensures.items (All-push (λ (s : Spans). length s.cells ≡ pixels_of s.rects) c.loop-place.parts.items part c.loop-place.invariant.whole c.whole.ensures.cells);
      cells = λ cells under.
          let r = c.args.renewal.now in
          let its = c.in_ok-part.ensures.cells cells (under_part (lent c.args.panes.now) c.args.exposed.now c.in_ok-pixels.pixels cells (λ x y has. rect_inside c.args.exposed.now c.loop-place.place c.unwrap-rect.result x y there (sym (c.in_ok-pixels.ensures x y) ∙ has)) under) in
          All-same (λ (s : Spans). (x y : ℤ) → region_has s.rects x y ≡ true → cell_in s x y ≡ Some (renewed_cell r x y (cells x y))) _ (c.loop-place.parts.items ++ part ∷ []) c.in_ok-push.ensures.items
          (All-push (λ (s : Spans). (x y : ℤ) → region_has s.rects x y ≡ true → cell_in s x y ≡ Some (renewed_cell r x y (cells x y))) c.loop-place.parts.items part (c.loop-place.invariant.cells cells under)
          (λ x y has. its x y (ap (λ l. region_has l x y) (sym c.in_ok-part.ensures.region) ∙ has)));
    }

pub returns-clause-region : goal.returns-clause-region
returns-clause-region c x y =
    let count = c.count-place-end.ensures.number in
    c.loop-place.invariant.region x y ∙ ap (λ l. region_has l x y) (take_all c.loop-place.place c.args.exposed.now (omega arith))

pub returns-clause-whole : goal.returns-clause-whole
returns-clause-whole c = c.loop-place.invariant.whole

pub returns-clause-cells : goal.returns-clause-cells
returns-clause-cells c = c.loop-place.invariant.cells
