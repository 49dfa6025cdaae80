use Rattle.std.proofs.Common.{◌≡◌, ℤ, All, Some, take, true}
use Rattle.std.specs.List.{list_any}
use Rattle.be_region.specs.Regions.{region_has}
use Rattle.be_span.specs.declared.Cell.{Cell}
use Rattle.be_span.specs.Spans.{Spans, cell_in}
use Rattle.be_desk.specs.Plans.{lent}
use Rattle.be_desk.specs.Renewals.{AreUnder, renewed_cell}
use Rattle.be_desk.proofs.ShiftLemmas.{AreWhole}
use Rattle.be_desk.proofs.ready.fresh_parts.Given as goal

abbrev pub invariant-loop-place : goal.invariant-loop-place
invariant-loop-place l = record {
  region : (x y : ℤ) → list_any (λ s. region_has s.rects x y) l.parts.items ≡ region_has (take l.place l.exposed) x y;
  whole : AreWhole l.parts.items;
  cells : (cells : ℤ → ℤ → Cell) → AreUnder (lent l.panes) l.exposed cells → All (λ (s : Spans). (x y : ℤ) → region_has s.rects x y ≡ true → cell_in s x y ≡ Some (renewed_cell l.renewal x y (cells x y))) l.parts.items;
}
