-- A row of cells, as far as its span goes.
use Rattle.std.proofs.Common.{◌≡◌, pos, ◌+ℤ◌, false, length, sym, ap, ◌∙◌, arith}
use Rattle.std.proofs.lemmas.Bool.{true≢false}
use Rattle.std.proofs.lemmas.Int.{to_z-of_z}
use Rattle.be_facts.proofs.Numbers.{plus_zero}
use Rattle.be_region.specs.Regions.{region_has}
use Rattle.be_span.specs.Runs.{IsRunFrom}
use Rattle.be_span.specs.Spans.{cell_in}
use Rattle.be_span.proofs.BufferLemmas.{cell_is, none_is, rects_are}
use Rattle.be_span.proofs.buffer.SpanBuf.row_from.Goals as goal

run : (c : goal.After-row) → IsRunFrom c.self.inside.region c.args.x c.args.y c.in-Some.count
run c = let x = c.ranges.x in let y = c.ranges.y in simp to_z-of_z at c.in-Some.ensures.some

pub row-requires-clause-run : goal.row-requires-clause-run
row-requires-clause-run c k less = c.self.invariant.inside _ _ (c.in-Some.ensures.some.has k less)

pub returns-in-Some-clause-cells : goal.returns-in-Some-clause-cells
returns-in-Some-clause-cells c k less =
    let read = simp (to_z-of_z, c.ranges.x, c.ranges.y) at c.row.ensures.cells in
    let long = c.row.ensures.len in
    cell_is c.self.inside.region c.self.inside.grid c.args.self.now (c.args.x +ℤ pos k) c.args.y c.self.invariant c.self.view_is ((run c).has k (omega arith)) ∙ read k (omega arith)

pub returns-in-Some-clause-ends : goal.returns-in-Some-clause-ends
returns-in-Some-clause-ends c =
    none_is c.self.inside.region c.self.inside.grid c.args.self.now (c.args.x +ℤ pos (length c.row.result.now)) c.args.y c.self.view_is (ap (λ n. region_has c.self.inside.region (c.args.x +ℤ pos n) c.args.y) c.row.ensures.len ∙ (run c).ends)

pub returns-in-Some-clause-inside : goal.returns-in-Some-clause-inside
returns-in-Some-clause-inside c =
    let long = c.row.ensures.len in
    let some = (run c).some in
    (λ _. ap (λ l. region_has l c.args.x c.args.y) (rects_are c.self.inside.region c.self.inside.grid c.args.self.now c.self.view_is) ∙ ap (λ z. region_has c.self.inside.region z c.args.y) (sym (plus_zero c.args.x)) ∙ (run c).has 0 some, λ _. omega arith)

pub returns-in-Some-clause-run : goal.returns-in-Some-clause-run
returns-in-Some-clause-run c k less =
    let long = c.row.ensures.len in
    ap (λ l. region_has l (c.args.x +ℤ pos k) c.args.y) (rects_are c.self.inside.region c.self.inside.grid c.args.self.now c.self.view_is) ∙ (run c).has k (omega arith)

none : (c : goal.After-result-in-None-1) → region_has c.self.inside.region c.args.x c.args.y ≡ false
none c = let x = c.ranges.x in let y = c.ranges.y in simp to_z-of_z at c.in-None.ensures.none

pub returns-in-None-clause-ends : goal.returns-in-None-clause-ends
returns-in-None-clause-ends c =
    ap (λ z. cell_in c.args.self.now z c.args.y) (plus_zero c.args.x) ∙ none_is c.self.inside.region c.self.inside.grid c.args.self.now c.args.x c.args.y c.self.view_is (none c)

pub returns-in-None-clause-inside : goal.returns-in-None-clause-inside
returns-in-None-clause-inside c =
    (λ less. absurd (omega arith), λ has. absurd (true≢false (sym has ∙ ap (λ l. region_has l c.args.x c.args.y) (rects_are c.self.inside.region c.self.inside.grid c.args.self.now c.self.view_is) ∙ none c)))
