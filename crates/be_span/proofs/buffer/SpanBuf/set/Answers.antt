-- One pixel.
use Rattle.std.proofs.Common.{ℤ, to_z, of_z, w32, ap, ◌∙◌, sym, lit<}
use Rattle.std.proofs.lemmas.Int.{to_z-of_z}
use Rattle.be_facts.proofs.Numbers.{plus_zero}
use Rattle.be_region.specs.Regions.{region_has}
use Rattle.be_span.specs.Spans.{cell_in}
use Rattle.be_span.proofs.BufferLemmas.{one_run, rects_are}
use Rattle.be_span.proofs.buffer.SpanBuf.set.Goals as goal

pub returns-then-not-contains-clause-inside : goal.returns-then-not-contains-clause-inside
returns-then-not-contains-clause-inside c =
    let has = simp (to_z-of_z, c.ranges.x, c.ranges.y) at c.contains.ensures in
    sym c.if-not-contains.true ∙ has ∙ sym (ap (λ l. region_has l c.args.x c.args.y) (rects_are c.self.inside.region c.self.inside.grid c.args.self.now c.self.view_is))

pub returns-clause-inside : goal.returns-clause-inside
returns-clause-inside c =
    let has = simp (to_z-of_z, c.ranges.x, c.ranges.y) at c.contains.ensures in
    sym c.if-not-contains.false ∙ has ∙ sym (ap (λ l. region_has l c.args.x c.args.y) (rects_are c.self.inside.region c.self.inside.grid c.args.self.now c.self.view_is))

pub put_row-requires : goal.put_row-requires
put_row-requires c =
    let x : ℤ = to_z w32 (of_z w32 c.args.x) in
    let y : ℤ = to_z w32 (of_z w32 c.args.y) in
    one_run c.args.self.now.rects x y (ap (λ l. region_has l x y) (rects_are c.self.inside.region c.self.inside.grid c.args.self.now c.self.view_is) ∙ sym c.contains.ensures ∙ c.if-not-contains.false)

pub returns-clause-cell : goal.returns-clause-cell
returns-clause-cell c is =
    let x = c.ranges.x in
    let y = c.ranges.y in
    let put = simp to_z-of_z at c.put_row.ensures.cells in
    ap (λ z. cell_in c.put_row.new.self z c.args.y) (sym (plus_zero c.args.x)) ∙ put 0 (lit< tt)
