use Rattle.std.proofs.Common.{◌<◌, ◌≤◌, pos, ◌+ℤ◌, length, SFits, w32, rules, arith, sym, ap, ◌∙◌}
use Rattle.std.proofs.lemmas.Int.{to_z-of_z}
use Rattle.be_facts.proofs.Lists.{get_take}
use Rattle.be_update.proofs.RowLemmas.{cut_length, wide_enough}
use Rattle.be_update.proofs.dirty.row_of.Goals as goal

long : (c : goal.After-row_from-row) → c.count_of-width.result ≤ length c.row_from-row.result.now
long c =
    let l = c.ranges.left in
    let r = c.ranges.right in
    let y = c.ranges.y in
    let left : SFits w32 c.args.left = search rules in
    let row : SFits w32 c.args.y = search rules in
    let wide = simp to_z-of_z at c.count_of-width.ensures in
    let ends = simp (c.from.ensures, c.from-2.ensures, to_z-of_z) at c.row_from-row.ensures.ends in
    wide_enough c.args.spans.now c.args.left c.args.right c.args.y (length c.row_from-row.result.now) c.count_of-width.result c.requires.whole wide c.requires.inside ends

pub slice_bounds-result-end : goal.slice_bounds-result-end
slice_bounds-result-end c = sym (cut_length c.count_of-width.result c.row_from-row.result.now (long c))

pub returns-clause-width : goal.returns-clause-width
returns-clause-width c =
    let l = c.ranges.left in
    let r = c.ranges.right in
    ap (λ n. c.args.left +ℤ pos n) (cut_length c.count_of-width.result c.row_from-row.result.now (long c)) ∙ simp to_z-of_z at c.count_of-width.ensures

pub returns-clause-cells : goal.returns-clause-cells
returns-clause-cells c k h =
    let l = c.ranges.left in
    let y = c.ranges.y in
    let left : SFits w32 c.args.left = search rules in
    let row : SFits w32 c.args.y = search rules in
    let cut = cut_length c.count_of-width.result c.row_from-row.result.now (long c) in
    let below : k < c.count_of-width.result = omega arith in
    let all = long c in
    let cells = simp (c.from.ensures, c.from-2.ensures, to_z-of_z) at (c.row_from-row.ensures.cells k (omega arith)) in
    cells ∙ sym (get_take c.count_of-width.result c.row_from-row.result.now k below)
