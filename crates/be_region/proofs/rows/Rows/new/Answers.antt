use Rattle.std.proofs.Common.{rules, arith, SFits, w16}
use Rattle.std.proofs.lemmas.Int.{ints, to_z-of_z}
use Rattle.be_region.proofs.RowLemmas.{first_rows}
use Rattle.be_region.proofs.rows.Rows.new.Goals as goal

pub invariant_of-t-5 : goal.invariant_of-t-5
invariant_of-t-5 c =
    let f : SFits w16 c.in-Some.first.now.top = search rules in
    let g : SFits w16 c.in-Some.first.now.bottom = search rules in
    let same = simp to_z-of_z at c.band_len-count.ensures.same in
    let other = simp to_z-of_z at c.band_len-count.ensures.other in
    first_rows c.args.rects.now c.in-Some.first.now _ c.band_len-count.result _ _ c.in-Some.ensures.cases.0 c.requires.none_empty c.requires.in_order c.band_len-count.ensures.within same other (omega (arith, ints)) (omega (arith, ints)) (omega (arith, ints)) (omega (arith, ints))
