use Rattle.std.proofs.Common.{◌∙◌, arith, sym}
use Rattle.std.proofs.lemmas.Int.{to_z-of_z}
use Rattle.be_descent.proofs.WalkLemmas.{passed_to}
use Rattle.be_descent.proofs.walk.first_ahead.Goals as goal

pub loop-low-preserved-then-is_passed : goal.loop-low-preserved-then-is_passed
loop-low-preserved-then-is_passed c =
    let x = c.ranges.x in
    let y = c.ranges.y in
    let rs = c.args.region.now in
    let got = sym c.rect_at.ensures.at_place ∙ c.unwrap-rect.ensures in
    let test = simp to_z-of_z at c.if-is_passed.ensures in
    record {
      ahead = omega arith;
      order = omega arith;
      within = omega arith;
      passed = simp to_z-of_z (passed_to rs c.args.x c.args.y c.args.from _ c.unwrap-rect.result
          c.rect_at.ensures.bands got (sym test));
    }
