use Rattle.std.proofs.Common.{◌∙◌, sym, arith}
use Rattle.be_descent.proofs.WalkLemmas.{next_is, skipped}
use Rattle.be_descent.proofs.walk.next_in.Goals as goal

pub returns-in-Some-clause-some : goal.returns-in-Some-clause-some
returns-in-Some-clause-some c =
    let got = sym c.rect_at.ensures.at_place ∙ c.unwrap-rect.ensures in
    next_is c.args.region.now c.args.from c.loop-place.place c.unwrap-rect.result c.in-Some.part
    c.args.area c.args.way c.rect_at.ensures.bands got c.loop-place.invariant.ahead
    c.in-Some.ensures.some c.loop-place.invariant.before

pub loop-place-preserved : goal.loop-place-preserved
loop-place-preserved c = record {
  ahead = omega arith;
  within = c.past-place.ensures.within;
  before = skipped c.args.region.now c.args.from c.loop-place.place c.past-place.result c.args.area
      c.args.way (omega arith) c.past-place.ensures.within c.past-place.ensures.beside
      c.loop-place.invariant.before;
}
