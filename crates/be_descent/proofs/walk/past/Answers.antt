use Rattle.std.proofs.Common.{Fits, w64, refl, rules, SFits, arith}
use Rattle.std.proofs.lemmas.Int.{to_z-of_z}
use Rattle.std.proofs.lemmas.Option.{slice_get_within}
use Rattle.be_descent.proofs.WalkLemmas.{past_below, past_passed}
use Rattle.be_descent.proofs.walk.past.Goals as goal

pub returns-then-ends_above-clause-beside : goal.returns-then-ends_above-clause-beside
returns-then-ends_above-clause-beside c =
    rw c.count-end.ensures.number (past_below c.args.region.now c.args.place c.args.rect c.args.area
    c.args.way c.count-end.ensures.bands c.requires.there c.requires.beside
    (c.if-ends_above.ensures refl))

pub overflow_add-place : goal.overflow_add-place
overflow_add-place c =
    let less = slice_get_within c.args.region.now c.args.place c.args.rect c.requires.there in
    let number = c.count-end.ensures.number in
    let fits : Fits w64 c.count-end.result = search rules in
    search rules

pub first_ahead-requires : goal.first_ahead-requires
first_ahead-requires c =
    let less = slice_get_within c.args.region.now c.args.place c.args.rect c.requires.there in
    omega arith

pub returns-clause-beside : goal.returns-clause-beside
returns-clause-beside c =
    let sx : SFits w64 c.start_of-x.result.0 = search rules in
    let sy : SFits w64 c.start_of-x.result.1 = search rules in
    past_passed c.args.region.now c.args.place c.first_ahead.result c.args.rect c.args.area
    c.args.way c.start_of-x.result.0 c.start_of-x.result.1 c.count-end.ensures.bands
    c.requires.there c.requires.beside (c.start_of-x.ensures.across, c.start_of-x.ensures.down)
    c.first_ahead.ensures.within (simp to_z-of_z at c.first_ahead.ensures.passed)
