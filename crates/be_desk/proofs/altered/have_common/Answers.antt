use Rattle.std.proofs.Common.{refl, sym, ◌∙◌, arith}
use Rattle.std.proofs.lemmas.Bool.{true≢false}
use Rattle.be_desk.proofs.MeetLemmas.{apart_all, apart_more, apart_part}
use Rattle.be_desk.proofs.altered.have_common.Goals as goal

pub loop-place-preserved : goal.loop-place-preserved
loop-place-preserved c =
    let count = c.count-place-end.ensures.number in
    apart_more c.args.one.now c.args.other.now c.loop-place.place c.unwrap.result (omega arith) (sym c.rect_at.ensures.at_place ∙ c.unwrap.ensures) c.loop-place.invariant (c.has_some.ensures.0 c.if-has_some.false)

pub returns-then-has_some : goal.returns-then-has_some
returns-then-has_some c = (
  λ none. absurd (true≢false none),
  λ apart.
      let there = sym c.rect_at.ensures.at_place ∙ c.unwrap.ensures in
      absurd (true≢false (sym c.if-has_some.true ∙ c.has_some.ensures.1 (apart_part c.args.one.now c.args.other.now c.loop-place.place c.unwrap.result there apart))),
)

pub returns : goal.returns
returns c = (
  λ _.
      let count = c.count-place-end.ensures.number in
      apart_all c.args.one.now c.args.other.now c.loop-place.place (omega arith) c.loop-place.invariant,
  λ _. refl,
)
