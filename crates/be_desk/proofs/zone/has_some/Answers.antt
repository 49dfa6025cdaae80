use Rattle.std.proofs.Common.{refl, sym, ◌∙◌, arith}
use Rattle.std.proofs.lemmas.Bool.{true≢false}
use Rattle.be_desk.proofs.MeetLemmas.{beside_all, beside_more, beside_part}
use Rattle.be_desk.proofs.zone.has_some.Goals as goal

pub loop-place-preserved : goal.loop-place-preserved
loop-place-preserved c =
    let count = c.count-place-end.ensures.number in
    beside_more c.args.rect c.unwrap.result c.args.region.now c.loop-place.place (omega arith) (sym c.rect_at.ensures.at_place ∙ c.unwrap.ensures) c.loop-place.invariant (c.meet.ensures.0 c.if-meet.false)

pub returns-then-meet : goal.returns-then-meet
returns-then-meet c = (
  λ none. absurd (true≢false none),
  λ beside.
      let there = sym c.rect_at.ensures.at_place ∙ c.unwrap.ensures in
      absurd (true≢false (sym c.if-meet.true ∙ c.meet.ensures.1 (beside_part c.args.rect c.unwrap.result c.args.region.now c.loop-place.place there beside))),
)

pub returns : goal.returns
returns c = (
  λ _.
      let count = c.count-place-end.ensures.number in
      beside_all c.args.rect c.args.region.now c.loop-place.place (omega arith) c.loop-place.invariant,
  λ _. refl,
)
