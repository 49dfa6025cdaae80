use Rattle.std.proofs.Common.{Some, inl, inr, refl, sym, ap, ◌∙◌, arith}
use Rattle.small_world.specs.Laws.{target_below}
use Rattle.small_world.specs.InHand.{told_work}
use Rattle.small_world.proofs.Telling.{missing, give_ready, no_gift}
use Rattle.small_world.proofs.world.World.judge_give.Goals as goal

pub returns-in_default : goal.returns-in_default
returns-in_default c =
    let w = c.args.self.now in
    let held = c.args.held.now.parts in (
      missing w held c.args.producer (sym c.has_work.ensures ∙ c.in_default.is),
      omega arith,
      λ all s f. inl refl,
    )

pub returns-then-not-can_give : goal.returns-then-not-can_give
returns-then-not-can_give c =
    let w = c.args.self.now in
    let held = c.args.held.now.parts in
    let here = sym c.has_work.ensures ∙ (c.in-Some.is ∙ ap Some c.if-not-can_give.true) in
    λ all s f. no_gift w held c.args.producer here all f

pub returns-in_default-has_work : goal.returns-in_default-has_work
returns-in_default-has_work c =
    let w = c.args.self.now in
    let held = c.args.held.now.parts in
    let below = target_below w c.args.producer in
    let target = c.target_of-target.ensures in (
      missing w held c.target_of-target.result
          (sym c.has_work-2.ensures ∙ c.in_default-has_work.is),
      omega arith,
      λ all s f. inr target,
    )

pub returns : goal.returns
returns c =
    let w = c.args.self.now in
    let held = c.args.held.now.parts in
    let here = sym c.has_work.ensures ∙ (c.in-Some.is ∙ ap Some c.if-not-can_give.false) in
    let target = ap (told_work w held) (sym c.target_of-target.ensures)
    ∙ (sym c.has_work-2.ensures ∙ c.in-Some-has_work.is) in
    give_ready w held c.args.producer c.in-Some-has_work.field-0 (omega arith) here target
