use Rattle.std.proofs.Common.{sym, ap, ◌∙◌, arith, Some}
use Rattle.small_world.specs.InHand.{told_work}
use Rattle.small_world.proofs.Telling.{missing, close_ready, not_idle, is_over}
use Rattle.small_world.proofs.world.World.judge_close.Goals as goal

pub returns-in_default : goal.returns-in_default
returns-in_default c = (
  missing c.args.self.now c.args.held.now.parts c.loop-place.place
      (sym c.has_work.ensures ∙ c.in_default.is),
  omega arith,
  λ all s f. omega arith,
)

pub returns-then-is_busy : goal.returns-then-is_busy
returns-then-is_busy c =
    let w = c.args.self.now in
    let held = c.args.held.now.parts in
    let here = sym c.has_work.ensures ∙ (c.in-Some.is ∙ ap Some c.if-is_busy.true) in
    λ all s f. not_idle w held c.loop-place.place (omega arith) here all f

pub returns-in_default-has_work : goal.returns-in_default-has_work
returns-in_default-has_work c = (
  missing c.args.self.now c.args.held.now.parts c.closing-closing.result
      (sym c.has_work-2.ensures ∙ c.in_default-has_work.is),
  omega arith,
  λ all s f. omega arith,
)

pub returns-then-not-is_open : goal.returns-then-not-is_open
returns-then-not-is_open c =
    let w = c.args.self.now in
    let held = c.args.held.now.parts in
    let here = ap (told_work w held) (sym c.closing-closing.ensures.number)
    ∙ (sym c.has_work-2.ensures ∙ (c.in-Some-has_work.is ∙ ap Some c.if-not-is_open.true)) in
    λ all s f. is_over w held here all f

pub returns : goal.returns
returns c =
    let w = c.args.self.now in
    let held = c.args.held.now.parts in
    let here = ap (told_work w held) (sym c.closing-closing.ensures.number)
    ∙ (sym c.has_work-2.ensures ∙ (c.in-Some-has_work.is ∙ ap Some c.if-not-is_open.false)) in
    close_ready w held (λ a l. c.loop-place.invariant a (omega arith)) here
