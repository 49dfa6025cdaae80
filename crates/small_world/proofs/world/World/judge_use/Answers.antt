use Rattle.std.proofs.Common.{Some, refl, sym, ap, ◌∙◌, arith}
use Rattle.small_world.proofs.Telling.{missing, use_ready, no_use}
use Rattle.small_world.proofs.world.World.judge_use.Goals as goal

pub returns-in_default : goal.returns-in_default
returns-in_default c =
    let w = c.args.self.now in
    let held = c.args.held.now.parts in (
      missing w held c.args.consumer (sym c.has_work.ensures ∙ c.in_default.is),
      omega arith,
      λ all s f. refl,
    )

pub returns-then-not-can_use : goal.returns-then-not-can_use
returns-then-not-can_use c =
    let w = c.args.self.now in
    let held = c.args.held.now.parts in
    let here = sym c.has_work.ensures ∙ (c.in-Some.is ∙ ap Some c.if-not-can_use.true) in
    λ all s f. no_use w held c.args.consumer here all f

pub returns : goal.returns
returns c =
    let w = c.args.self.now in
    let held = c.args.held.now.parts in
    let here = sym c.has_work.ensures ∙ (c.in-Some.is ∙ ap Some c.if-not-can_use.false) in
    use_ready w held c.args.consumer (omega arith) (omega arith) here
