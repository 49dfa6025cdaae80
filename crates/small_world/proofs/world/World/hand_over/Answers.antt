use Rattle.std.proofs.Common.{sym, subst}
use Rattle.small_world.specs.declared.step.Step.{Step}
use Rattle.small_world.specs.InHand.{CanReceive, Receives, CanHandOver, HandsOver}
use Rattle.small_world.proofs.world.World.hand_over.Goals as goal

pub receive_at-requires : goal.receive_at-requires
receive_at-requires c =
    let w = c.args.self.now in
    let held = c.args.held.now.parts in
    subst (CanReceive held) (sym c.target_of.ensures)
    (subst (λ (s : Step). CanHandOver w s held) c.in-Give.is c.requires)

pub returns-in-Give-clause-given : goal.returns-in-Give-clause-given
returns-in-Give-clause-given c =
    let w = c.args.self.now in
    let held = c.args.held.now.parts in
    let new = c.receive_at.new.held.parts in
    subst (λ (s : Step). HandsOver w s held new) (sym c.in-Give.is)
    (subst (λ p. Receives p held new) c.target_of.ensures c.receive_at.ensures.given)
