use Rattle.std.proofs.Common.{sym, subst}
use Rattle.be_desk.specs.Desks.{IsPaired}
use Rattle.be_input.specs.Pointing.{Pointing}
use Rattle.be_parts.proofs.desk.DeskPart.remember.Goals as goal

pub invariant_of-self : goal.invariant_of-self
invariant_of-self c =
    subst (λ (p : Pointing). IsPaired (record { windows = c.self.inside.desk.stack; pointing = p })) (sym c.remember.ensures)
    (record { each = c.self.invariant.each; rooted = c.self.invariant.rooted })
