use Rattle.std.proofs.Common.{sym, ◌∙◌, subst, arith}
use Rattle.be_said.specs.Fits.{Fits}
use Rattle.be_said.specs.Deeds.{adds_step}
use Rattle.be_said.specs.Said.{seen_said}
use Rattle.be_said.proofs.DueLemmas.{step-done, step-long, step-many}
use Rattle.be_said.proofs.ProgramKept.{step-kept}
use Rattle.be_said.proofs.said.SoFar.add_step.Goals as goal

pub returns-then-step_count-ge-STEPS : goal.returns-then-step_count-ge-STEPS
returns-then-step_count-ge-STEPS c = rw (← c.self.view_is) (step-many _ _ (omega arith))

pub returns-then-is_long : goal.returns-then-is_long
returns-then-is_long c = rw (← c.self.view_is) (step-long _ _ (sym c.is_long.ensures ∙ c.if-is_long.true))

pub invariant_of-self : goal.invariant_of-self
invariant_of-self c =
    let fits : Fits (seen_said c.self.inside) (adds_step c.args.step) = subst (λ s. Fits s (adds_step c.args.step)) (sym c.self.view_is) c.requires in
    rw c.in_ok-add_step.ensures (step-kept _ _ _ c.self.invariant fits.0 fits.1)

pub returns : goal.returns
returns c = rw (← c.self.view_is, c.in_ok-add_step.ensures) (step-done _ _ (omega arith) (sym c.is_long.ensures ∙ c.if-is_long.false))
