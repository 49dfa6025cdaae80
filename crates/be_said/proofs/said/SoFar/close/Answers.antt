use Rattle.std.proofs.Common.{ap, sym, ◌∙◌}
use Rattle.be_said.specs.Begun.{seen_begun}
use Rattle.be_said.specs.Said.{seen_said}
use Rattle.be_said.proofs.DueLemmas.{close-as}
use Rattle.be_said.proofs.ProgramKept.{body-closed-as, draw-closed-as, program-closed-as}
use Rattle.be_said.proofs.said.SoFar.close.Goals as goal

pub invariant_of-self : goal.invariant_of-self
invariant_of-self c =
    rw (c.replace.ensures.after, c.in_ok-push-in-HandlerBody.ensures.items) (body-closed-as _ _ _ _ _ _ c.self.invariant (ap seen_begun (sym c.replace.ensures.value ∙ c.in-HandlerBody.is)))

pub returns-in_ok-push-in-HandlerBody : goal.returns-in_ok-push-in-HandlerBody
returns-in_ok-push-in-HandlerBody c =
    rw (← c.self.view_is, c.replace.ensures.after, c.in_ok-push-in-HandlerBody.ensures.items)
    (close-as (seen_said c.self.inside) _ (ap seen_begun (sym c.replace.ensures.value ∙ c.in-HandlerBody.is)))

pub invariant_of-self-in-DrawBody : goal.invariant_of-self-in-DrawBody
invariant_of-self-in-DrawBody c =
    rw (c.replace.ensures.after, c.in_ok-push-in-DrawBody.ensures.items) (draw-closed-as _ _ _ _ _ c.self.invariant (ap seen_begun (sym c.replace.ensures.value ∙ c.in-DrawBody.is)))

pub returns-in_ok-push-in-DrawBody : goal.returns-in_ok-push-in-DrawBody
returns-in_ok-push-in-DrawBody c =
    rw (← c.self.view_is, c.replace.ensures.after, c.in_ok-push-in-DrawBody.ensures.items)
    (close-as (seen_said c.self.inside) _ (ap seen_begun (sym c.replace.ensures.value ∙ c.in-DrawBody.is)))

pub invariant_of-self-in-Program : goal.invariant_of-self-in-Program
invariant_of-self-in-Program c =
    rw (c.replace.ensures.after, c.in_ok-push-in-Program.ensures.items) (program-closed-as _ _ _ _ _ c.self.invariant (ap seen_begun (sym c.replace.ensures.value ∙ c.in-Program.is)))

pub returns-in_ok-push-in-Program : goal.returns-in_ok-push-in-Program
returns-in_ok-push-in-Program c =
    rw (← c.self.view_is, c.replace.ensures.after, c.in_ok-push-in-Program.ensures.items)
    (close-as (seen_said c.self.inside) _ (ap seen_begun (sym c.replace.ensures.value ∙ c.in-Program.is)))
