-- The lists one after the other, and then up the chain.
use Rattle.std.proofs.Common.{sym, ◌∙◌}
use Rattle.be_handler.proofs.RouteLemmas.{route-skipped, route-skipped_own, route-found}
use Rattle.be_handler.proofs.chain.Chain.route.Goals as goal

pub returns-in_default : goal.returns-in_default
returns-in_default c =
    sym (route-skipped c.args.self.now c.args.what c.args.target
    (rw (← c.self.view_is, ← c.deref.ensures.value) (sym c.filtered.ensures ∙ c.in_default.is)))

pub returns-in-None : goal.returns-in-None
returns-in-None c =
    sym (route-skipped_own c.args.self.now c.args.what c.args.target c.in-Some.left
    (rw (← c.self.view_is, ← c.deref.ensures.value) (sym c.filtered.ensures ∙ c.in-Some.is))
    (rw (← c.self.view_is, ← c.deref-2.ensures.value) (sym c.filtered-2.ensures ∙ c.in-None.is)))

pub returns-in-Some-filtered : goal.returns-in-Some-filtered
returns-in-Some-filtered c =
    c.handler_from.ensures ∙ sym (route-found c.args.self.now c.args.what c.args.target c.in-Some.left c.in-Some-filtered.handler
    (rw (← c.self.view_is, ← c.deref.ensures.value) (sym c.filtered.ensures ∙ c.in-Some.is))
    (rw (← c.self.view_is, ← c.deref-2.ensures.value) (sym c.filtered-2.ensures ∙ c.in-Some-filtered.is)))
