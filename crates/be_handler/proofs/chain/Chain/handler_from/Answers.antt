-- A handler without a body leaves it to the next one.
use Rattle.std.proofs.Common.{arith, sym, ◌∙◌, ◌+◌, ◌-◌, length}
use Rattle.be_handler.proofs.RouteLemmas.{handler_from-next}
use Rattle.be_handler.proofs.chain.Chain.handler_from.Goals as goal

pub up-preserved : goal.up-preserved
up-preserved c =
    let s = c.args.self.now in
    let all = length s.parents + length s.nexts + 1 in
    c.up.invariant ∙ handler_from-next s c.args.what (all - c.up._step) (all - (c.up._step + 1)) c.up.at c.in-Some.next
    (rw (← c.self.view_is) (omega (arith, c.len.ensures, c.len-2.ensures)))
    (sym c.has_body.ensures ∙ c.if-has_body.false) (sym c.next.ensures ∙ c.in-Some.is)
