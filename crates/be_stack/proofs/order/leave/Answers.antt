use Rattle.std.proofs.Common.{sym, ◌∙◌}
use Rattle.be_stack.proofs.OrderLemmas.{removed, not_counted, others_all}
use Rattle.be_stack.proofs.order.leave.Goals as goal

pub returns-in-Some : goal.returns-in-Some
returns-in-Some c =
    c.remove.ensures.items ∙ removed c.args.w c.args.order.now.items c.in-Some.place (rw c.deref.ensures.value at c.in-Some.ensures) c.requires

pub returns-in_default : goal.returns-in_default
returns-in_default c =
    sym (others_all c.args.w c.args.order.now.items (not_counted c.args.w c.args.order.now.items (rw c.deref.ensures.value at c.in_default.ensures)))
