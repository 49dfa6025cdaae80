use Rattle.std.proofs.Common.{◌∙◌, arith}
use Rattle.be_stack.proofs.OrderLemmas.{removed, not_counted, goes_behind}
use Rattle.be_stack.proofs.order.go_behind.Goals as goal

pub returns-in-Some : goal.returns-in-Some
returns-in-Some c =
    goes_behind c.args.front c.args.w c.args.order.now.items c.remove.new.self.items c.insert.new.self.items c.place_behind-behind.result (c.remove.ensures.items ∙ removed c.args.w c.args.order.now.items c.in-Some.place (rw c.deref.ensures.value at c.in-Some.ensures) (omega (arith, c.requires))) ((rw c.deref-in-Some.ensures.value at c.place_behind-behind.ensures.behind) c.args.w) (rw c.unwrap.ensures at c.insert.ensures.items)

pub returns-in_default : goal.returns-in_default
returns-in_default c =
    absurd (omega (arith, c.requires, not_counted c.args.w c.args.order.now.items (rw c.deref.ensures.value at c.in_default.ensures)))
