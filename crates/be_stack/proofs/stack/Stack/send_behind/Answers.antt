use Rattle.be_stack.proofs.WholeLemmas.{whole-behind}
use Rattle.be_stack.proofs.stack.Stack.send_behind.Goals as goal

pub invariant_of-self : goal.invariant_of-self
invariant_of-self c = rw c.go_behind.ensures (record {
  once = whole-behind c.self.inside.order.items c.self.inside.windows.items c.args.front c.args.w (rw (← c.self.view_is) at c.requires) c.self.invariant.once;
  active = c.self.invariant.active;
  few = c.self.invariant.few;
})
