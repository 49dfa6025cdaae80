use Rattle.std.proofs.Common.{true, sym}
use Rattle.be_stack.proofs.ActiveLemmas.{active_new}
use Rattle.be_stack.proofs.WholeLemmas.{whole-front}
use Rattle.be_stack.proofs.stack.Stack.activate.Goals as goal

pub invariant_of-self : goal.invariant_of-self
invariant_of-self c =
    let there = rw (← c.self.view_is) at c.requires.there in
    rw c.go_to_front.ensures (record {
      once = whole-front c.self.inside.order.items c.self.inside.windows.items c.args.w (rw (← c.self.view_is) at c.requires.opened) c.self.invariant.once;
      active = active_new true c.self.inside.active c.self.inside.windows.items c.args.w c.args.window (sym there) (sym c.if-takes_focus.ensures) c.self.invariant.active;
      few = c.self.invariant.few;
    })

pub invariant_of-self-else-takes_focus : goal.invariant_of-self-else-takes_focus
invariant_of-self-else-takes_focus c = rw c.go_to_front.ensures (record {
  once = whole-front c.self.inside.order.items c.self.inside.windows.items c.args.w (rw (← c.self.view_is) at c.requires.opened) c.self.invariant.once;
  active = c.self.invariant.active;
  few = c.self.invariant.few;
})
