use Rattle.std.proofs.Common.{arith}
use Rattle.std.proofs.lemmas.List.{length-set}
use Rattle.be_stack.proofs.ActiveLemmas.{active_put}
use Rattle.be_stack.proofs.WholeLemmas.{whole-put}
use Rattle.be_stack.proofs.stack.Stack.put.Goals as goal

pub invariant_of-self : goal.invariant_of-self
invariant_of-self c =
    let opened = rw (← c.self.view_is) at c.requires.opened in
    rw c.from.ensures (record {
      once = whole-put c.self.inside.order.items c.self.inside.windows.items c.args.w c.args.window c.requires.stays opened c.self.invariant.once;
      active = active_put c.self.inside.active c.self.inside.windows.items c.args.w c.args.window opened (rw (← c.self.view_is) at c.requires.shown) c.self.invariant.active;
      few = omega (arith, length-set c.self.inside.windows.items c.args.w c.args.window, c.self.invariant.few);
    })
