use Rattle.std.proofs.Common.{true, refl, arith}
use Rattle.std.proofs.lemmas.List.{length-set}
use Rattle.be_stack.proofs.ActiveLemmas.{active_gone}
use Rattle.be_stack.proofs.WholeLemmas.{whole-closed}
use Rattle.be_stack.proofs.stack.Stack.close.Goals as goal

pub invariant_of-self : goal.invariant_of-self
invariant_of-self c = rw (c.from.ensures, c.leave.ensures, c.active_without-self-inside.ensures) (record {
  once = whole-closed c.self.inside.order.items c.self.inside.windows.items c.args.w (record c.args.window { closed = true }) refl c.self.invariant.once;
  active = active_gone c.self.inside.active c.self.inside.windows.items c.args.w (record c.args.window { closed = true }) c.self.invariant.active;
  few = omega (arith, length-set c.self.inside.windows.items c.args.w (record c.args.window { closed = true }), c.self.invariant.few);
})
