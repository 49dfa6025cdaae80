use Rattle.std.proofs.Common.{ap, ◌∙◌, arith}
use Rattle.std.proofs.lemmas.List.{length-set}
use Rattle.be_stack.specs.declared.window.Window.{Window}
use Rattle.be_stack.proofs.ActiveLemmas.{active_gone}
use Rattle.be_stack.proofs.WholeLemmas.{whole-put}
use Rattle.be_stack.proofs.stack.Stack.hide.Goals as goal

pub invariant_of-self : goal.invariant_of-self
invariant_of-self c =
    let stays = ap (λ (window : Window). window.closed) c.with_hides.ensures ∙ c.requires.stays in
    rw (c.from.ensures, c.active_without-self-inside.ensures) (record {
      once = whole-put c.self.inside.order.items c.self.inside.windows.items c.args.w c.with_hides.result stays (rw (← c.self.view_is) at c.requires.opened) c.self.invariant.once;
      active = active_gone c.self.inside.active c.self.inside.windows.items c.args.w c.with_hides.result c.self.invariant.active;
      few = omega (arith, length-set c.self.inside.windows.items c.args.w c.with_hides.result, c.self.invariant.few);
    })
