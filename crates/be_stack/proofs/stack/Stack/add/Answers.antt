use Rattle.std.proofs.Common.{◌≡◌, ◌<◌, refl, length, arith}
use Rattle.std.proofs.lemmas.Grind.{common_steps}
use Rattle.be_stack.proofs.ActiveLemmas.{active_beside}
use Rattle.be_stack.proofs.WholeLemmas.{whole-new, few-new}
use Rattle.be_stack.proofs.stack.Stack.add.Goals as goal

pub invariant_of-self-2 : goal.invariant_of-self-2
invariant_of-self-2 c =
    let pushed = rw c.unwrap.ensures at c.push.ensures.items in
    let inserted = rw c.unwrap-2.ensures at c.insert.ensures.items in
    let next : c.len-w.result ≡ length c.self.inside.windows.items = grind (arith, common_steps, c.in_ok-make_room.ensures.windows) in
    let within : length c.self.inside.windows.items < 32 = grind (arith, common_steps, c.if-len-ge-MAX_WINDOWS.false, c.len.ensures) in
    rw (inserted, pushed, c.in_ok-make_room.ensures.order, c.in_ok-make_room.ensures.windows) (record {
      once = whole-new c.self.inside.order.items c.self.inside.windows.items c.len-w.result _ next refl c.self.invariant.once;
      active = active_beside c.self.inside.active c.self.inside.windows.items _ c.self.invariant.active;
      few = few-new c.self.inside.windows.items _ within;
    })
