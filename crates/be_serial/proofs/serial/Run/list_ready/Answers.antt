use Rattle.std.proofs.Common.{◌+◌, ◌≤◌, length, map, sym, subst, arith}
use Rattle.be_hall.specs.Machine.{leads}
use Rattle.be_serial.proofs.Going.{one_more, pushed_long}
use Rattle.be_serial.proofs.serial.Run.list_ready.Goals as goal

pub loop-who-preserved : goal.loop-who-preserved
loop-who-preserved g c =
    let self = c.args.self.now in
    let now = leads (g.W.Parts.machine self.rules) (map g.W.Parts.meaning self.opening.value.items) self.history.items in
    let i = c.loop-who.invariant in (
      one_more (g.W.Turns.legal self.rules) now c.loop-who.who c.loop-who.ready.items c.put.new.list.items c.ask-has.result i.0 c.put.ensures.places c.ask-has.ensures.has,
      (let l = pushed_long (g.W.Turns.legal self.rules) now c.ask-has.result c.loop-who.ready.items c.loop-who.who in let h = i.1 in subst (λ ps. length ps ≤ c.loop-who.who + 1) (sym c.put.ensures.places) (omega arith)),
      subst (λ n. g.W.Turns.activities self.rules ≤ n) (sym c.put.ensures.room) i.2,
      c.ask-has.ensures.knows,
    )
