use Rattle.std.proofs.Common.{◌≡◌, ◌+◌, true, set, sym, ◌∙◌, subst}
use Rattle.be_serial.specs.Known.{Stirs}
use Rattle.small_world.specs.Counting.{closing_place, actor_of, legal_step, passing}
use Rattle.small_world.proofs.Stirring.{stirred}
use Rattle.small_world.proofs.turns.WorldClosing.stir.Goals as goal

pub returns : goal.returns
returns c =
    let w = c.args.self.now in
    let step = c.args.entry.now in
    let old = c.args.stale.now in
    let one : c.mark.new.stale ≡ set old (closing_place w) true =
    c.mark.ensures ∙ (λ i. set old (c.closing.ensures.number i) true) in
    let two : c.mark-2.new.stale ≡ set (set old (closing_place w) true) (actor_of w step) true =
    c.mark-2.ensures ∙ (λ i. set (one i) (c.actor_of.ensures i) true) in
    let three = c.mark-3.ensures ∙ (λ i. set (two i) (c.taker_of.ensures i) true) in
    subst (λ l. Stirs (passing w) (λ all a. legal_step w all a) (closing_place w + 1) step old l)
    (sym three) (stirred w step old c.requires)
