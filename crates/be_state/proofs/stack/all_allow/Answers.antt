use Rattle.std.proofs.Common.{ℤ, FitsSigned, to_z, of_z, w32, sym, ◌∙◌}
use Rattle.std.proofs.lemmas.Int.{to_z-of_z}
use Rattle.be_state.specs.Stacks.{clip_has}
use Rattle.be_state.proofs.AllowLemmas.{next_yes, one_fails}
use Rattle.be_state.proofs.stack.all_allow.Goals as goal

pub returns-then-not-allows : goal.returns-then-not-allows
returns-then-not-allows c =
    let x : FitsSigned w32 c.args.x = c.ranges.x in
    let y : FitsSigned w32 c.args.y = c.ranges.y in
    let answer = simp to_z-of_z at c.allows.ensures in
    sym (one_fails (λ l. clip_has l.clip c.args.x c.args.y) c.args.layers.now c.loop-layer.layer-index c.layer-item.result c.loop-layer-test.true c.layer-item.is (sym answer ∙ c.if-not-allows.true))

pub loop-layer-preserved : goal.loop-layer-preserved
loop-layer-preserved c =
    let x : ℤ = to_z w32 (of_z w32 c.args.x) in
    let y : ℤ = to_z w32 (of_z w32 c.args.y) in
    next_yes (λ l. clip_has l.clip x y) c.args.layers.now c.loop-layer.layer-index c.layer-item.result c.loop-layer-test.true c.layer-item.is c.loop-layer.invariant (sym c.allows.ensures ∙ c.if-not-allows.false)
