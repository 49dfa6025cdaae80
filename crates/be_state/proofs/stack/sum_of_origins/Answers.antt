use Rattle.std.proofs.Common.{ap, arith}
use Rattle.std.proofs.lemmas.Int.{ints}
use Rattle.be_state.proofs.StackLemmas.{next_sum}
use Rattle.be_state.proofs.stack.sum_of_origins.Goals as goal

pub loop-layer-preserved : goal.loop-layer-preserved
loop-layer-preserved c =
    let sum = next_sum c.args.layers.now c.loop-layer.layer-index c.layer-item.result c.loop-layer-test.true c.layer-item.is in
    let across = ap (λ p. p.x) sum in
    let down = ap (λ p. p.y) sum in
    let state = c.state.ensures.state in
    let x = ap (λ s. s.origin.x) state in
    let y = ap (λ s. s.origin.y) state in
    let before = c.loop-layer.invariant in
    (omega (arith, ints), omega (arith, ints), (omega (arith, ints), omega (arith, ints)), (omega (arith, ints), omega (arith, ints)))
