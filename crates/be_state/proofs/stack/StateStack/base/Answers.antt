use Rattle.std.proofs.Common.{ap, arith}
use Rattle.std.proofs.lemmas.Int.{ints}
use Rattle.be_state.proofs.StackLemmas.{base_is, viewed}
use Rattle.be_state.proofs.stack.StateStack.base.Goals as goal

pub returns-clause-across : goal.returns-clause-across
returns-clause-across c =
    let base = ap (λ p. p.x) (base_is c.args.self.now c.self.inside.top c.deref.result.now (viewed c.args.self.now c.self.inside.top c.deref.result.now c.self.inside.saved.items c.deref.ensures.value c.self.view_is)) in
    let x = ap (λ s. s.origin.x) c.state.ensures.state in
    let sum = c.sum_of_origins-x.ensures.across in
    let near = c.sum_of_origins-x.ensures.near in omega (arith, ints)

pub returns-clause-down : goal.returns-clause-down
returns-clause-down c =
    let base = ap (λ p. p.y) (base_is c.args.self.now c.self.inside.top c.deref.result.now (viewed c.args.self.now c.self.inside.top c.deref.result.now c.self.inside.saved.items c.deref.ensures.value c.self.view_is)) in
    let y = ap (λ s. s.origin.y) c.state.ensures.state in
    let sum = c.sum_of_origins-x.ensures.down in
    let near = c.sum_of_origins-x.ensures.near in omega (arith, ints)
