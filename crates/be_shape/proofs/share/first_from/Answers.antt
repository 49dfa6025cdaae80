use Rattle.std.proofs.Common.{arith}
use Rattle.std.proofs.lemmas.Int.{ints}
use Rattle.be_shape.proofs.share.first_from.Goals as goal

pub returns-then-nearest-le0-clause-first : goal.returns-then-nearest-le0-clause-first
returns-then-nearest-le0-clause-first c i h = (λ _. omega arith, λ _. grind (arith, ints))

pub returns-else-nearest-le0-clause-first : goal.returns-else-nearest-le0-clause-first
returns-else-nearest-le0-clause-first c i h =
    let f = c.first_at.ensures.first i in
    (λ k. f.0 (grind (arith, ints)), λ k. let r = f.1 k in grind (arith, ints))
