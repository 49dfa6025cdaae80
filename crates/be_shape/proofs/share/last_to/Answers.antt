use Rattle.std.proofs.Common.{arith}
use Rattle.std.proofs.lemmas.Int.{ints}
use Rattle.be_shape.proofs.ShareLemmas.{share_within}
use Rattle.be_shape.proofs.share.last_to.Goals as goal

pub returns-then-distance-farthest-clause-last : goal.returns-then-distance-farthest-clause-last
returns-then-distance-farthest-clause-last c i h =
    let w = share_within i c.args.steps c.args.distance h c.requires.near in
    (λ _. h, λ _. grind (arith, ints))
