use Rattle.be_shape.proofs.ShareLemmas.{first_iff, first_bound, first_along}
use Rattle.be_shape.proofs.share.first_at.Goals as goal

pub returns-then-steps-distance-clause-first : goal.returns-then-steps-distance-clause-first
returns-then-steps-distance-clause-first c i = first_along i c.args.steps c.args.distance c.args.far c.if-steps-distance.true c.requires.beyond c.requires.inside

pub returns-else-steps-distance-clause-first : goal.returns-else-steps-distance-clause-first
returns-else-steps-distance-clause-first c i = rw c.div_ceil.ensures (first_iff i c.args.steps c.args.distance c.args.far c.requires.near c.requires.beyond c.requires.inside)

pub returns-else-steps-distance-clause-bound : goal.returns-else-steps-distance-clause-bound
returns-else-steps-distance-clause-bound c = rw c.div_ceil.ensures (first_bound c.args.steps c.args.distance c.args.far c.requires.near c.requires.beyond c.requires.inside)
