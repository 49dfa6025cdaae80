use Rattle.std.proofs.Common.{sym}
use Rattle.be_shape.proofs.ShareLemmas.{share_along}
use Rattle.be_shape.proofs.share.share.Goals as goal

pub returns-then-steps-distance-clause-value : goal.returns-then-steps-distance-clause-value
returns-then-steps-distance-clause-value c = sym (share_along c.args.i c.args.steps c.args.distance c.requires.of_steps c.if-steps-distance.true)
