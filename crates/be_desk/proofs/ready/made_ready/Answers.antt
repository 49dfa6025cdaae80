-- By the motion.
use Rattle.be_desk.proofs.ReadyLemmas.{keeps_still}
use Rattle.be_desk.proofs.ready.made_ready.Goals as goal

pub shifted-requires-clause-way : goal.shifted-requires-clause-way
shifted-requires-clause-way c = keeps_still c.args.renewal.now c.in-Still.is
