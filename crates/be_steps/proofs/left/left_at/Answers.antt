use Rattle.be_steps.proofs.Leaving.{left_as, left_back}
use Rattle.be_steps.proofs.left.left_at.Goals as goal

pub choose-requires : goal.choose-requires
choose-requires c =
    left_as c.args.script.now c.of.result.value c.args.before.now c.of-2.result.value c.args.who c.args.place c.of.ensures c.of-2.ensures c.requires.allowed c.requires.there

pub returns : goal.returns
returns c = left_back c.args.script.now c.of.result.value c.args.before.now c.of-2.result.value c.args.who c.args.place c.choose.result.value c.of.ensures c.of-2.ensures c.choose.ensures
