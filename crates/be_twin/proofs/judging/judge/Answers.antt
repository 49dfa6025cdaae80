use Rattle.be_command.specs.Effects.{effect_of}
use Rattle.be_twin.proofs.JudgedLemmas.{judged_as}
use Rattle.be_twin.proofs.judging.judge.Goals as goal

pub returns : goal.returns
returns c = judged_as c.args.bitmaps.now (effect_of c.args.command.now) c.judged.result c.args.pane.now c.requires.whole c.judged.ensures
