use Rattle.std.proofs.Common.{sym, ◌∙◌}
use Rattle.be_picture.proofs.Restored.{rests}
use Rattle.be_picture.proofs.laws.playing_restores_the_states.Goals as goal

pub returns : goal.returns
returns c = λ bitmaps off picture recorded one.
    (rests bitmaps off picture recorded one).2 ∙ sym one.stacks
