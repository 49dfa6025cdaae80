use Rattle.be_twin.proofs.MadeLemmas.{repainted}
use Rattle.be_twin.proofs.drawing.invalidate.Goals as goal

pub returns : goal.returns
returns c =
    let made = c.reach_of-reach.ensures in
    repainted c.args.view _ c.reach_of-reach.result c.args.pane.now c.deref.result.now c.invalidate.new.spans c.invalidate.ensures.region made.window made.tree made.view made.states c.deref.ensures.value made.session
    (λ seen is. rw c.deref-2.ensures.value at (c.invalidate.ensures.invalidated seen is))
