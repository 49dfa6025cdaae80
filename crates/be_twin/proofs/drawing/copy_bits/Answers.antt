use Rattle.be_twin.proofs.MadeLemmas.{at_place, repainted}
use Rattle.be_twin.proofs.drawing.copy_bits.Goals as goal

pub returns : goal.returns
returns c = λ color at.
    let made = c.reach_of-reach.ensures in
    let is_color = at_place c.args.pane.now.colors.items c.args.view c.from.result c.index-color.result.now color c.from.ensures c.index-color.ensures at in
    repainted c.args.view _ c.reach_of-reach.result c.args.pane.now c.deref.result.now c.copy_bits.new.spans c.copy_bits.ensures.region made.window made.tree made.view made.states c.deref.ensures.value made.session
    (λ seen is. rw is_color at (c.copy_bits.ensures.copied seen is))
