use Rattle.std.proofs.Common.{◌≡◌, true, refl, ap, ◌∙◌}
use Rattle.be_state.specs.Stacks.{can_push, pushed}
use Rattle.be_twin.proofs.MadeLemmas.{at_place, no_full, on_ok, passing, restacked}
use Rattle.be_twin.proofs.setting.save.Goals as goal

pub returns : goal.returns
returns c =
    let items = c.args.pane.now.states.items in
    let stack = c.index_mut.result.now in
    let found = passing items c.args.view can_push c.requires in
    let is = at_place items c.args.view c.from.result stack found.0 c.from.ensures c.index_mut.ensures.value found.1 in
    let can : can_push stack ≡ true = ap can_push is ∙ found.2 in
    let made = on_ok c.push.result (c.push.new.self ≡ pushed stack) (no_full c.push.result (can_push stack) c.push.ensures.full can) c.push.ensures.ok in
    restacked c.args.view c.from.result c.args.pane.now _ stack c.push.new.self pushed refl c.from.ensures c.index_mut.ensures.value made
