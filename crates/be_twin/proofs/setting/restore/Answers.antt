use Rattle.std.proofs.Common.{◌≡◌, Some, refl, sym, ap, ◌∙◌, arith}
use Rattle.std.specs.Prelude.{is_some}
use Rattle.std.proofs.lemmas.Option.{slice_get_within}
use Rattle.be_state.specs.Stacks.{popped}
use Rattle.be_twin.specs.Deeds.{popped_or_same}
use Rattle.be_twin.proofs.MadeLemmas.{at_place, is_ok, no_empty, on_ok, passing, restacked}
use Rattle.be_twin.proofs.setting.restore.Goals as goal

pub index_mut-requires : goal.index_mut-requires
index_mut-requires c =
    let found = passing c.args.pane.now.states.items c.args.view (λ s. is_some (popped s)) c.requires in
    let within = slice_get_within c.args.pane.now.states.items c.args.view found.0 found.1 in
    omega arith

pub unwrap-requires : goal.unwrap-requires
unwrap-requires c =
    let items = c.args.pane.now.states.items in
    let stack = c.index_mut.result.now in
    let found = passing items c.args.view (λ s. is_some (popped s)) c.requires in
    let is = at_place items c.args.view c.from.result stack found.0 c.from.ensures c.index_mut.ensures.value found.1 in
    is_ok c.pop.result (no_empty c.pop.result (popped stack) c.pop.ensures.empty (ap (λ s. is_some (popped s)) is ∙ found.2))

pub returns : goal.returns
returns c =
    let items = c.args.pane.now.states.items in
    let stack = c.index_mut.result.now in
    let found = passing items c.args.view (λ s. is_some (popped s)) c.requires in
    let is = at_place items c.args.view c.from.result stack found.0 c.from.ensures c.index_mut.ensures.value found.1 in
    let made = on_ok c.pop.result (popped stack ≡ Some c.pop.new.self) (no_empty c.pop.result (popped stack) c.pop.ensures.empty (ap (λ s. is_some (popped s)) is ∙ found.2)) c.pop.ensures.ok in
    restacked c.args.view c.from.result c.args.pane.now _ stack c.pop.new.self (λ s. popped_or_same s (popped s)) refl c.from.ensures c.index_mut.ensures.value (sym (ap (popped_or_same stack) made))
