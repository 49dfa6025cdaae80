use Rattle.std.proofs.Common.{◌≡◌, map, take}
use Rattle.be_state.specs.Stacks.{first_stack}
use Rattle.be_pane.proofs.pane.first_states.Given as goal

abbrev pub invariant-loop-color : goal.invariant-loop-color
invariant-loop-color l = l.states.items ≡ map (λ _. first_stack) (take l._color-index l.colors)
