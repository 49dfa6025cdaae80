use Rattle.std.proofs.Common.{◌≡◌, true, take}
use Rattle.std.specs.List.{list_all}
use Rattle.be_state.specs.Stacks.{clip_has}
use Rattle.be_state.proofs.stack.all_allow.Given as goal

abbrev pub invariant-loop-layer : goal.invariant-loop-layer
invariant-loop-layer l = list_all (λ w. clip_has w.clip l.x l.y) (take l.layer-index l.layers) ≡ true
