use Rattle.std.proofs.Common.{◌≡◌, map, fold, take}
use Rattle.be_geom.specs.Places.{sum_of, IsNear}
use Rattle.be_state.specs.Stacks.{origin_point}
use Rattle.be_state.proofs.stack.sum_of_origins.Given as goal

abbrev pub invariant-loop-layer : goal.invariant-loop-layer
invariant-loop-layer l =
    (l.x ≡ (fold sum_of origin_point (map (λ w. w.state.origin) (take l.layer-index l.layers))).x)
    × (l.y ≡ (fold sum_of origin_point (map (λ w. w.state.origin) (take l.layer-index l.layers))).y)
    × IsNear l.layer-index l.x
    × IsNear l.layer-index l.y
