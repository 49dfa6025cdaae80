use Rattle.std.proofs.Common.{◌≡◌, ℤ, ◌&&◌, not, take}
use Rattle.std.specs.List.{list_any}
use Rattle.be_region.specs.Regions.{region_has}
use Rattle.be_stack.specs.Owner.{covers}
use Rattle.be_stack.proofs.visible.uncover.Given as goal

abbrev pub invariant-loop-w : goal.invariant-loop-w
invariant-loop-w l = (x y : ℤ) → region_has l.region x y
    ≡ (region_has l.initial.region x y && not (list_any (covers l.windows x y) (take l.w-index l.others)))
