-- Where the range holds them, the pixels go their way.
use Rattle.std.proofs.Common.{◌-ℤ◌, ap, ◌∙◌}
use Rattle.std.proofs.lemmas.Int.{to_z-of_z}
use Rattle.be_region.specs.Regions.{region_has}
use Rattle.be_desk.proofs.ready.shifted.Goals as goal

pub shift_to-requires-clause-moved : goal.shift_to-requires-clause-moved
shift_to-requires-clause-moved c x y =
    let moved = simp (to_z-of_z, c.ranges.dx, c.ranges.dy) at c.in-Ok.ensures.ok in
    simp (to_z-of_z, c.ranges.dx, c.ranges.dy) (moved x y ∙ c.in_ok-moved.ensures (x -ℤ c.args.dx) (y -ℤ c.args.dy) ∙ ap (λ l. region_has l (x -ℤ c.args.dx) (y -ℤ c.args.dy)) c.region.ensures.region)

pub returns-clause-region : goal.returns-clause-region
returns-clause-region c x y = ap (λ l. region_has l x y) c.in_ok-shift.ensures.region
