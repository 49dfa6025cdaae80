use Rattle.std.proofs.Common.{pos, ◌+ℤ◌, ◌-ℤ◌, w32, to_z, of_z, arith}
use Rattle.std.proofs.lemmas.Int.{ints}
use Rattle.be_facts.proofs.Numbers.{unsigned_abs_less}
use Rattle.walk_runs.proofs.walk.pixels_of.Goals as goal

pub loop-left-smaller : goal.loop-left-smaller
loop-left-smaller c =
    let range = c.in-Some-next_run.ensures.range in
    let ahead = c.in-Some-next_run.ensures.run.ahead in
    let next = to_z w32 (of_z w32 (to_z w32 (of_z w32 c.in-Some-next_run.right) +ℤ pos 2)) in
    unsigned_abs_less (pos 32785 -ℤ next) (pos 32785 -ℤ to_z w32 c.loop-left.from-bits) (omega (arith, ints)) (omega (arith, ints))
