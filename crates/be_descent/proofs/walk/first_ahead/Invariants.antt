use Rattle.std.proofs.Common.{◌≡◌, ◌-◌, ◌≤◌, true, length}
use Rattle.std.specs.List.{AllWithin}
use Rattle.be_region.specs.Places.{is_passed}
use Rattle.be_descent.proofs.walk.first_ahead.Given as goal

abbrev pub invariant-loop-low : goal.invariant-loop-low
invariant-loop-low l = record {
  ahead : l.fn.from ≤ l.low;
  order : l.low ≤ l.high;
  within : l.high ≤ length l.region;
  passed : AllWithin (λ r. is_passed r l.x l.y ≡ true) l.region l.fn.from l.low;
}

abbrev pub decreases-loop-low : goal.decreases-loop-low
decreases-loop-low l = l.high - l.low
