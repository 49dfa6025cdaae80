-- Resizes one after another (that a resize makes no stop on its way is this project's own).
use Rattle.std.specs.Prelude.{◌≡◌, ℤ, Some}
use Rattle.be_views.specs.Trees.{Tree}
use Rattle.be_views.specs.Resizing.{resized}

-- where no view leaves the range from size a to size b, going on to size c does what going to c at
-- once does
abbrev pub AnyWayIsTheSame : Type 0
AnyWayIsTheSame =
    (tree middle : Tree) (b_w b_h c_w c_h : ℤ) → resized tree b_w b_h ≡ Some middle
    → resized middle c_w c_h ≡ resized tree c_w c_h
