-- Numbers of a change that are within their limits.
use Rattle.std.proofs.Common.{◌≡◌, ℤ, pos, negsuc, true, ◌≤ℤ◌}
use Rattle.std.proofs.lemmas.Bool.{and_from}
use Rattle.be_geom.specs.declared.change.Change.TheVariants.{MoveBy, ResizeTo}
use Rattle.be_geom.proofs.Between.{is_between}
use Rattle.be_stack.specs.Limits.{is_within_limits}

pub short_move : (dx dy : ℤ) → negsuc 65534 ≤ℤ dx → dx ≤ℤ pos 65535 → negsuc 65534 ≤ℤ dy → dy ≤ℤ pos 65535 → is_within_limits (MoveBy dx dy) ≡ true
short_move dx dy left right up down =
    and_from _ _ (is_between (negsuc 65534) dx (pos 65535) left right) (is_between (negsuc 65534) dy (pos 65535) up down)

pub small_size : (width height : ℤ) → pos 0 ≤ℤ width → width ≤ℤ pos 32767 → pos 0 ≤ℤ height → height ≤ℤ pos 32767 → is_within_limits (ResizeTo width height) ≡ true
small_size width height thin wide flat tall =
    and_from _ _ (is_between (pos 0) width (pos 32767) thin wide) (is_between (pos 0) height (pos 32767) flat tall)
