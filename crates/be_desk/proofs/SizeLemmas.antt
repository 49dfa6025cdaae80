-- Sizes that a change may ask for.
use Rattle.std.proofs.Common.{◌≡◌, ℤ, pos, ◌≤ℤ◌, true}
use Rattle.be_facts.proofs.Truths.{and_both}
use Rattle.be_geom.specs.Points.{between}
use Rattle.be_geom.specs.declared.change.Change.TheVariants.{ResizeTo}
use Rattle.be_geom.proofs.Between.{between_parts}
use Rattle.be_stack.specs.Limits.{is_within_limits}

-- a width and a height aren't negative
pub sized : (width height : ℤ) → is_within_limits (ResizeTo width height) ≡ true → (pos 0 ≤ℤ width) × (pos 0 ≤ℤ height)
sized width height e =
    let both = and_both (between (pos 0) width (pos 32767)) (between (pos 0) height (pos 32767)) e in
    ((between_parts (pos 0) (pos 32767) width both.0).0, (between_parts (pos 0) (pos 32767) height both.1).0)
