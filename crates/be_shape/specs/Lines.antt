-- The points of a line that are so far along the way (this project's own).
use Rattle.std.specs.Prelude.{◌≡◌, ℕ, ℤ, pos, ◌≤◌, true, false}
use Rattle.be_geom.specs.Points.{between}
use Rattle.be_shape.specs.Rasters.{share}

-- no point is so far along the distance, at least and at most
abbrev pub HasNoPointWithin : ℕ → ℕ → ℤ → ℤ → Type 0
HasNoPointWithin steps distance nearest farthest =
    (i : ℕ) → i ≤ steps → between nearest (pos (share i steps distance)) farthest ≡ false

-- the points from the first to the last are so far along the distance, and no others
pub record ArePointsWithin (steps distance : ℕ) (nearest farthest : ℤ) (first last : ℕ) : Type 0
  where
    pub ordered : first ≤ last
    pub of_steps : last ≤ steps
    pub within : (i : ℕ) → first ≤ i → i ≤ last
        → between nearest (pos (share i steps distance)) farthest ≡ true
    pub others : (i : ℕ) → i ≤ steps
        → between nearest (pos (share i steps distance)) farthest ≡ true
        → (first ≤ i) × (i ≤ last)
