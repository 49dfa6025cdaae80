-- The rows and the runs of a shape (this project's own).
use Rattle.std.specs.Prelude.{◌≡◌, ℤ, pos, negsuc, ◌+ℤ◌, ◌≤ℤ◌, ◌<ℤ◌, true, false}
use Rattle.be_shape.specs.declared.Raster.{Raster}
use Rattle.be_shape.specs.Rasters.{raster_has}

-- no pixel is in the shape
abbrev pub HasNoPixel : Raster → Type 0
HasNoPixel r = (x y : ℤ) → raster_has r x y ≡ false

-- some pixel of the row is in the shape
abbrev pub HasPixelOfRow : Raster → ℤ → Type 0
HasPixelOfRow r y = (x : ℤ) × (raster_has r x y ≡ true)

-- each row from the first to the last has a pixel, and no other row has one
pub record AreRows (r : Raster) (first last : ℤ) : Type 0 where
  pub forward : first ≤ℤ last
  pub each : (y : ℤ) → first ≤ℤ y → y ≤ℤ last → HasPixelOfRow r y
  pub within : (x y : ℤ) → raster_has r x y ≡ true → (first ≤ℤ y) × (y ≤ℤ last)

-- no column of the row from this one on is in the shape
abbrev pub HasNoneFrom : Raster → ℤ → ℤ → Type 0
HasNoneFrom r y from = (x : ℤ) → from ≤ℤ x → raster_has r x y ≡ false

-- the run begins at the first column from this one on that is in the shape, and ends before the
-- first one behind it that isn't
pub record IsNextRun (r : Raster) (y from first last : ℤ) : Type 0 where
  pub ahead : from ≤ℤ first
  pub passed : (x : ℤ) → from ≤ℤ x → x <ℤ first → raster_has r x y ≡ false
  pub forward : first ≤ℤ last
  pub within : (x : ℤ) → first ≤ℤ x → x ≤ℤ last → raster_has r x y ≡ true
  pub ended : raster_has r (last +ℤ pos 1) y ≡ false

-- both are coordinates, or so near the range's ends that a pen of 32 pixels reaches them
abbrev pub IsNearRange : ℤ → ℤ → Type 0
IsNearRange first last = (negsuc 32782 ≤ℤ first) × (first ≤ℤ last) × (last ≤ℤ pos 32783)
