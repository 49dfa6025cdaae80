-- What the parts have of a row of the screen, from a pixel on (this project's own).
use Rattle.std.specs.Prelude.{◌≡◌, ◌<◌, ◌≤◌, ◌+◌, ℕ, pos, List, Some, None, slice_get}
use Rattle.be_parts.specs.declared.part.Part.{Part}
use Rattle.be_parts.specs.Parts.{meaning_of}
use Rattle.be_shown.specs.Pixels.{HasNone, pixel_in}
use Rattle.be_shown.specs.declared.stretch.Stretch.{Stretch}
use Rattle.be_shown.specs.declared.stretch.Stretch.TheVariants.{Owned, Desktop}

-- the part is one of them, and has the pixel
pub record IsOwned (parts : List Part) (x y : ℕ) (part : Part) : Type 0 where
  pub place : ℕ
  pub there : slice_get parts place ≡ Some part
  pub has : pixel_in (meaning_of part) (pos x) (pos y) ≡ None → ⊥

-- none of them has any of so many pixels, which lie in a row so wide: one at least
pub record AreFree (parts : List Part) (width x y n : ℕ) : Type 0 where
  pub some : 0 < n
  pub within : x + n ≤ width
  pub none : (k : ℕ) (part : Part) → slice_get parts k ≡ Some part → HasNone (meaning_of part) x y n

abbrev pub IsStretch : List Part → ℕ → ℕ → ℕ → Stretch → Type 0
IsStretch parts width x y (Owned part) = IsOwned parts x y part.now
IsStretch parts width x y (Desktop n) = AreFree parts width x y n
