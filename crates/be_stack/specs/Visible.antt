-- What of a window is to be seen (The Be Book: a window covers those behind it).
use Rattle.std.specs.Prelude.{◌≡◌, ℕ, ℤ, List}
use Rattle.be_geom.specs.declared.rect.Rect.{Rect}
use Rattle.be_geom.specs.Numbers.{is_number}
use Rattle.be_region.specs.Regions.{region_has}
use Rattle.be_stack.specs.Windows.{Windows}
use Rattle.be_stack.specs.Owner.{owner_at}

-- the region has the pixels of the screen that window w owns, and no other
abbrev pub IsVisible : List Rect → Windows → ℕ → Type 0
IsVisible rs s w = (x y : ℤ) → region_has rs x y ≡ is_number w (owner_at s x y)
