-- Which windows a change alters (this project's own).
use Rattle.std.specs.Prelude.{◌≡◌, ◌↔◌, ◌<◌, ◌⊎◌, ℕ, ℤ, ◌&&◌, not, true, false, List, length}
use Rattle.std.specs.Prelude.{slice_get}
use Rattle.std.specs.List.{AllPairs, Contains}
use Rattle.be_geom.specs.Numbers.{is_number}
use Rattle.be_geom.specs.Rects.{rect_has}
use Rattle.be_geom.specs.declared.rect.Rect.{Rect}
use Rattle.be_region.specs.Regions.{region_has}
use Rattle.be_stack.specs.Order.{others}
use Rattle.be_stack.specs.Owner.{covers, owner_at}
use Rattle.be_stack.specs.Visible.{IsVisible}
use Rattle.be_stack.specs.Windows.{Windows}
use Rattle.be_desk.specs.declared.zone.Zone.{Zone}

-- a window owns the same pixels of both screens
abbrev pub OwnsTheSame : Windows → Windows → ℕ → Type 0
OwnsTheSame before after u =
    (x y : ℤ) → is_number u (owner_at before x y) ≡ is_number u (owner_at after x y)

-- the changed window and exactly those that own other pixels than before, in ascending order
pub record AreAffected (before after : Windows) (w : ℕ) (names : List ℕ) : Type 0 where
  pub ascending : AllPairs (λ u v. u < v) names
  pub named : (u : ℕ) → Contains names u ↔ ((u ≡ w) ⊎ (OwnsTheSame before after u → ⊥))

-- each window that owns other pixels than before is among these
abbrev pub HasAltered : Windows → Windows → List ℕ → Type 0
HasAltered before after names = (u : ℕ) → (OwnsTheSame before after u → ⊥) → Contains names u

-- ---- what no change of window w alters

-- the screen, the other windows, and their order among themselves
pub record OthersStay (before after : Windows) (w : ℕ) : Type 0 where
  pub width : after.width ≡ before.width
  pub height : after.height ≡ before.height
  pub many : length after.windows ≡ length before.windows
  pub order : others w after.order ≡ others w before.order
  pub windows : (u : ℕ) → (u ≡ w → ⊥) → slice_get after.windows u ≡ slice_get before.windows u

-- what window w owns afterwards, and what it owned before and owns no more
pub record IsZone (before after : Windows) (w : ℕ) (zone : Zone) : Type 0 where
  pub new : IsVisible zone.new after w
  pub given : (x y : ℤ) → region_has zone.given x y
      ≡ (is_number w (owner_at before x y) && not (is_number w (owner_at after x y)))

-- window u covers no pixel of the region
abbrev pub CoversNone : Windows → ℕ → List Rect → Type 0
CoversNone s u region =
    (x y : ℤ) → covers s.windows x y u ≡ true → region_has region x y ≡ false

-- it owns no pixel of the region
abbrev pub OwnsNone : Windows → ℕ → List Rect → Type 0
OwnsNone s u region =
    (x y : ℤ) → region_has region x y ≡ true → is_number u (owner_at s x y) ≡ false

-- the region has no pixel of a rectangle
abbrev pub IsBeside : Rect → List Rect → Type 0
IsBeside r region = (x y : ℤ) → rect_has r x y ≡ true → region_has region x y ≡ false

-- nor of another region
abbrev pub AreApart : List Rect → List Rect → Type 0
AreApart one other = (x y : ℤ) → region_has one x y ≡ true → region_has other x y ≡ false
