-- Which pixels make a bitmap.
use Rattle.std.specs.Prelude.{◌≡◌, ℕ, ◌*◌, Bool, true, false, ◌||◌, nat_lt, List, length}
use Rattle.be_color.specs.declared.colors.Color.{Color}
use Rattle.be_bitmap.specs.Pictures.{Picture}
use Rattle.be_bitmap.specs.declared.fault.BitmapFault.{BitmapFault}
use Rattle.be_bitmap.specs.declared.fault.BitmapFault.TheVariants.{TooLarge, WrongLength}

-- a side has at most 256 pixels
abbrev pub is_too_large : ℕ → ℕ → Bool
is_too_large width height = nat_lt 256 width || nat_lt 256 height

-- what holds of every bitmap
pub record IsPicture (p : Picture) : Type 0 where
  pub sides : is_too_large p.width p.height ≡ false
  pub whole : length p.colors ≡ p.width * p.height

-- why pixels are refused: for a side first, then for their number; they come back
abbrev pub IsRefused : BitmapFault → ℕ → ℕ → List Color → Type 0
IsRefused (TooLarge back) width height colors =
    (is_too_large width height ≡ true) × (back.items ≡ colors)
IsRefused (WrongLength back) width height colors =
    (is_too_large width height ≡ false) × (length colors ≡ width * height → ⊥)
    × (back.items ≡ colors)
