-- Which words are numbers, and which numbers (this project's own).
use Rattle.std.specs.Prelude.{ℕ, ℤ, pos, neg_ℤ, Bool, true, false, not, ◌==◌, ◌&&◌, if◌then◌else◌}
use Rattle.std.specs.Prelude.{List, [], ◌∷◌, codes}
use Rattle.std.specs.List.{list_all}
use Rattle.std.specs.Char.{is_ascii_digit}
use Rattle.std.specs.Str.{bytes_eq}
use Rattle.std.specs.Str.Parse.{digits_value}

-- decimal digits: one alone, or several, of which the first isn't 0
abbrev pub is_natural : List ℕ → Bool
is_natural [] = false
is_natural (d ∷ []) = is_ascii_digit d
is_natural (d ∷ e ∷ digits) =
    (is_ascii_digit d && not (d == 48)) && list_all is_ascii_digit (e ∷ digits)

-- such digits as they stand behind a `-` or without one: there is no `-0`
abbrev pub is_signed : Bool → List ℕ → Bool
is_signed negative digits = is_natural digits && not (negative && bytes_eq digits (codes "0"))

-- the number of such digits, of any size
abbrev pub signed : Bool → List ℕ → ℤ
signed negative digits =
    if negative then neg_ℤ (pos (digits_value 10 digits)) else pos (digits_value 10 digits)

-- a number: digits, or `-` and then digits
unfoldable pub is_number : List ℕ → Bool
is_number [] = false
is_number (b ∷ bytes) = if b == 45 then is_signed true bytes else is_signed false (b ∷ bytes)

-- which number it is
unfoldable pub number_of : List ℕ → ℤ
number_of [] = pos 0
number_of (b ∷ bytes) = if b == 45 then signed true bytes else signed false (b ∷ bytes)
