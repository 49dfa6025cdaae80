-- How wide a text is.
use Rattle.std.specs.Prelude.{ℕ, Bool, ◌||◌, nat_lt}

-- the font has glyphs for the codes 32 to 126
abbrev pub is_outside_font : ℕ → Bool
is_outside_font byte = nat_lt byte 32 || nat_lt 126 byte
