-- What painting makes of cells side by side (the rules of colours are those of single pixels).
use Rattle.std.specs.Prelude.{ℕ, ℤ, ◌-◌, ◌%◌, ◌==◌, Bool, true, false, ◌&&◌, nat_lt, not, List}
use Rattle.std.specs.Prelude.{Option, Some, None, if◌then◌else◌, slice_get}
use Rattle.std.specs.Int.{bit_at}
use Rattle.be_color.specs.declared.colors.Color.{Color}
use Rattle.be_color.specs.declared.colors.Color.TheVariants.{Clear}
use Rattle.be_color.specs.declared.colors.Rgb.{Rgb}
use Rattle.be_color.specs.declared.modes.Mode.{Mode}
use Rattle.be_color.specs.declared.modes.Mode.TheVariants.{Copy, Over, Erase, Invert, Add, Subtract}
use Rattle.be_color.specs.declared.modes.Mode.TheVariants.{Blend, Min, Max, Select}
use Rattle.be_color.specs.Pattern.{place_in_pattern, pattern_bit}
use Rattle.be_color.specs.Pixel.{picked, blended}
use Rattle.be_span.specs.declared.Cell.{Cell}
use Rattle.be_span.specs.declared.brush.Brush.{Brush}

-- the bit of a pattern's row at a column, of which the highest is leftmost
abbrev pub row_bit : ℕ → ℤ → Bool
row_bit byte x = bit_at byte (7 - place_in_pattern x) == 1

-- the bit of a byte at a place, counted from the left and again from the left behind the eighth
abbrev pub turned_bit : ℕ → ℕ → Bool
turned_bit byte place = bit_at byte (7 - place % 8) == 1

-- whether a mask has a bit for the k-th cell, of which the highest is for the first; behind the
-- 64th there is none
abbrev pub mask_bit : ℕ → ℕ → Bool
mask_bit bits k = nat_lt k 64 && (bit_at bits (63 - k) == 1)

-- a colour, or the transparent one where there is none
abbrev pub color_or_clear : Option Color → Color
color_or_clear (Some color) = color
color_or_clear None = Clear

-- the colour of the k-th cell, where the first of a list is for the cell at a place; a cell without
-- one is painted with the transparent one
abbrev pub color_from : ℕ → List Color → ℕ → Color
color_from from colors k =
    if nat_lt k from then Clear else color_or_clear (slice_get colors (k - from))

-- whether a mask has a bit for the k-th cell, where its first is for the cell at a place
abbrev pub has_bit_from : ℕ → ℕ → ℕ → Bool
has_bit_from from bits k = not (nat_lt k from) && mask_bit bits (k - from)

-- the colour that the bit of a pattern's rows picks at a column and a row
abbrev pub pattern_color : Brush → List ℕ → ℤ → ℤ → Color
pattern_color brush rows x y = picked brush.mode (pattern_bit rows x y) brush.high brush.low

-- a cell on which a colour was painted; its mark stays
abbrev pub painted : Brush → Color → Cell → Cell
painted brush source c =
    record { rgb = blended brush.mode source c.rgb brush.high brush.low; dirty = c.dirty }

-- with it a cell gets a colour whatever it had
abbrev pub plain : Brush
plain = record { mode = Copy; high = Clear; low = Clear }

-- what is painted takes the place of what a pixel had
abbrev pub replaces : Mode → Bool
replaces Copy = true
replaces Over = true
replaces Erase = false
replaces Invert = false
replaces Add = false
replaces Subtract = false
replaces Blend = false
replaces Min = false
replaces Max = false
replaces Select = false

-- a cell with another colour; its mark stays
abbrev pub recolored : Rgb → Cell → Cell
recolored rgb c = record { rgb = rgb; dirty = c.dirty }
