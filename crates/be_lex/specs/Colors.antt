-- Colours as words (this project's own).
use Rattle.std.specs.Prelude.{ℕ, Bool, true, List, [], ◌∷◌, slice_index, codes, if◌then◌else◌}
use Rattle.std.specs.Prelude.{Option, Some}
use Rattle.std.specs.Option.{option_map}
use Rattle.std.specs.Str.{bytes_eq}
use Rattle.be_color.specs.declared.colors.Color.{Color}
use Rattle.be_color.specs.declared.colors.Color.TheVariants.{Solid, Clear}
use Rattle.be_color.specs.declared.colors.Rgb.{Rgb}
use Rattle.be_lex.specs.Hex.{hex_bytes, hex_text, are_bytes}

-- three bytes: red, green and blue
abbrev pub rgb_from : List ℕ → Rgb
rgb_from bytes =
    record { red = slice_index bytes 0; green = slice_index bytes 1; blue = slice_index bytes 2 }

-- six hexadecimal digits
unfoldable pub rgb_of : List ℕ → Option Rgb
rgb_of word = option_map rgb_from (hex_bytes 3 word)

-- the six digits of a colour that isn't transparent
unfoldable pub rgb_text : Rgb → List ℕ
rgb_text rgb = hex_text (rgb.red ∷ rgb.green ∷ rgb.blue ∷ [])

-- a colour that is set: its digits, or `clear` for the transparent one
unfoldable pub color_of : List ℕ → Option Color
color_of word = if bytes_eq word (codes "clear") then Some Clear else option_map Solid (rgb_of word)

-- a colour among the pixels of a row: its digits, or `------` for the transparent one
unfoldable pub pixel_of : List ℕ → Option Color
pixel_of word =
    if bytes_eq word (codes "------") then Some Clear else option_map Solid (rgb_of word)

-- the one word of a colour
unfoldable pub color_text : Color → List ℕ
color_text (Solid rgb) = rgb_text rgb
color_text Clear = codes "clear"

-- its components are bytes, as those of every colour that the code has
abbrev pub is_color : Color → Bool
is_color (Solid rgb) = are_bytes (rgb.red ∷ rgb.green ∷ rgb.blue ∷ [])
is_color Clear = true
