-- Drawing modes as words (the modes are The Be Book's, the words this project's own).
use Rattle.std.specs.Prelude.{ℕ, List, [], ◌∷◌, Option, codes}
use Rattle.std.specs.Str.{bytes_eq}
use Rattle.std.specs.Map.{lookup}
use Rattle.be_color.specs.declared.modes.Mode.{Mode}
use Rattle.be_color.specs.declared.modes.Mode.TheVariants.{Copy, Over, Erase, Invert, Add, Subtract}
use Rattle.be_color.specs.declared.modes.Mode.TheVariants.{Blend, Min, Max, Select}

-- each mode with its word
abbrev pub mode_words : List (List ℕ × Mode)
mode_words =
    (codes "copy", Copy)
    ∷ (codes "over", Over)
    ∷ (codes "erase", Erase)
    ∷ (codes "invert", Invert)
    ∷ (codes "add", Add)
    ∷ (codes "subtract", Subtract)
    ∷ (codes "blend", Blend)
    ∷ (codes "min", Min)
    ∷ (codes "max", Max)
    ∷ (codes "select", Select)
    ∷ []

-- the mode whose word it is
unfoldable pub mode_of : List ℕ → Option Mode
mode_of word = lookup (bytes_eq word) mode_words

-- the one word of a mode
unfoldable pub mode_text : Mode → List ℕ
mode_text Copy = codes "copy"
mode_text Over = codes "over"
mode_text Erase = codes "erase"
mode_text Invert = codes "invert"
mode_text Add = codes "add"
mode_text Subtract = codes "subtract"
mode_text Blend = codes "blend"
mode_text Min = codes "min"
mode_text Max = codes "max"
mode_text Select = codes "select"
