-- What `explain` writes of a pixel.
use Rattle.std.specs.Prelude.{ℕ, pos, List, [], ◌∷◌, codes, Option, Some, None}
use Rattle.std.specs.Fmt.{decimal}
use Rattle.be_check.specs.Explaining.{explained}
use Rattle.be_check.specs.declared.explaining.Explained.{Explained}
use Rattle.be_lex.specs.Colors.{rgb_text}
use Rattle.be_machine.specs.declared.Entry.{Entry}
use Rattle.be_script.specs.Script.{Declared}
use Rattle.be_written.specs.Lines.{line_of}

-- its colour and the number of the entry that gave it, or that it is off the screen
abbrev pub explained_words : Option Explained → List (List ℕ)
explained_words (Some e) = rgb_text e.rgb ∷ decimal e.entry ∷ []
explained_words None = codes "off" ∷ []

abbrev pub pixel_line : ℕ → ℕ → Option Explained → List ℕ
pixel_line x y e = line_of (decimal x ∷ decimal y ∷ explained_words e)

abbrev pub explain_text : Declared → List Entry → ℕ → ℕ → List ℕ
explain_text d h x y = pixel_line x y (explained d h (pos x) (pos y))
