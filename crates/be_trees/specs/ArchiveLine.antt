-- The line of a view tree's archive (this project's own).
use Rattle.std.specs.Prelude.{◌≡◌, ℕ, List, [], ◌∷◌, codes, slice_get, Option, Some, None}
use Rattle.std.specs.Prelude.{option_map}
use Rattle.be_archive.specs.Archives.{archived}
use Rattle.be_flat.specs.Grammar.{Spells}
use Rattle.be_lex.specs.Hex.{hex_text}
use Rattle.be_script.specs.Script.{Declared}
use Rattle.be_script.specs.Windows.{tree_of}
use Rattle.be_views.specs.Trees.{Tree}
use Rattle.be_written.specs.Lines.{line_of}

-- the digits of the bytes that spell the archive, two of each
pub record IsArchiveLine (tree : Tree) (line : List ℕ) : Type 0 where
  pub bytes : List ℕ
  pub spelt : Spells bytes (archived tree)
  pub digits : line ≡ line_of (hex_text bytes ∷ [])

-- or that there is no tree
abbrev pub IsTreeLine : Option Tree → List ℕ → Type 0
IsTreeLine (Some tree) line = IsArchiveLine tree line
IsTreeLine None line = line ≡ line_of (codes "none" ∷ [])

-- the views of a window at the opening, where there is such a window
abbrev pub opening_tree : Declared → ℕ → Option Tree
opening_tree d w = option_map (tree_of d w) (slice_get d.windows w)
