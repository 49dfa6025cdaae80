-- The text of a screen, as the report has it: its rows, each as its longest runs of one colour
-- (this project's own).
use Rattle.std.specs.Prelude.{ℕ, zero, suc, ◌+◌, ◌==◌, ◌&&◌, Bool, List, [], ◌∷◌, ◌++◌, map, take}
use Rattle.std.specs.Prelude.{drop, codes, if◌then◌else◌}
use Rattle.std.specs.Fmt.{decimal}
use Rattle.be_color.specs.declared.colors.Rgb.{Rgb}
use Rattle.be_lex.specs.Colors.{rgb_text}
use Rattle.be_span.specs.declared.Cell.{Cell}
use Rattle.be_written.specs.Lines.{line_of}

-- how many pixels of one colour stand side by side
pub record Colored : Type 0 where
  pub count : ℕ
  pub rgb : Rgb

abbrev pub same_rgb : Rgb → Rgb → Bool
same_rgb a b = (a.red == b.red) && (a.green == b.green) && (a.blue == b.blue)

-- one more pixel before the runs: it makes the first run longer, or a run of its own
abbrev pub before_runs : Rgb → List Colored → List Colored
before_runs rgb [] = record { count = 1; rgb = rgb } ∷ []
before_runs rgb (r ∷ rs) =
    if same_rgb rgb r.rgb then record { count = r.count + 1; rgb = rgb } ∷ rs
    else record { count = 1; rgb = rgb } ∷ r ∷ rs

unfoldable pub runs_of : List Cell → List Colored
runs_of [] = []
runs_of (c ∷ cs) = before_runs c.rgb (runs_of cs)

abbrev pub run_word : Colored → List ℕ
run_word r = decimal r.count ++ codes "x" ++ rgb_text r.rgb

abbrev pub row_text : ℕ → List Cell → List ℕ
row_text y row = line_of (decimal y ∷ map run_word (runs_of row))

-- n rows of a screen, of which the first is row y
unfoldable pub rows_from : ℕ → ℕ → ℕ → List Cell → List ℕ
rows_from width y zero cells = []
rows_from width y (suc n) cells =
    row_text y (take width cells) ++ rows_from width (y + 1) n (drop width cells)

-- its size, and its rows
unfoldable pub screen_text : ℕ → ℕ → List Cell → List ℕ
screen_text width height cells =
    line_of (codes "screen" ∷ decimal width ∷ decimal height ∷ []) ++ rows_from width 0 height cells
