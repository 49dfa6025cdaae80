-- The screen that a run's parts stand for (this project's own).
use Rattle.std.specs.Prelude.{◌≡◌, ℕ, List, map, replicate}
use Rattle.be_parts.specs.declared.part.Part.{Part}
use Rattle.be_parts.specs.Parts.{meaning_of}
use Rattle.be_rules.specs.Rules.{IsSound}
use Rattle.be_rules.specs.Slices.{Slice, state_of}
use Rattle.be_script.specs.Script.{Declared}
use Rattle.be_span.specs.Cells.{desktop_cell}
use Rattle.be_span.specs.declared.Cell.{Cell}

-- how many columns and rows it has, and its cells in row order
pub record ScreenCells : Type 0 where
  pub across : ℕ
  pub down : ℕ
  pub cells : List Cell

-- the script's size, and the cells of the state that was cut into these slices
abbrev pub screen_of : Declared → List Slice → ScreenCells
screen_of d all = record { across = d.width; down = d.height; cells = (state_of d all).screen }

-- some legal history leaves these parts, and there is a row of desktop
pub record IsTold (d : Declared) (parts : List Part) (desktop : List Cell) : Type 0 where
  pub sound : IsSound d (map meaning_of parts)
  pub desktop_is : desktop ≡ replicate d.width desktop_cell
