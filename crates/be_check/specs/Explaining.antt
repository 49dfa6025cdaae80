-- Which entry gave a pixel its colour (this project's own).
use Rattle.std.specs.Prelude.{ℕ, ℤ, ◌+◌, Bool, true, false, List, [], ◌∷◌, Option, Some, None}
use Rattle.std.specs.Prelude.{option_map, if◌then◌else◌}
use Rattle.be_color.specs.declared.colors.Rgb.{Rgb}
use Rattle.be_machine.specs.History.{state_after}
use Rattle.be_machine.specs.Pixels.{color_at}
use Rattle.be_machine.specs.State.{State, opening_state}
use Rattle.be_machine.specs.Step.{step}
use Rattle.be_machine.specs.declared.Entry.{Entry}
use Rattle.be_script.specs.Script.{Declared}
use Rattle.be_written.specs.ScreenText.{same_rgb}
use Rattle.be_check.specs.declared.explaining.Explained.{Explained}

abbrev pub same_color : Option Rgb → Option Rgb → Bool
same_color (Some a) (Some b) = same_rgb a b
same_color None None = true
same_color (Some a) None = false
same_color None (Some b) = false

-- this number, unless a pixel has the same colour in both states
abbrev pub if_changed : State → State → ℤ → ℤ → ℕ → ℕ → ℕ
if_changed old new x y number last =
    if same_color (color_at old x y) (color_at new x y) then last else number

-- the number of the last entry that changed the pixel's colour, where the first of these has this
-- number, and where the last before them that did has that one
unfoldable pub last_from : Declared → ℤ → ℤ → State → ℕ → ℕ → List Entry → ℕ
last_from d x y s number last [] = last
last_from d x y s number last (e ∷ es) =
    last_from d x y (step d s e) (number + 1) (if_changed s (step d s e) x y number last) es

-- the same of a whole history; 0 where none did
abbrev pub last_change : Declared → List Entry → ℤ → ℤ → ℕ
last_change d h x y = last_from d x y (opening_state d) 1 0 h

-- the pixel's colour after the history, and that entry's number; none off the screen
abbrev pub explained : Declared → List Entry → ℤ → ℤ → Option Explained
explained d h x y =
    option_map (λ rgb. record { rgb = rgb; entry = last_change d h x y })
    (color_at (state_after d h) x y)
