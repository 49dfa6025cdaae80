-- What the buttons of the code have heard, and whether a letter invokes one by them (this
-- project's own).
use Rattle.std.specs.Prelude.{◌≡◌, ℕ, Bool, false, List, ◌∷◌, map, length, slice_get, Some}
use Rattle.std.specs.Option.{option_map_or}
use Rattle.be_control.specs.Buttons.{Button, HasHeard, invokes}
use Rattle.be_geom.specs.declared.rect.Rect.{Rect}
use Rattle.be_message.specs.declared.target.Target.{Target}
use Rattle.be_message.specs.declared.target.Target.TheVariants as target
use Rattle.be_script.specs.Script.{Declared}
use Rattle.be_script.specs.Windows.{root_view, view_lines}
use Rattle.be_script.specs.declared.WindowLine.{WindowLine}
use Rattle.be_pressed.specs.ButtonText.{all_heard, bounds_of, heard_by}
use Rattle.be_pressed.specs.declared.letter.TakenLetter.{TakenLetter}

-- ---- the buttons

abbrev pub at_rest : Rect → Button
at_rest bounds = record { bounds = bounds; armed = false }

-- the bounds that are due of a window's views
abbrev pub bounds_due : Declared → ℕ → WindowLine → List Rect
bounds_due d w line =
    bounds_of (root_view line).frame ∷ map (λ view. bounds_of view.frame) (view_lines d w)

-- those of window w's views have heard these letters
abbrev pub HaveHeard : ℕ → List TakenLetter → List Button → Type 0
HaveHeard w letters buttons =
    (v : ℕ) (button : Button) → slice_get buttons v ≡ Some button
    → HasHeard button (all_heard w v letters)

-- the buttons of window w behind these letters
pub record IsWindow (d : Declared) (w : ℕ) (line : WindowLine) (letters : List TakenLetter)
    (buttons : List Button) : Type 0 where
  pub bounds : map (λ button. button.bounds) buttons ≡ bounds_due d w line
  pub heard : HaveHeard w letters buttons

-- those of all windows
pub record AreWindows (d : Declared) (letters : List TakenLetter) (windows : List (List Button))
    : Type 0 where
  pub many : length windows ≡ length d.windows
  pub each : (w : ℕ) (line : WindowLine) (buttons : List Button)
      → slice_get d.windows w ≡ Some line → slice_get windows w ≡ Some buttons
      → IsWindow d w line letters buttons

-- ---- a letter behind others

-- it invokes view v, whose button is this
abbrev pub invokes_button : List TakenLetter → TakenLetter → ℕ → Button → Bool
invokes_button before letter v button =
    invokes button.bounds (all_heard letter.window v before) (heard_by v letter)

-- a letter for this target invokes a view
abbrev pub is_invoked : List TakenLetter → TakenLetter → List Button → Target → Bool
is_invoked before letter buttons (target.View v) =
    option_map_or (invokes_button before letter v) (slice_get buttons v) false
is_invoked before letter buttons target.Window = false
is_invoked before letter buttons (target.Plain h) = false
