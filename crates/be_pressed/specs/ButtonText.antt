-- A line for each letter that invokes the view that it is for, where every view is a button (this
-- project's own).
use Rattle.std.specs.Prelude.{ℕ, pos, ◌==◌, ◌-ℤ◌, Bool, false, if◌then◌else◌}
use Rattle.std.specs.Prelude.{List, [], ◌∷◌, ◌++◌, map, filter, slice_get, Option, option_and_then}
use Rattle.std.specs.Fmt.{decimal}
use Rattle.std.specs.Option.{option_map_or}
use Rattle.be_control.specs.Buttons.{Heard, invokes}
use Rattle.be_geom.specs.declared.rect.Rect.{Rect}
use Rattle.be_input.specs.Deliveries.{saturated}
use Rattle.be_machine.specs.declared.Entry.{Entry}
use Rattle.be_message.specs.declared.target.Target.{Target}
use Rattle.be_message.specs.declared.target.Target.TheVariants as target
use Rattle.be_script.specs.Script.{Declared}
use Rattle.be_script.specs.Windows.{tree_of}
use Rattle.be_views.specs.Trees.{View}
use Rattle.be_written.specs.Lines.{line_of}
use Rattle.be_written.specs.Names.{window_name, view_name}
use Rattle.be_pressed.specs.declared.letter.TakenLetter.{TakenLetter}
use Rattle.be_pressed.specs.Taken.{letters_taken}

-- ---- one button

-- a frame moved to (0, 0); its last edges stop at the range's ends
abbrev pub bounds_of : Rect → Rect
bounds_of frame = record {
  left = pos 0;
  top = pos 0;
  right = saturated (frame.right -ℤ frame.left);
  bottom = saturated (frame.bottom -ℤ frame.top);
}

-- a view as it is at the start
abbrev pub view_in : Declared → ℕ → ℕ → Option View
view_in d w v =
    option_and_then (λ line. slice_get (tree_of d w line) v) (slice_get d.windows w)

abbrev pub is_for : ℕ → Target → Bool
is_for v (target.View other) = v == other
is_for v target.Window = false
is_for v (target.Plain h) = false

-- a letter, as view v hears it
abbrev pub heard_by : ℕ → TakenLetter → Heard
heard_by v letter = record { own = is_for v letter.target; message = letter.message }

-- the letters of window w among these, as its view v hears them
abbrev pub all_heard : ℕ → ℕ → List TakenLetter → List Heard
all_heard w v letters = map (heard_by v) (filter (λ letter. letter.window == w) letters)

-- ---- one letter behind others

-- it invokes view v of its window
abbrev pub invokes_view : ℕ → List TakenLetter → TakenLetter → View → Bool
invokes_view v before letter view =
    invokes (bounds_of view.frame) (all_heard letter.window v before) (heard_by v letter)

abbrev pub button_line : Declared → List TakenLetter → TakenLetter → ℕ → List ℕ
button_line d before letter v =
    if option_map_or (invokes_view v before letter) (view_in d letter.window v) false
    then line_of
    (window_name d letter.window ∷ view_name d letter.window v ∷ decimal letter.number ∷ [])
    else []

-- only the view that it is for may be invoked
abbrev pub letter_text : Declared → List TakenLetter → TakenLetter → Target → List ℕ
letter_text d before letter (target.View v) = button_line d before letter v
letter_text d before letter target.Window = []
letter_text d before letter (target.Plain h) = []

-- ---- all letters

-- letters behind others
unfoldable pub letters_text : Declared → List TakenLetter → List TakenLetter → List ℕ
letters_text d before [] = []
letters_text d before (letter ∷ letters) =
    letter_text d before letter letter.target ++ letters_text d (before ++ letter ∷ []) letters

-- of a history's
abbrev pub buttons_text : Declared → List Entry → List ℕ
buttons_text d h = letters_text d [] (letters_taken d h)
