-- Whether an activity has a legal act, where all parts are in hand.
use Rattle.std.specs.Prelude.{◌≡◌, ◌<◌, ℕ, Bool, true, false, is_some, List, length, Option, Some}
use Rattle.std.specs.Prelude.{None}
use Rattle.be_hall.specs.Machine.{Fits, IsHeld}
use Rattle.be_machine.specs.Legal.{legal_act}
use Rattle.be_machine.specs.Program.{has_ended}
use Rattle.be_rules.specs.Rules.{IsSound}
use Rattle.be_rules.specs.Slices.{Slice, all_parts, state_of}
use Rattle.be_script.specs.Script.{Declared}
use Rattle.be_script.specs.declared.InputLine.{InputLine}
use Rattle.be_script.specs.declared.InputLine.TheVariants as line
use Rattle.be_asking.specs.declared.deed.Answer.{Answer}
use Rattle.be_asking.specs.declared.deed.Answer.TheVariants.{May, NotYet, Needs}

-- each part of the script is in hand
abbrev pub AreAllHeld : Declared → List (ℕ × Slice) → Type 0
AreAllHeld d held = (p : ℕ) → p < length (all_parts d) → IsHeld held p

-- whether the activity of number a has a legal act, in every sound list with these parts
abbrev pub TellsAct : Declared → List (ℕ × Slice) → ℕ → Bool → Type 0
TellsAct d held a has =
    (all : List Slice) → IsSound d all → Fits all held
    → has ≡ is_some (legal_act d (state_of d all) a)

-- the application for whose end a line of the input waits
abbrev pub awaited : InputLine → Option ℕ
awaited (line.After m) = Some m
awaited (line.Press at) = None
awaited (line.Release at) = None
awaited (line.Move at) = None
awaited (line.Key key) = None

-- whether the application is at its end, in every sound list with these parts
abbrev pub TellsEnd : Declared → List (ℕ × Slice) → ℕ → Bool → Type 0
TellsEnd d held m ended =
    (all : List Slice) → IsSound d all → Fits all held → ended ≡ has_ended d (state_of d all) m

-- there is an act
abbrev pub is_may : Answer → Bool
is_may (May deed) = true
is_may NotYet = false
is_may (Needs p) = false
