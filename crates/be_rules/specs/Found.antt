-- What is found out about an activity from the parts in hand.
use Rattle.std.specs.Prelude.{◌≡◌, ℕ, true, List, Some, None, slice_get}
use Rattle.be_hall.specs.Machine.{Fits, IsHeld}
use Rattle.be_script.specs.Script.{Declared}
use Rattle.be_machine.specs.Activities.{Activity, runner, app, looper, twin, input, closing}
use Rattle.be_machine.specs.declared.Act.{Act}
use Rattle.be_machine.specs.declared.Entry.{Entry}
use Rattle.be_machine.specs.Legal.{legal_act}
use Rattle.be_machine.specs.Program.{lock_of}
use Rattle.be_machine.specs.State.{App}
use Rattle.be_machine.specs.Touched as part
use Rattle.be_rules.specs.Own.{reads_buffer, step_of}
use Rattle.be_rules.specs.Places.{place_of}
use Rattle.be_rules.specs.Rules.{IsSound, TouchesAt}
use Rattle.be_rules.specs.Slices.{Slice, state_of}

-- its act, in every sound list with these parts
abbrev pub CanAct : Declared → List (ℕ × Slice) → ℕ → Act → Type 0
CanAct d held a act =
    (all : List Slice) → IsSound d all → Fits all held → legal_act d (state_of d all) a ≡ Some act

abbrev pub CannotAct : Declared → List (ℕ × Slice) → ℕ → Type 0
CannotAct d held a =
    (all : List Slice) → IsSound d all → Fits all held → legal_act d (state_of d all) a ≡ None

-- a part that isn't in hand is touched by its entry in every such list
abbrev pub NeedsPart : Declared → List (ℕ × Slice) → ℕ → ℕ → Type 0
NeedsPart d held a p =
    (IsHeld held p → ⊥)
    × ((e : Entry) → e.actor ≡ a → (all : List Slice) → IsSound d all → Fits all held
    → TouchesAt d (state_of d all) e p)

-- the parts in hand are what the activity's want reads: its own, and where its program has a lock
-- the looper
abbrev pub OwnHeld : Declared → List (ℕ × Slice) → List Slice → Activity → Type 0
OwnHeld d held all (runner (app m)) =
    IsHeld held (place_of d (part.cell m))
    × ((a : App) (w : ℕ) → slice_get (state_of d all).apps m ≡ Some a
    → reads_buffer (step_of d m a) ≡ true
    → lock_of d m a ≡ Some w → IsHeld held (place_of d (part.looper w)))
OwnHeld d held all (runner (looper w)) = IsHeld held (place_of d (part.looper w))
OwnHeld d held all (twin w) = IsHeld held (place_of d (part.pane w))
OwnHeld d held all input = IsHeld held (place_of d part.input)
OwnHeld d held all closing = IsHeld held (place_of d part.input)
