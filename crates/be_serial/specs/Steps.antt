-- A run on one thread, and what a step makes of it.
use Rattle.std.specs.Prelude.{◌≡◌, ℕ, ◌<◌, Bool, true, List, [], ◌∷◌, ◌++◌, map, Option, Some}
use Rattle.be_hall.specs.Machine.{Machine}
use Rattle.be_turns.specs.Turning.{IsFinished, is_some}
use Rattle.be_serial.specs.declared.serial.Ran.{Ran}
use Rattle.be_serial.specs.declared.serial.Run.{Run}
use Rattle.be_serial.specs.Known.{now_of}
use Rattle.be_serial.specs.Running.{Runs}
use Rattle.be_serial.specs.Scheduled.{Picked, ready_below}

module _ {P T E R M : Type 0} (machine : P → Machine M E) (meaning : T → M) where
  -- the run's parts in hand are all, and those that its entries give
  abbrev pub IsRunning : (T → List (ℕ × E)) → Run P T E R M → Type 0
  IsRunning log run =
      Runs (machine run.rules) meaning log (map meaning run.opening.value.items) run.limit
      run.held.parts run.history.items

  module _ (legal : P → List M → ℕ → Option E) where
    -- the activities that have a legal entry now, in order of number
    abbrev pub ready_of : (P → ℕ) → Run P T E R M → List ℕ
    ready_of activities run =
        ready_below (legal run.rules) (now_of machine meaning run) (activities run.rules)

    -- the activity is there, and has a legal entry now
    abbrev pub CanStep : (P → ℕ) → Run P T E R M → ℕ → Type 0
    CanStep activities run who =
        (who < activities run.rules)
        × (is_some (legal run.rules (now_of machine meaning run) who) ≡ true)

    -- the history has one entry more, which is the activity's legal one
    abbrev pub Steps : ℕ → Run P T E R M → Run P T E R M → Type 0
    Steps who old new =
        (e : E)
        × (new.history.items ≡ old.history.items ++ e ∷ [])
        × (legal old.rules (now_of machine meaning old) who ≡ Some e)

    -- each entry is that of the activity that the seed picks, from these parts on
    abbrev pub IsPicked : (P → ℕ) → ℕ → P → List T → Ran P T E R M → Type 0
    IsPicked activities seed rules parts ran =
        Picked (machine rules) (legal rules) (activities rules) seed seed (map meaning parts)
        ran.history.items

  -- the history is finished, and leads from these parts to those that come back
  abbrev pub Finishes : (E → Bool) → P → List T → Ran P T E R M → Type 0
  Finishes stops rules parts ran =
      IsFinished (machine rules) stops (map meaning parts) ran.history.items
      (map meaning ran.parts.items)

-- a run of the same rules, from the same parts on
abbrev pub IsOfSame : {P T E R M : Type 0} → Run P T E R M → Run P T E R M → Type 0
IsOfSame old new =
    (new.rules ≡ old.rules) × (new.opening ≡ old.opening) × (new.limit ≡ old.limit)
