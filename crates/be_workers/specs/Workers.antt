-- Workers of a hall, and how they end.
use Rattle.std.specs.Prelude.{◌≡◌, ℕ, ◌<◌, List, Bool, true, Option, All, Any, map, ◌⊎◌}
use Rattle.be_hall.specs.declared.hall.Hall.{Hall}
use Rattle.be_hall.specs.declared.close.Closed.{Closed}
use Rattle.be_hall.specs.Machine.{Machine}
use Rattle.be_hall.specs.Words.{opened, rules_of, view_of}
use Rattle.be_turns.specs.Turning.{IsFinished}
use Rattle.be_workers.specs.declared.turn.Did.{Did}
use Rattle.be_workers.specs.declared.worker.End.{End}
use Rattle.be_workers.specs.declared.worker.End.TheVariants as ends
use Rattle.be_workers.specs.declared.worker.Worker.{Worker}
use Rattle.be_workers.specs.Turned.{HasNone, HasStop, IsFree, Leaves}
use Rattle.be_workers.specs.Wanted.{Suits}

module _ {P T E R M : Type 0} {g : _} where
  -- The worker is one of the hall: its pass is free, its activity is there, and its turns have room
  -- for all places, and the right list of its own ones.
  abbrev pub IsWorker :
      (P → Machine M E) → (T → M) → (P → ℕ → ℕ → Bool) → (P → ℕ) → Hall P T E R M g
      → Worker P T E R M g → Type 0
  IsWorker machine meaning owns activities hall w =
      IsFree meaning hall w.pass × (w.who < activities (rules_of hall))
      × Suits machine owns (rules_of hall) w.wants

  -- each of them is
  abbrev pub AreWorkers :
      (P → Machine M E) → (T → M) → (P → ℕ → ℕ → Bool) → (P → ℕ) → Hall P T E R M g
      → List (Worker P T E R M g) → Type 0
  AreWorkers machine meaning owns activities hall ws =
      All (IsWorker machine meaning owns activities hall) ws

  -- the worker stays one, of the same activity
  abbrev pub StaysWorker :
      (P → Machine M E) → (T → M) → (P → ℕ → ℕ → Bool) → (P → ℕ) → Hall P T E R M g
      → Worker P T E R M g → Worker P T E R M g → Type 0
  StaysWorker machine meaning owns activities hall v w =
      IsWorker machine meaning owns activities hall w × (w.who ≡ v.who)

  -- what a turn of the activity leaves of its pass's commits
  abbrev pub TurnOf :
      (P → Machine M E) → (P → List M → ℕ → Option E) → (E → Bool) → Hall P T E R M g → ℕ
      → Worker P T E R M g → Worker P T E R M g → Did → Type 0
  TurnOf machine legal stops hall who v w d = Leaves machine legal stops hall who v.pass w.pass d

  -- its pass is free, and where it made the closing entry one of its commits stops
  abbrev pub IsDone : (T → M) → (E → Bool) → Hall P T E R M g → Worker P T E R M g → Type 0
  IsDone meaning stops hall w =
      IsFree meaning hall w.pass
      × (w.end ≡ ends.Closed → HasStop stops (view_of w.pass).own)

  -- it knows that stop was raised, or its activity has no legal entry
  abbrev pub MayEnd :
      (P → Machine M E) → (P → List M → ℕ → Option E) → Hall P T E R M g
      → Worker P T E R M g → Type 0
  MayEnd machine legal hall w =
      ((view_of w.pass).knows ≡ true) ⊎ HasNone machine legal hall w.who

  -- their activities, in order
  abbrev pub whose : List (Worker P T E R M g) → List ℕ
  whose ws = map (λ (w : Worker P T E R M g). w.who) ws

  -- one of the workers ended so
  abbrev pub SomeEnds : End → List (Worker P T E R M g) → Type 0
  SomeEnds e ws = Any (λ (w : Worker P T E R M g). w.end ≡ e) ws

  -- none met want of memory, and one made the closing entry
  abbrev pub CanClose : List (Worker P T E R M g) → Type 0
  CanClose ws = (¬ SomeEnds ends.NoMemory ws) × SomeEnds ends.Closed ws

  -- What the closed hall gives is a finished history, from the parts with which the hall was opened
  -- to those that come back.
  abbrev pub Finishes :
      (P → Machine M E) → (T → M) → (E → Bool) → Hall P T E R M g → Closed P T E R M → Type 0
  Finishes machine meaning stops hall c =
      IsFinished (machine (rules_of hall)) stops (opened meaning hall).opening
      c.history.items (map meaning c.parts.items)
