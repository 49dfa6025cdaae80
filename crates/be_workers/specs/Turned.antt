-- What a turn makes of a pass.
use Rattle.std.specs.Prelude.{◌≡◌, ℕ, ◌+◌, ◌<◌, List, [], ◌∷◌, ◌++◌, Bool, true, false, Option}
use Rattle.std.specs.Prelude.{Some, None, Any, ◌⊎◌}
use Rattle.be_hall.specs.declared.hall.Hall.{Hall}
use Rattle.be_hall.specs.declared.pass.Pass.{Pass}
use Rattle.be_hall.specs.declared.view.Commit.{Commit}
use Rattle.be_hall.specs.declared.view.View.{View}
use Rattle.be_hall.specs.Hands.{meant, places_of}
use Rattle.be_hall.specs.Machine.{Machine, Fits, IsAskable, IsHeld, SomeFits}
use Rattle.be_hall.specs.Words.{IsPassOf, in_hand, rules_of, view_of}
use Rattle.be_workers.specs.declared.turn.Did.{Did}
use Rattle.be_workers.specs.declared.turn.Did.TheVariants as did
use Rattle.be_workers.specs.declared.turn.Asked.{Asked}
use Rattle.be_workers.specs.declared.turn.Asked.TheVariants as asked

module _ {M E : Type 0} where
  -- one of the commits made an entry that stops
  abbrev pub HasStop : (E → Bool) → List (Commit M E) → Type 0
  HasStop stops cs = Any (λ (c : Commit M E). stops c.entry ≡ true) cs

  -- Some sound list has these parts, and in each that has them this is the activity's legal entry,
  -- or there is none.
  abbrev pub Decides : Machine M E → (List M → ℕ → Option E) → ℕ → List (ℕ × M) → Option E → Type 0
  Decides x legal who held o =
      SomeFits x held
      × ((all : List M) → x.sound all → Fits all held → legal all who ≡ o)

  -- the commit made the activity's legal entry, by the parts from which it was made
  abbrev pub IsLegalOf : Machine M E → (List M → ℕ → Option E) → ℕ → Commit M E → Type 0
  IsLegalOf x legal who c = Decides x legal who c.before (Some c.entry)

  -- by some parts the activity has no legal entry
  abbrev pub IsIdle : Machine M E → (List M → ℕ → Option E) → ℕ → Type 0
  IsIdle x legal who = (held : List (ℕ × M)) × Decides x legal who held None

module _ {P M E : Type 0} where
  -- it knows of the same commits
  abbrev pub SameCommits : View P M E → View P M E → Type 0
  SameCommits v w = (w.own ≡ v.own) × (w.ended ≡ v.ended)

  -- it knows of one commit more, which made the activity's legal entry
  abbrev pub OneMore :
      Machine M E → (List M → ℕ → Option E) → ℕ → View P M E → View P M E → Type 0
  OneMore x legal who v w =
      (c : Commit M E)
      × (w.own ≡ v.own ++ c ∷ []) × (w.ended ≡ v.ended) × IsLegalOf x legal who c

  -- what became of the commits, by what came of a turn
  abbrev pub CommitsBy :
      Machine M E → (List M → ℕ → Option E) → (E → Bool) → ℕ
      → View P M E → View P M E → Did → Type 0
  CommitsBy x legal stops who v w did.Made = OneMore x legal who v w
  CommitsBy x legal stops who v w did.Closed = OneMore x legal who v w × HasStop stops w.own
  CommitsBy x legal stops who v w did.Nothing = SameCommits v w
  CommitsBy x legal stops who v w did.Over = SameCommits v w

-- what it is to have made an entry, where the activity is the last one and where it isn't
abbrev pub made_by : Bool → Did
made_by true = did.Closed
made_by false = did.Made

-- what holds where the closing entry was made
abbrev pub OnClosed : Type 0 → Did → Type 0
OnClosed P did.Made = Unit {0}
OnClosed P did.Closed = P
OnClosed P did.Nothing = Unit {0}
OnClosed P did.Over = Unit {0}

-- what holds where the activity is over
abbrev pub OnOver : Type 0 → Did → Type 0
OnOver P did.Made = Unit {0}
OnOver P did.Closed = Unit {0}
OnOver P did.Nothing = Unit {0}
OnOver P did.Over = P

-- what holds where a turn made no entry
abbrev pub OnNone : Type 0 → Did → Type 0
OnNone P did.Made = Unit {0}
OnNone P did.Closed = Unit {0}
OnNone P did.Nothing = P
OnNone P did.Over = P

module _ {P T E R M : Type 0} {g : _} where
  -- the pass is one of the hall, and has nothing in hand
  abbrev pub IsFree : (T → M) → Hall P T E R M g → Pass P T E R M g → Type 0
  IsFree meaning hall pass = IsPassOf meaning hall pass × (in_hand pass ≡ [])

  -- each place that the activity owns is in hand
  abbrev pub HoldsOwn :
      (P → Machine M E) → (T → M) → (P → ℕ → ℕ → Bool) → Hall P T E R M g → ℕ
      → Pass P T E R M g → Type 0
  HoldsOwn machine meaning owns hall who pass =
      (p : ℕ) → p < (machine (rules_of hall)).places → owns (rules_of hall) who p ≡ true
      → IsHeld (meant meaning (in_hand pass)) p

  -- the rules may be asked about the parts in hand
  abbrev pub MayAsk :
      (P → Machine M E) → (T → M) → Hall P T E R M g → Pass P T E R M g → Type 0
  MayAsk machine meaning hall pass =
      IsAskable (machine (rules_of hall)) (meant meaning (in_hand pass))

  -- it has the parts at these places in hand, and the rules may be asked about them, or none
  abbrev pub HasThem :
      (P → Machine M E) → (T → M) → Hall P T E R M g → List ℕ → Bool → Pass P T E R M g → Type 0
  HasThem machine meaning hall places has pass =
      (has ≡ true → (places_of (in_hand pass) ≡ places) × MayAsk machine meaning hall pass)
      × (has ≡ false → in_hand pass ≡ [])

  -- the pass knows of no commit
  abbrev pub IsFresh : Pass P T E R M g → Type 0
  IsFresh pass = ((view_of pass).own ≡ []) × ((view_of pass).ended ≡ [])

  -- the pass knows of the same commits
  abbrev pub KeepsCommits : Pass P T E R M g → Pass P T E R M g → Type 0
  KeepsCommits old new = SameCommits (view_of old) (view_of new)

  -- what a turn of the activity leaves of the pass's commits
  abbrev pub Leaves :
      (P → Machine M E) → (P → List M → ℕ → Option E) → (E → Bool) → Hall P T E R M g → ℕ
      → Pass P T E R M g → Pass P T E R M g → Did → Type 0
  Leaves machine legal stops hall who old new d =
      CommitsBy (machine (rules_of hall)) (legal (rules_of hall)) stops who
      (view_of old) (view_of new) d

  -- the same, where more parts may be needed to tell
  abbrev pub AskedOf :
      (P → Machine M E) → (P → List M → ℕ → Option E) → (E → Bool) → Hall P T E R M g → ℕ
      → Pass P T E R M g → Pass P T E R M g → Asked → Type 0
  AskedOf machine legal stops hall who old new (asked.Came d) =
      Leaves machine legal stops hall who old new d
  AskedOf machine legal stops hall who old new (asked.Needs p) = KeepsCommits old new

  -- by some parts the activity has no legal entry
  abbrev pub HasNone :
      (P → Machine M E) → (P → List M → ℕ → Option E) → Hall P T E R M g → ℕ → Type 0
  HasNone machine legal hall who = IsIdle (machine (rules_of hall)) (legal (rules_of hall)) who

  -- Why a turn made no entry: the activity has none, or it is the closing one, which doesn't wait
  -- for parts. It is over only where it has none.
  abbrev pub NoneBy :
      (P → Machine M E) → (P → List M → ℕ → Option E) → (P → ℕ) → Hall P T E R M g → ℕ
      → Did → Type 0
  NoneBy machine legal activities hall who did.Made = Unit {0}
  NoneBy machine legal activities hall who did.Closed = Unit {0}
  NoneBy machine legal activities hall who did.Nothing =
      (who + 1 ≡ activities (rules_of hall)) ⊎ HasNone machine legal hall who
  NoneBy machine legal activities hall who did.Over = HasNone machine legal hall who

  -- what asking tells with the parts in hand: that there is no entry, or a place that is wanting
  abbrev pub Told :
      (P → Machine M E) → (T → M) → (P → List M → ℕ → Option E) → Hall P T E R M g → ℕ
      → Pass P T E R M g → Asked → Type 0
  Told machine meaning legal hall who pass (asked.Came d) =
      OnNone (HasNone machine legal hall who) d
  Told machine meaning legal hall who pass (asked.Needs p) =
      (p < (machine (rules_of hall)).places)
      × (IsHeld (meant meaning (in_hand pass)) p → ⊥)
