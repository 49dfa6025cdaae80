-- What is proved of rules whose parts keep notes. Each statement is the contract of a function in
-- src/laws.rt.
use Rattle.std.specs.Prelude.{ℕ, Bool, List, Option}
use Rattle.be_hall.specs.Machine.{Machine, Lawful, Legal}
use Rattle.be_turns.specs.Turning.{Turning}
use Rattle.be_serial.specs.Running.{NeverStuck}
use Rattle.be_noting.specs.Histories.{TellsAll}
use Rattle.be_noting.specs.Noting.{Noted, meanings, closed_of, legal_of, noting}

module _ {M E : Type 0} (x : Machine M E) where
  abbrev pub LawfulWithNotes : Type 0
  LawfulWithNotes = (told : List M → E → List ℕ) → Lawful (noting x told)

  abbrev pub HistoriesTellAll : Type 0
  HistoriesTellAll =
      (told : List M → E → List ℕ) (opening : List (Noted M ℕ)) (history : List E)
      → x.sound (meanings opening) → Legal (noting x told) opening history
      → TellsAll x told opening history

  module _ (legal : List M → ℕ → Option E) (stops : E → Bool) (many : ℕ) where
    abbrev pub TurnsWithNotes : Type 0
    TurnsWithNotes =
        (told : List M → E → List ℕ) → Turning (noting x told) (legal_of legal) stops many

    abbrev pub GoesOnWithNotes : (List M → Bool) → Type 0
    GoesOnWithNotes closed =
        (told : List M → E → List ℕ)
        → NeverStuck (noting x told) (legal_of legal) stops many (closed_of closed)
