-- An entry that may be made with the parts in hand, and what it leaves.
use Rattle.std.specs.Prelude.{◌≡◌, ◌<◌, ◌≤◌, ℕ, ◌-◌, List}
use Rattle.be_hall.specs.Answers.{HasSpare}
use Rattle.be_hall.specs.Hands.{Hand, meant, places_of}
use Rattle.be_hall.specs.Logs.{appended}
use Rattle.be_hall.specs.Machine.{Fits, HeldFit, IsReady, SomeFits}
use Rattle.be_machine.specs.Activities.{activity_of}
use Rattle.be_machine.specs.Step.{step}
use Rattle.be_machine.specs.declared.Entry.{Entry}
use Rattle.be_noting.specs.Noting.{noted_in}
use Rattle.be_parts.specs.Parts.{log_of, meaning_of, notes_of, spare_of}
use Rattle.be_parts.specs.declared.part.Part.{Part}
use Rattle.be_rules.specs.Rules.{IsSound, SliceFits, kept_at, world_machine}
use Rattle.be_rules.specs.Slices.{Slice, slices, state_of}
use Rattle.be_script.specs.Limits.{IsWithinLimits}
use Rattle.be_script.specs.Script.{Declared}
use Rattle.be_world.specs.Suits.{IsPrepared}
use Rattle.be_world.specs.declared.preparing.ReadyEntry.{ReadyEntry}
use Rattle.be_world.specs.declared.work.Work.{Work}

-- the entry is legal and touches these parts alone, this was made for it, it is number n of its
-- history, and the log that keeps it has room
pub record MayPerform
    (d : Declared) (parts : List (ℕ × Part)) (e : Entry) (made : Work) (n : ℕ)
    : Type 0 where
  pub limits : IsWithinLimits d
  pub fitting : SomeFits (world_machine d) (meant meaning_of parts)
  pub number : (0 < n) × (n ≤ 4611686018427387904)
  pub fits : HeldFit SliceFits (n - 1) (meant meaning_of parts)
  pub prepared : IsPrepared d parts e.actor made
  pub ready : IsReady (world_machine d) (meant meaning_of parts) e
  pub spare : HasSpare (kept_at d (activity_of d e.actor)) (meant spare_of parts)

-- whatever the other parts are, those in hand mean what the entry leaves, and its activity's log
-- has it, with this note
pub record HasPerformed
    (d : Declared) (e : Entry) (note : List ℕ) (n : ℕ) (old new : Hand Part)
    : Type 0 where
  pub room : new.room ≡ old.room
  pub places : places_of new.parts ≡ places_of old.parts
  pub after :
      (all : List Slice) → IsSound d all → Fits all (meant meaning_of old.parts)
      → Fits (slices d (step d (state_of d all) e)) (meant meaning_of new.parts)
  pub fits : HeldFit SliceFits n (meant meaning_of new.parts)
  pub logs :
      meant log_of new.parts
      ≡ appended (kept_at d (activity_of d e.actor)) (n, e) (meant log_of old.parts)
  pub notes :
      meant notes_of new.parts
      ≡ noted_in (kept_at d (activity_of d e.actor)) note (meant notes_of old.parts)

-- the same of an entry that was made ready
abbrev pub MayMake : Declared → List (ℕ × Part) → ReadyEntry → ℕ → Type 0
MayMake d parts ready n = MayPerform d parts ready.entry ready.made n
