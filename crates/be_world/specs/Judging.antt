-- What is told of an entry that may be made.
use Rattle.std.specs.Prelude.{◌≡◌, ℕ, List}
use Rattle.be_hall.specs.Hands.{meant}
use Rattle.be_hall.specs.Machine.{Fits, IsReady}
use Rattle.be_hall.specs.declared.parts.Verdict.{Verdict}
use Rattle.be_hall.specs.declared.parts.Verdict.TheVariants.{Ready, NotLegal, Needs}
use Rattle.be_machine.specs.Legal.{IsLegal}
use Rattle.be_machine.specs.declared.Entry.{Entry}
use Rattle.be_parts.specs.Parts.{meaning_of}
use Rattle.be_parts.specs.declared.part.Part.{Part}
use Rattle.be_rules.specs.Found.{NeedsPart}
use Rattle.be_rules.specs.Rules.{IsSound, world_machine}
use Rattle.be_rules.specs.Slices.{Slice, state_of}
use Rattle.be_script.specs.Script.{Declared}
use Rattle.be_world.specs.Suits.{IsPrepared}
use Rattle.be_world.specs.declared.work.Work.{Work}

-- what holds of the entry in every sound list with these parts: it is legal and touches these parts
-- alone, and this was made for it; or it is not; or it touches one more
abbrev pub IsJudged : Declared → List (ℕ × Part) → Entry → Verdict (Entry × Work) → Type 0
IsJudged d parts e (Ready made) =
    (made.0 ≡ e) × IsReady (world_machine d) (meant meaning_of parts) e
    × IsPrepared d parts e.actor made.1
IsJudged d parts e NotLegal =
    (all : List Slice) → IsSound d all → Fits all (meant meaning_of parts)
    → IsLegal d (state_of d all) e → ⊥
IsJudged d parts e (Needs p) = NeedsPart d (meant meaning_of parts) e.actor p
