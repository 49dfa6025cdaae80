-- What the maker of an entry notes of it, known before the entry.
use Rattle.std.specs.Prelude.{◌≡◌, ℕ, List, Some}
use Rattle.be_asking.specs.Wants.{activity_in}
use Rattle.be_asking.specs.declared.activity.Activity.{Activity}
use Rattle.be_hall.specs.Hands.{meant}
use Rattle.be_hall.specs.Machine.{Fits}
use Rattle.be_machine.specs.Activities.{activity_of}
use Rattle.be_machine.specs.declared.Entry.{Entry}
use Rattle.be_parts.specs.Parts.{meaning_of}
use Rattle.be_parts.specs.declared.part.Part.{Part}
use Rattle.be_rules.specs.Rules.{IsSound}
use Rattle.be_rules.specs.Slices.{Slice, state_of}
use Rattle.be_script.specs.Script.{Declared}
use Rattle.be_written.specs.Notings.{entry_text}

-- in every sound list with these parts, this is the text of each entry of the activity, whatever
-- its act
abbrev pub IsNoted : Declared → List (ℕ × Part) → Activity → List ℕ → Type 0
IsNoted d parts who text =
    (e : Entry) → activity_of d e.actor ≡ Some (activity_in who)
    → (all : List Slice) → IsSound d all → Fits all (meant meaning_of parts)
    → entry_text d (state_of d all) e ≡ text

-- the same of the activity of this number
abbrev pub IsNotedBy : Declared → List (ℕ × Part) → ℕ → List ℕ → Type 0
IsNotedBy d parts number text =
    (e : Entry) → e.actor ≡ number
    → (all : List Slice) → IsSound d all → Fits all (meant meaning_of parts)
    → entry_text d (state_of d all) e ≡ text
