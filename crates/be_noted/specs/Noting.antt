-- The rules of a script's run whose parts keep what is noted.
use Rattle.std.specs.Prelude.{ℕ, Bool, List, Option}
use Rattle.be_hall.specs.Answers.{Answers}
use Rattle.be_hall.specs.Hands.{meant}
use Rattle.be_hall.specs.declared.parts.Verdict.{Verdict}
use Rattle.be_machine.specs.declared.Entry.{Entry}
use Rattle.be_noting.specs.Noting.{Noted, meanings}
use Rattle.be_parts.specs.Kept.{note_in}
use Rattle.be_parts.specs.Parts.{meaning_of, notes_of, spare_of}
use Rattle.be_parts.specs.declared.part.Part.{Part}
use Rattle.be_rules.specs.Slices.{Slice}
use Rattle.be_script.specs.Script.{Declared}
use Rattle.be_world.specs.Preparing.{IsPreparedEntry, entry_in}
use Rattle.be_world.specs.Turns.{has_stopped, legal_entry}
use Rattle.be_jotted.specs.Jotting.{noted_machine}
use Rattle.be_noted.specs.Noted.{IsNotedBy}
use Rattle.be_noted.specs.declared.parts.NotedEntry.{NotedEntry}

abbrev pub noted_of : Part → Noted Slice ℕ
noted_of part = record { means = meaning_of part; notes = notes_of part }

-- the same activities, whose entries the notes don't change
abbrev pub noted_legal : Declared → List (Noted Slice ℕ) → ℕ → Option Entry
noted_legal d all activity = legal_entry d (meanings all) activity

abbrev pub noted_stopped : Declared → List (Noted Slice ℕ) → Bool
noted_stopped d all = has_stopped d (meanings all)

-- ---- an entry that may be made

abbrev pub noted_entry : NotedEntry → Entry
noted_entry it = entry_in it.ready

abbrev pub noted_seen : NotedEntry → List (ℕ × Noted Slice ℕ)
noted_seen it = meant noted_of it.seen.value.parts

-- what was made suits whatever its activity wants, and this is what it notes
abbrev pub IsNotedEntry : Declared → List (ℕ × Part) → NotedEntry → Type 0
IsNotedEntry d parts it =
    IsPreparedEntry d parts it.ready
    × IsNotedBy d parts (entry_in it.ready).actor (note_in it.note)

-- this holds of the entry, whatever the other parts are
abbrev pub IsNotedVerdict : Declared → List (ℕ × Part) → Entry → Verdict NotedEntry → Type 0
IsNotedVerdict d parts e =
    Answers (noted_machine d) (meant noted_of parts) (meant spare_of parts) noted_entry noted_seen
    (IsNotedEntry d parts) e
