-- What becomes of an entry with the parts in hand.
use Rattle.std.specs.Prelude.{ℕ, List}
use Rattle.be_hall.specs.Answers.{Answers}
use Rattle.be_hall.specs.Hands.{meant}
use Rattle.be_hall.specs.declared.parts.Verdict.{Verdict}
use Rattle.be_machine.specs.declared.Entry.{Entry}
use Rattle.be_parts.specs.Parts.{meaning_of, spare_of}
use Rattle.be_parts.specs.declared.part.Part.{Part}
use Rattle.be_rules.specs.Rules.{world_machine}
use Rattle.be_rules.specs.Slices.{Slice}
use Rattle.be_script.specs.Script.{Declared}
use Rattle.be_world.specs.Suits.{IsPrepared}
use Rattle.be_world.specs.declared.preparing.ReadyEntry.{ReadyEntry}
use Rattle.be_world.specs.declared.work.Work.{Work}

abbrev pub entry_in : ReadyEntry → Entry
entry_in ready = ready.entry

abbrev pub work_in : ReadyEntry → Work
work_in ready = ready.made

-- what the parts meant from which it was seen that the entry may be made
abbrev pub seen_in : ReadyEntry → List (ℕ × Slice)
seen_in ready = meant meaning_of ready.seen.value.parts

-- what was made suits whatever its activity wants
abbrev pub IsPreparedEntry : Declared → List (ℕ × Part) → ReadyEntry → Type 0
IsPreparedEntry d parts ready = IsPrepared d parts ready.entry.actor ready.made

-- this holds of the entry, whatever the other parts are
abbrev pub IsVerdict : Declared → List (ℕ × Part) → Entry → Verdict ReadyEntry → Type 0
IsVerdict d parts e =
    Answers (world_machine d) (meant meaning_of parts) (meant spare_of parts) entry_in seen_in
    (IsPreparedEntry d parts) e
