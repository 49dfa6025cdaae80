-- The log of a part in hand gets room, and an entry.
use Rattle.std.specs.Prelude.{◌≡◌, ◌<◌, ℕ, true, is_some, List, [], ◌∷◌, ◌++◌, Some}
use Rattle.be_hall.specs.Hands.{part_at, with_part}
use Rattle.be_machine.specs.declared.Entry.{Entry}
use Rattle.be_parts.specs.Parts.{log_of, logged_of, meaning_of, notes_of, spare_of}
use Rattle.be_parts.specs.declared.part.Part.{Part}

-- the part at this place is in hand, and keeps entries
abbrev pub KeepsEntries : List (ℕ × Part) → ℕ → Type 0
KeepsEntries parts place =
    (x : Part) × (part_at parts place ≡ Some x) × (is_some (logged_of x) ≡ true)

-- there is room for one more
abbrev pub TakesEntry : List (ℕ × Part) → ℕ → Type 0
TakesEntry parts place = (x : Part) × (part_at parts place ≡ Some x) × (0 < spare_of x)

-- one part changed nothing but the room for its entries and notes
pub record HasOtherRoom (place : ℕ) (old new : List (ℕ × Part)) : Type 0 where
  pub was : Part
  pub is : Part
  pub before : part_at old place ≡ Some was
  pub after_is : new ≡ with_part old place is
  pub means : meaning_of is ≡ meaning_of was
  pub log : log_of is ≡ log_of was
  pub notes : notes_of is ≡ notes_of was

-- one part keeps this entry and this note behind its others
pub record HasEntered
    (place number : ℕ) (entry : Entry) (note : List ℕ) (old new : List (ℕ × Part))
    : Type 0 where
  pub was : Part
  pub is : Part
  pub before : part_at old place ≡ Some was
  pub after_is : new ≡ with_part old place is
  pub means : meaning_of is ≡ meaning_of was
  pub log : log_of is ≡ log_of was ++ (number, entry) ∷ []
  pub notes : notes_of is ≡ notes_of was ++ note
