-- What clauses see of a part whose activity keeps its entries there.
use Rattle.std.specs.Global.{Vec}
use Rattle.std.specs.List.{flat_map}
use Rattle.std.specs.Prelude.{◌≡◌, ℕ, List, [], Option}
use Rattle.std.specs.Option.{option_map_or}
use Rattle.be_machine.specs.declared.Entry.{Entry}
use Rattle.be_rules.specs.Slices.{Slice}

-- texts behind each other
abbrev pub joined : List (Vec ℕ) → List ℕ
joined texts = flat_map (λ text. text.items) texts

-- what was noted of one entry, which may be nothing
abbrev pub note_in : Option (Vec ℕ) → List ℕ
note_in note = option_map_or (λ text. text.items) note []

pub record Logged : Type 0 where
  -- the entries, each with its number in the history
  pub pairs : List (ℕ × Entry)
  -- for how many more there is room
  pub spare : ℕ
  -- what was noted of them
  pub notes : List ℕ

-- without an entry and a note
abbrev pub IsUnwritten : Logged → Type 0
IsUnwritten log = (log.pairs ≡ []) × (log.notes ≡ [])

pub record Kept : Type 0 where
  pub slice : Slice
  pub log : Logged
