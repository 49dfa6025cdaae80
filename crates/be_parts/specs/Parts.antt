-- What a part means, and the entries that it keeps. No activity keeps its entries in the desk, in a
-- port or in a link.
use Rattle.std.specs.Prelude.{◌≡◌, ℕ, List, [], Option, Some, None}
use Rattle.std.specs.Option.{option_map_or}
use Rattle.be_hall.specs.Hands.{Hand, with_part}
use Rattle.be_machine.specs.declared.Entry.{Entry}
use Rattle.be_parts.specs.Kept.{Logged}
use Rattle.be_parts.specs.declared.part.Part.{Part}
use Rattle.be_parts.specs.declared.part.Part.TheVariants.{Desk, Input, Cell, Looper, Port, Link}
use Rattle.be_parts.specs.declared.part.Part.TheVariants.{Pane}
use Rattle.be_rules.specs.Slices.{Slice}

abbrev pub meaning_of : Part → Slice
meaning_of (Desk slice) = slice
meaning_of (Input p) = p.slice
meaning_of (Cell p) = p.slice
meaning_of (Looper p) = p.slice
meaning_of (Port slice) = slice
meaning_of (Link slice) = slice
meaning_of (Pane p) = p.slice

abbrev pub logged_of : Part → Option Logged
logged_of (Desk slice) = None
logged_of (Input p) = Some p.log
logged_of (Cell p) = Some p.log
logged_of (Looper p) = Some p.log
logged_of (Port slice) = None
logged_of (Link slice) = None
logged_of (Pane p) = Some p.log

abbrev pub log_of : Part → List (ℕ × Entry)
log_of part = option_map_or (λ log. log.pairs) (logged_of part) []

abbrev pub spare_of : Part → ℕ
spare_of part = option_map_or (λ log. log.spare) (logged_of part) 0

-- what was noted of the entries
abbrev pub notes_of : Part → List ℕ
notes_of part = option_map_or (λ log. log.notes) (logged_of part) []

-- nothing is kept there
abbrev pub IsBlank : Part → Type 0
IsBlank part = (log_of part ≡ []) × (notes_of part ≡ [])

-- with another log, where there is one
abbrev pub with_log : Part → Logged → Part
with_log (Desk slice) log = Desk slice
with_log (Input p) log = Input record p { log = log }
with_log (Cell p) log = Cell record p { log = log }
with_log (Looper p) log = Looper record p { log = log }
with_log (Port slice) log = Port slice
with_log (Link slice) log = Link slice
with_log (Pane p) log = Pane record p { log = log }

-- the parts in hand, with another one at this place
abbrev pub hand_with : Hand Part → ℕ → Part → Hand Part
hand_with held place part =
    record { parts = with_part held.parts place part; room = held.room }
