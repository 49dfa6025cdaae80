-- How full the buffer of a locked looper is, by the parts in hand.
use Rattle.std.specs.Prelude.{◌≡◌, ℕ, List, length, Option, Some, None, option_map}
use Rattle.be_hall.specs.Hands.{part_at}
use Rattle.be_parts.specs.declared.part.Part.{Part}
use Rattle.be_parts.specs.Parts.{meaning_of}
use Rattle.be_rules.specs.Places.{place_of}
use Rattle.be_rules.specs.Slices.{buffer_in}
use Rattle.be_script.specs.Script.{Declared}
use Rattle.be_machine.specs.Touched as part

-- the looper of the window is in hand, and so many commands are in its buffer; where no looper is
-- locked there are none
abbrev pub IsCount : Declared → List (ℕ × Part) → Option ℕ → ℕ → Type 0
IsCount d parts (Some w) n =
    (y : Part) × (part_at parts (place_of d (part.looper w)) ≡ Some y)
    × (option_map (λ b. length b.commands) (buffer_in (meaning_of y)) ≡ Some n)
IsCount d parts None n = n ≡ 0

-- the looper of the window belongs at this place, and isn't in hand
abbrev pub IsLacking : Declared → List (ℕ × Part) → Option ℕ → ℕ → Type 0
IsLacking d parts (Some w) p = (p ≡ place_of d (part.looper w)) × (part_at parts p ≡ None)
IsLacking d parts None p = ⊥
