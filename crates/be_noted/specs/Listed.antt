-- The views that an update lists.
use Rattle.std.specs.Prelude.{◌≡◌, ℕ, List}
use Rattle.be_geom.specs.declared.rect.Rect.{Rect}
use Rattle.be_hall.specs.Hands.{meant}
use Rattle.be_hall.specs.Machine.{Fits}
use Rattle.be_machine.specs.Update.{listing_of}
use Rattle.be_parts.specs.Parts.{meaning_of}
use Rattle.be_parts.specs.declared.part.Part.{Part}
use Rattle.be_rules.specs.Rules.{IsSound}
use Rattle.be_rules.specs.Slices.{Slice, state_of}
use Rattle.be_script.specs.Script.{Declared}

-- those of an update of window w, in every sound list with these parts
abbrev pub IsListed : Declared → List (ℕ × Part) → ℕ → List (ℕ × Rect) → Type 0
IsListed d parts w views =
    (all : List Slice) → IsSound d all → Fits all (meant meaning_of parts)
    → listing_of (state_of d all) w ≡ views
