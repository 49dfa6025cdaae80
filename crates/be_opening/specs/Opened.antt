-- The parts of the opening, kind by kind.
use Rattle.std.specs.Prelude.{◌≡◌, List, ◌++◌, map, All}
use Rattle.be_script.specs.Script.{Declared}
use Rattle.be_machine.specs.State.{opening_state}
use Rattle.be_machine.specs.Touched as machine
use Rattle.be_parts.specs.Parts.{IsBlank, meaning_of}
use Rattle.be_parts.specs.declared.part.Part.{Part}
use Rattle.be_rules.specs.Slices.{slice_of}

-- behind the old ones stand those that mean these parts of the opening state, without entries and
-- notes
pub record HasMore (d : Declared) (more : List machine.Part) (old new : List Part) : Type 0 where
  pub meant :
      map meaning_of new ≡ map meaning_of old ++ map (slice_of (opening_state d)) more
  pub blank : All IsBlank old → All IsBlank new
