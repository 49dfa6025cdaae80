-- A part that a step needs.
use Rattle.std.specs.Prelude.{ℕ, List}
use Rattle.be_asking.specs.Finding.{IsReachable}
use Rattle.be_hall.specs.Hands.{meant}
use Rattle.be_hall.specs.Machine.{IsHeld}
use Rattle.be_machine.specs.Touched as part
use Rattle.be_parts.specs.Parts.{meaning_of}
use Rattle.be_parts.specs.declared.part.Part.{Part}
use Rattle.be_rules.specs.Places.{place_of}
use Rattle.be_script.specs.Script.{Declared}

-- it is one of the script's, and in hand
pub record IsThere (d : Declared) (parts : List (ℕ × Part)) (x : part.Part) : Type 0 where
  pub reachable : IsReachable d parts x
  pub held : IsHeld (meant meaning_of parts) (place_of d x)
