-- When a change of a window can be planned with the parts in hand.
use Rattle.std.specs.Prelude.{ℕ, List}
use Rattle.be_desk.specs.Changes.{Desk}
use Rattle.be_desk.specs.Desks.{IsAsked}
use Rattle.be_geom.specs.declared.change.Change.{Change}
use Rattle.be_hall.specs.Hands.{meant}
use Rattle.be_hall.specs.Machine.{SomeFits}
use Rattle.be_machine.specs.Touched as part
use Rattle.be_parts.specs.Parts.{meaning_of}
use Rattle.be_parts.specs.declared.part.Part.{Part}
use Rattle.be_changes.specs.Planned.{HasDesk, IsStirredBy}
use Rattle.be_rules.specs.Rules.{world_machine}
use Rattle.be_script.specs.Limits.{IsWithinLimits}
use Rattle.be_script.specs.Script.{Declared}
use Rattle.be_steps.specs.There.{IsThere}

-- the desk in hand is this one and may be asked for the change of window w, and the pane of each
-- window that the change stirs is in hand
pub record IsPlannable
    (d : Declared) (parts : List (ℕ × Part)) (known : Desk) (w : ℕ) (change : Change)
    : Type 0 where
  pub limits : IsWithinLimits d
  pub fitting : SomeFits (world_machine d) (meant meaning_of parts)
  pub at_desk : HasDesk d parts known
  pub asked : IsAsked known w change
  pub there : (u : ℕ) → IsStirredBy known w change u → IsThere d parts (part.pane u)
