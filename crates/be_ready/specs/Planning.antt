-- What is made ready of a change of a window.
use Rattle.std.specs.Prelude.{◌≡◌, ℕ, List, Result, Err}
use Rattle.be_desk.specs.Changes.{Desk}
use Rattle.be_desk.specs.Desks.{IsRefusedFor}
use Rattle.be_desk.specs.declared.fault.PlanFault.{PlanFault}
use Rattle.be_geom.specs.declared.change.Change.{Change}
use Rattle.be_parts.specs.declared.part.Part.{Part}
use Rattle.be_changes.specs.Planned.{IsPlannedIn, IsRefusedIn}
use Rattle.be_ready.specs.declared.planning.Planning.{Planning}
use Rattle.be_ready.specs.declared.planning.Planning.TheVariants.{Planned, Refused}
use Rattle.be_script.specs.Script.{Declared}
use Rattle.be_stack.specs.declared.fault.ChangeFault.{ChangeFault}

-- the plan of this change of window w, or that the desk refuses the change
abbrev pub IsPlanning : Declared → List (ℕ × Part) → ℕ → Change → Planning → Type 0
IsPlanning d parts w change (Planned plan places) =
    (plan.window ≡ w) × (plan.change ≡ change) × IsPlannedIn d parts plan places.items
IsPlanning d parts w change Refused = IsRefusedIn d parts w

-- it is a refusal, and comes of a fault that is one
abbrev pub IsRefusal : PlanFault → Planning → Type 0
IsRefusal fault planning =
    (planning ≡ Refused)
    × ((after : Result Desk ChangeFault) → IsRefusedFor after fault
    → (cause : ChangeFault) × (after ≡ Err cause))
