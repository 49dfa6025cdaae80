-- What the desk's slice tells, and what a planned change makes of it.
use Rattle.std.specs.Prelude.{◌≡◌, ℕ, Ok, Option}
use Rattle.be_desk.specs.Changes.{Desk, desk_after}
use Rattle.be_desk.specs.Plans.{IsDeskPlan, Planned}
use Rattle.be_rules.specs.Slices.{Slice, desk}

-- the change was planned for this desk
abbrev pub IsPlanFor : Planned → Slice → Type 0
IsPlanFor plan slice = (x : Desk) × (slice ≡ desk x) × IsDeskPlan plan x

-- the desk after the change
abbrev pub IsChangedBy : Planned → Slice → Slice → Type 0
IsChangedBy plan old new =
    (x y : Desk) × (old ≡ desk x) × (new ≡ desk y) × (desk_after x plan.window plan.change ≡ Ok y)

-- something else is under the pointer
abbrev pub under_in : Option (ℕ × ℕ) → Desk → Desk
under_in under d = record d { pointing = record d.pointing { under = under } }
