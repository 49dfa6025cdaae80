-- What becomes of a pane in a change of the desk (this project's own).
use Rattle.std.specs.Prelude.{◌≡◌, ◌<◌, ℕ, ◌==◌, ◌-ℤ◌, List, length, Ok, Option, Some, map}
use Rattle.std.specs.Prelude.{slice_get, if◌then◌else◌}
use Rattle.be_geom.specs.declared.change.Change.{Change}
use Rattle.be_geom.specs.declared.point.Point.{Point}
use Rattle.be_input.specs.Pointing.{corner_of}
use Rattle.be_pane.specs.declared.pane.Pane.{Pane}
use Rattle.be_desk.specs.Affected.{HasAltered}
use Rattle.be_desk.specs.Changes as machine
use Rattle.be_desk.specs.Changes.{Desk, desk_after, motion_of}
use Rattle.be_desk.specs.Desks.{IsPaired}
use Rattle.be_desk.specs.Plans.{ArePanesOf, AreRenewed}
use Rattle.be_desk.specs.declared.planned.Renewed.{Renewed}
use Rattle.be_desk.specs.declared.renewal.Motion.{Motion}
use Rattle.be_desk.specs.declared.renewal.Motion.TheVariants.{Still, Moving, Resizing}
use Rattle.be_desk.specs.declared.renewal.Renewal.{Renewal}

-- the machine's motion of a window whose left top was at one point and is at the other
abbrev pub motion_by : machine.Motion → Point → Point → Motion
motion_by machine.still old new = Still
motion_by machine.moving old new = Moving (new.x -ℤ old.x) (new.y -ℤ old.y)
motion_by machine.resizing old new = Resizing

-- only the changed window moves or is resized
abbrev pub motion_in : ℕ → Change → ℕ → Point → Point → Motion
motion_in w change u old new = if u == w then motion_by (motion_of change) old new else Still

-- a pane's window is where the desk has it afterwards, with its views, and keeps its pixels as the
-- change does
pub record IsRenewalIn (after : Desk) (w : ℕ) (change : Change) (r : Renewal) : Type 0 where
  pub place : corner_of after.windows r.pane.now.window ≡ Some r.place
  pub views : slice_get after.pointing.trees r.pane.now.window ≡ Some r.tree.now
  pub motion : r.motion ≡ motion_in w change r.pane.now.window r.pane.now.place r.place

-- a change that isn't refused, with the panes of the windows that it alters
pub record IsChange (before after : Desk) (w : ℕ) (change : Change) (panes : List Pane) : Type 0
  where
    pub paired : IsPaired before
    pub taken : desk_after before w change ≡ Ok after
    pub panes_of : ArePanesOf before panes
    pub named : HasAltered before.windows after.windows (map (λ pane. pane.window) panes)

-- as many spans as panes up to a place, each its pane's after the change
pub record AreChangedTo (before after : Desk) (w : ℕ) (change : Change) (panes : List Pane)
    (spans : List (Option Renewed)) (n : ℕ) : Type 0 where
  pub each : length spans ≡ n
  pub are : (k : ℕ) (pane : Pane) (these : Option Renewed) → k < n → slice_get panes k ≡ Some pane
      → slice_get spans k ≡ Some these
      → AreRenewed before after w change panes pane these
