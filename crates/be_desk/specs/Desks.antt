-- The desk as the code has it, and what its callers keep true of it (this project's own).
use Rattle.std.specs.Prelude.{◌≡◌, ℕ, pos, ◌-ℤ◌, ◌<◌, true, List, length, Option, Some, None}
use Rattle.std.specs.Prelude.{Result, Ok, Err, slice_get, slice_set, option_and_then}
use Rattle.be_geom.specs.declared.change.Change.{Change}
use Rattle.be_geom.specs.declared.change.Change.TheVariants.{Show, Hide, MoveTo, MoveBy, ResizeTo}
use Rattle.be_geom.specs.declared.change.Change.TheVariants.{Activate, Behind, Focus, Close}
use Rattle.be_geom.specs.declared.rect.Rect.{Rect}
use Rattle.be_geom.specs.Rects.{moved_rect}
use Rattle.be_input.specs.Pointing.{Pointing}
use Rattle.be_stack.specs.declared.fault.ChangeFault as change
use Rattle.be_stack.specs.declared.fault.ChangeFault.TheVariants as refused
use Rattle.be_stack.specs.declared.window.Window.{Window}
use Rattle.be_stack.specs.Limits.{is_within_limits, is_named_there}
use Rattle.be_stack.specs.Windows.{Windows}
use Rattle.be_views.specs.Trees.{Tree, View}
use Rattle.be_desk.specs.Changes.{Desk}
use Rattle.be_desk.specs.declared.desk.Desk as code
use Rattle.be_desk.specs.declared.fault.PlanFault.{PlanFault}
use Rattle.be_desk.specs.declared.fault.PlanFault.TheVariants.{Gone, OffRange, NoMemory}

-- the code's desk as the machine's
abbrev pub desk_of : code.Desk → Desk
desk_of desk = record { windows = desk.stack; pointing = desk.pointing }

-- the root among a window's views
abbrev pub root_of : List Tree → ℕ → Option View
root_of trees u = option_and_then (λ tree. slice_get tree 0) (slice_get trees u)

-- a frame as it is seen from its left top
abbrev pub at_origin : Rect → Rect
at_origin r = moved_rect r (pos 0 -ℤ r.left) (pos 0 -ℤ r.top)

-- a view that lies in none and has the window's frame as it is seen from the frame's left top
pub record IsRootIn (window : Window) (root : View) : Type 0 where
  pub top : root.parent ≡ None
  pub frame : root.frame ≡ at_origin window.frame

-- there are views for each window, and their root is the window's
pub record IsPaired (desk : Desk) : Type 0 where
  pub each : length desk.pointing.trees ≡ length desk.windows.windows
  pub rooted : (u : ℕ) (window : Window) (root : View)
      → slice_get desk.windows.windows u ≡ Some window → root_of desk.pointing.trees u ≡ Some root
      → IsRootIn window root

-- what may be asked of the desk: a change within its limits, of a window that is there and by one
-- that is there
pub record IsAsked (desk : Desk) (w : ℕ) (change : Change) : Type 0 where
  pub paired : IsPaired desk
  pub there : w < length desk.windows.windows
  pub named_there : is_named_there desk.windows change ≡ true
  pub within_limits : is_within_limits change ≡ true

-- a refusal has the machine's cause, but for want of memory, which may come at any time
abbrev pub IsRefusedFor : Result Desk change.ChangeFault → PlanFault → Type 0
IsRefusedFor after Gone = after ≡ Err refused.Gone
IsRefusedFor after OffRange = after ≡ Err refused.OffRange
IsRefusedFor after NoMemory = Unit {0}

-- the machine takes the change
abbrev pub IsTaken : Result Desk change.ChangeFault → Type 0
IsTaken (Ok after) = Unit {0}
IsTaken (Err fault) = ⊥

-- ---- the desk with what a change makes anew

-- the views of a window, where they are others now
abbrev pub trees_with : List Tree → ℕ → Option Tree → List Tree
trees_with trees w (Some tree) = slice_set trees w tree
trees_with trees w None = trees

-- a focus changes who has it
abbrev pub focus_with : List (Option ℕ) → ℕ → Change → List (Option ℕ)
focus_with focus w (Focus view) = slice_set focus w view
focus_with focus w Show = focus
focus_with focus w Hide = focus
focus_with focus w (MoveTo corner) = focus
focus_with focus w (MoveBy dx dy) = focus
focus_with focus w (ResizeTo width height) = focus
focus_with focus w Activate = focus
focus_with focus w (Behind front) = focus
focus_with focus w Close = focus

abbrev pub pointing_with : Pointing → ℕ → Change → Option Tree → Pointing
pointing_with pointing w change tree =
    record pointing {
      trees = trees_with pointing.trees w tree;
      focus = focus_with pointing.focus w change;
    }

-- the desk with these windows, and with these views of window w where it has others
abbrev pub desk_with_both : Desk → ℕ → Change → Windows → Option Tree → Desk
desk_with_both desk w change windows tree =
    record { windows = windows; pointing = pointing_with desk.pointing w change tree }
