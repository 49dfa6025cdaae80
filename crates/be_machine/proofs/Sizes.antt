-- A change keeps how many windows and view trees there are, for how many the focus is known, and the size of the screen.
use Rattle.std.proofs.Common.{◌≡◌, ℕ, Bool, true, false, length, Option, Some, None, Result, Ok, Err, refl, length-set}
use Rattle.std.specs.Prelude.{◌-ℤ◌, ◌==◌, slice_get, option_and_then, if◌then◌else◌}
use Rattle.be_desk.specs.Changes.{Desk, desk_after, desk_with, desk_unless, with_tree}
use Rattle.be_geom.specs.declared.change.Change.{Change}
use Rattle.be_geom.specs.declared.change.Change.TheVariants.{Show, Hide, MoveTo, MoveBy, ResizeTo, Activate, Behind, Focus, Close}
use Rattle.be_geom.specs.declared.rect.Rect.{Rect}
use Rattle.be_geom.specs.Rects.{moved_rect}
use Rattle.be_stack.specs.Changes as stack
use Rattle.be_stack.specs.Changes.{within_range, resized_rect, windows_after, is_gone}
use Rattle.be_stack.specs.declared.fault.ChangeFault.{ChangeFault}
use Rattle.be_stack.specs.declared.window.Window.{Window}
use Rattle.be_stack.specs.Windows.{Windows}
use Rattle.be_views.specs.Resizing.{resized}
use Rattle.be_views.specs.Trees.{Tree}

-- ---- windows

-- as many windows on a screen of the same size
pub record IsAsLarge (s t : Windows) : Type 0 where
  pub windows : length t.windows ≡ length s.windows
  pub width : t.width ≡ s.width
  pub height : t.height ≡ s.height

as_large : (s : Windows) → IsAsLarge s s
as_large s = record { windows = refl; width = refl; height = refl }

abbrev KeepsSizes : Windows → Result Windows ChangeFault → Type 0
KeepsSizes s (Ok t) = IsAsLarge s t
KeepsSizes s (Err f) = Unit {0}

framed_sizes : (s : Windows) (w : ℕ) (window : Window) (r : Result Rect ChangeFault) → KeepsSizes s (stack.framed s w window r)
framed_sizes s w window (Ok frame) = record { windows = length-set s.windows w _; width = refl; height = refl }
framed_sizes s w window (Err f) = tt

behind_sizes : (b : Bool) (s t : Windows) → IsAsLarge s t → IsAsLarge s (if b then s else t)
behind_sizes true s t h = as_large s
behind_sizes false s t h = h

change_sizes : (s : Windows) (w : ℕ) (window : Window) (change : Change) → KeepsSizes s (stack.changed s w window change)
change_sizes s w window Show = record { windows = length-set s.windows w _; width = refl; height = refl }
change_sizes s w window Hide = record { windows = length-set s.windows w _; width = refl; height = refl }
change_sizes s w window (MoveTo corner) = framed_sizes s w window (within_range (moved_rect window.frame (corner.x -ℤ window.frame.left) (corner.y -ℤ window.frame.top)))
change_sizes s w window (MoveBy dx dy) = framed_sizes s w window (within_range (moved_rect window.frame dx dy))
change_sizes s w window (ResizeTo width height) = framed_sizes s w window (within_range (resized_rect window.frame width height))
change_sizes s w window Activate = record { windows = refl; width = refl; height = refl }
change_sizes s w window (Behind other) = behind_sizes (w == other) s _ (record { windows = refl; width = refl; height = refl })
change_sizes s w window (Focus view) = as_large s
change_sizes s w window Close = record { windows = length-set s.windows w _; width = refl; height = refl }

at_sizes : (s : Windows) (w : ℕ) (o : Option Window) (change : Change) → KeepsSizes s (stack.changed_at s w o change)
at_sizes s w (Some window) change = change_sizes s w window change
at_sizes s w None change = tt

gone_sizes : (s : Windows) (b : Bool) (f : ChangeFault) (r : Result Windows ChangeFault) → KeepsSizes s r → KeepsSizes s (if b then Err f else r)
gone_sizes s true f r h = tt
gone_sizes s false f r h = h

windows_sizes : (s : Windows) (w : ℕ) (change : Change) → KeepsSizes s (windows_after s w change)
unfolding windows_after
windows_sizes s w change = gone_sizes s (is_gone s.windows w change) _ _ (at_sizes s w (slice_get s.windows w) change)

-- ---- desks

-- as many windows, view trees and windows with a focus
pub record IsAsMany (desk new : Desk) : Type 0 where
  pub sizes : IsAsLarge desk.windows new.windows
  pub trees : length new.pointing.trees ≡ length desk.pointing.trees
  pub focus : length new.pointing.focus ≡ length desk.pointing.focus

pub as_many : (desk : Desk) → IsAsMany desk desk
as_many desk = record { sizes = as_large desk.windows; trees = refl; focus = refl }

abbrev pub KeepsCounts : Desk → Result Desk ChangeFault → Type 0
KeepsCounts desk (Ok new) = IsAsMany desk new
KeepsCounts desk (Err f) = Unit {0}

with_sizes_tree : (desk : Desk) (windows : Windows) (w : ℕ) (o : Option Tree) → IsAsLarge desk.windows windows → KeepsCounts desk (with_tree desk windows w o)
with_sizes_tree desk windows w (Some tree) h = record { sizes = h; trees = length-set desk.pointing.trees w tree; focus = refl }
with_sizes_tree desk windows w None h = tt

with_sizes : (desk : Desk) (w : ℕ) (windows : Windows) (change : Change) → IsAsLarge desk.windows windows → KeepsCounts desk (desk_with desk w windows change)
with_sizes desk w windows (ResizeTo width height) h = with_sizes_tree desk windows w (option_and_then (λ tree. resized tree width height) (slice_get desk.pointing.trees w)) h
with_sizes desk w windows (Focus view) h = record { sizes = h; trees = refl; focus = length-set desk.pointing.focus w view }
with_sizes desk w windows Show h = record { sizes = h; trees = refl; focus = refl }
with_sizes desk w windows Hide h = record { sizes = h; trees = refl; focus = refl }
with_sizes desk w windows (MoveTo corner) h = record { sizes = h; trees = refl; focus = refl }
with_sizes desk w windows (MoveBy dx dy) h = record { sizes = h; trees = refl; focus = refl }
with_sizes desk w windows Activate h = record { sizes = h; trees = refl; focus = refl }
with_sizes desk w windows (Behind other) h = record { sizes = h; trees = refl; focus = refl }
with_sizes desk w windows Close h = record { sizes = h; trees = refl; focus = refl }

unless_sizes : (desk : Desk) (w : ℕ) (change : Change) (r : Result Windows ChangeFault) → KeepsSizes desk.windows r → KeepsCounts desk (desk_unless desk w change r)
unless_sizes desk w change (Ok windows) h = with_sizes desk w windows change h
unless_sizes desk w change (Err f) h = tt

pub desk_sizes : (desk : Desk) (w : ℕ) (change : Change) → KeepsCounts desk (desk_after desk w change)
unfolding desk_after
desk_sizes desk w change = unless_sizes desk w change (windows_after desk.windows w change) (windows_sizes desk.windows w change)
