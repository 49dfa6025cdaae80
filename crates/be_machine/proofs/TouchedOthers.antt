-- A change of one window leaves all others, and their views.
use Rattle.std.proofs.Common.{◌≡◌, ℕ, Bool, true, false, [], Option, Some, None, refl, Result, Ok, Err}
use Rattle.std.specs.Prelude.{slice_get, ◌-ℤ◌, ◌==◌, option_and_then, if◌then◌else◌}
use Rattle.be_facts.proofs.Lists.{set_other}
use Rattle.be_desk.specs.Changes.{Desk, desk_after, desk_with, desk_unless, with_tree}
use Rattle.be_geom.specs.declared.change.Change.{Change}
use Rattle.be_geom.specs.declared.change.Change.TheVariants.{Show, Hide, MoveTo, MoveBy, ResizeTo, Activate, Behind, Focus, Close}
use Rattle.be_geom.specs.declared.rect.Rect.{Rect}
use Rattle.be_geom.specs.Rects.{moved_rect}
use Rattle.be_stack.specs.Changes as stack
use Rattle.be_stack.specs.Changes.{within_range, resized_rect, windows_after, is_gone}
use Rattle.be_stack.specs.declared.fault.ChangeFault.{ChangeFault}
use Rattle.be_stack.specs.declared.window.Window.{Window}
use Rattle.be_stack.specs.Windows.{Windows}
use Rattle.be_views.specs.Resizing.{resized}
use Rattle.be_views.specs.Trees.{Tree}

-- the windows with this one as it was
abbrev KeepsOther : ℕ → Windows → Result Windows ChangeFault → Type 0
KeepsOther u s (Ok t) = slice_get t.windows u ≡ slice_get s.windows u
KeepsOther u s (Err f) = Unit {0}

framed_keeps : (s : Windows) (w u : ℕ) (window : Window) (r : Result Rect ChangeFault) → (u ≡ w → ⊥) → KeepsOther u s (stack.framed s w window r)
framed_keeps s w u window (Ok frame) other = set_other s.windows w u _ other
framed_keeps s w u window (Err f) other = tt

behind_keeps : (u : ℕ) (b : Bool) (s t : Windows) → slice_get t.windows u ≡ slice_get s.windows u → slice_get (if b then s else t).windows u ≡ slice_get s.windows u
behind_keeps u true s t h = refl
behind_keeps u false s t h = h

change_keeps : (s : Windows) (w u : ℕ) (window : Window) (change : Change) → (u ≡ w → ⊥) → KeepsOther u s (stack.changed s w window change)
change_keeps s w u window Show other = set_other s.windows w u _ other
change_keeps s w u window Hide other = set_other s.windows w u _ other
change_keeps s w u window (MoveTo corner) other = framed_keeps s w u window (within_range (moved_rect window.frame (corner.x -ℤ window.frame.left) (corner.y -ℤ window.frame.top))) other
change_keeps s w u window (MoveBy dx dy) other = framed_keeps s w u window (within_range (moved_rect window.frame dx dy)) other
change_keeps s w u window (ResizeTo width height) other = framed_keeps s w u window (within_range (resized_rect window.frame width height)) other
change_keeps s w u window Activate other = refl
change_keeps s w u window (Behind front) other = behind_keeps u (w == front) s _ refl
change_keeps s w u window (Focus view) other = refl
change_keeps s w u window Close other = set_other s.windows w u _ other

at_keeps : (s : Windows) (w u : ℕ) (o : Option Window) (change : Change) → (u ≡ w → ⊥) → KeepsOther u s (stack.changed_at s w o change)
at_keeps s w u (Some window) change other = change_keeps s w u window change other
at_keeps s w u None change other = tt

gone_keeps : (s : Windows) (u : ℕ) (b : Bool) (f : ChangeFault) (r : Result Windows ChangeFault) → KeepsOther u s r → KeepsOther u s (if b then Err f else r)
gone_keeps s u true f r h = tt
gone_keeps s u false f r h = h

windows_keep : (s : Windows) (w u : ℕ) (change : Change) → (u ≡ w → ⊥) → KeepsOther u s (windows_after s w change)
unfolding windows_after
windows_keep s w u change other = gone_keeps s u (is_gone s.windows w change) _ _ (at_keeps s w u (slice_get s.windows w) change other)

-- ... and its views
abbrev pub DeskKeepsOther : ℕ → Desk → Result Desk ChangeFault → Type 0
DeskKeepsOther u desk (Ok new) = (slice_get new.windows.windows u ≡ slice_get desk.windows.windows u) × (slice_get new.pointing.trees u ≡ slice_get desk.pointing.trees u)
DeskKeepsOther u desk (Err f) = Unit {0}

tree_keeps : (desk : Desk) (windows : Windows) (w u : ℕ) (o : Option Tree) → (u ≡ w → ⊥) → slice_get windows.windows u ≡ slice_get desk.windows.windows u → DeskKeepsOther u desk (with_tree desk windows w o)
tree_keeps desk windows w u (Some tree) other h = (h, set_other desk.pointing.trees w u tree other)
tree_keeps desk windows w u None other h = tt

with_keeps : (desk : Desk) (w u : ℕ) (windows : Windows) (change : Change) → (u ≡ w → ⊥) → slice_get windows.windows u ≡ slice_get desk.windows.windows u → DeskKeepsOther u desk (desk_with desk w windows change)
with_keeps desk w u windows (ResizeTo width height) other h = tree_keeps desk windows w u (option_and_then (λ tree. resized tree width height) (slice_get desk.pointing.trees w)) other h
with_keeps desk w u windows (Focus view) other h = (h, refl)
with_keeps desk w u windows Show other h = (h, refl)
with_keeps desk w u windows Hide other h = (h, refl)
with_keeps desk w u windows (MoveTo corner) other h = (h, refl)
with_keeps desk w u windows (MoveBy dx dy) other h = (h, refl)
with_keeps desk w u windows Activate other h = (h, refl)
with_keeps desk w u windows (Behind front) other h = (h, refl)
with_keeps desk w u windows Close other h = (h, refl)

unless_keeps : (desk : Desk) (w u : ℕ) (change : Change) (r : Result Windows ChangeFault) → (u ≡ w → ⊥) → KeepsOther u desk.windows r → DeskKeepsOther u desk (desk_unless desk w change r)
unless_keeps desk w u change (Ok windows) other h = with_keeps desk w u windows change other h
unless_keeps desk w u change (Err f) other h = tt

pub desk_keeps_other : (desk : Desk) (w u : ℕ) (change : Change) → (u ≡ w → ⊥) → DeskKeepsOther u desk (desk_after desk w change)
unfolding desk_after
desk_keeps_other desk w u change other = unless_keeps desk w u change (windows_after desk.windows w change) other (windows_keep desk.windows w u change other)
