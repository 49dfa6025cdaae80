-- The root of a window's views covers the window, whatever changes.
use Rattle.std.proofs.Common.{◌≡◌, ℕ, zero, suc, Bool, true, false, List, [], ◌∷◌, Option, Some, None, Result, Ok, Err, refl, sym, ap, subst, ◌∙◌, arith}
use Rattle.std.specs.Prelude.{ℤ, ◌-ℤ◌, ◌==◌, slice_get, slice_set, if◌then◌else◌}
use Rattle.std.specs.List.{list_all}
use Rattle.std.proofs.lemmas.Int.{ints}
use Rattle.std.proofs.lemmas.Option.{same_Some}
use Rattle.be_geom.specs.declared.change.Change.{Change}
use Rattle.be_geom.specs.declared.change.Change.TheVariants.{Show, Hide, MoveTo, MoveBy, ResizeTo, Activate, Behind, Focus, Close}
use Rattle.be_geom.specs.declared.rect.Rect.{Rect}
use Rattle.be_geom.specs.Rects.{moved_rect, rect_fits}
use Rattle.be_stack.specs.Changes as stack
use Rattle.be_stack.specs.Changes.{within_range, resized_rect, windows_after, is_gone}
use Rattle.be_stack.specs.declared.fault.ChangeFault.{ChangeFault}
use Rattle.be_stack.specs.declared.fault.ChangeFault.TheVariants.{OffRange}
use Rattle.be_stack.specs.declared.window.Window.{Window}
use Rattle.be_stack.specs.Windows.{Windows}
use Rattle.be_views.specs.Resizing.{root_frame, frame_in, frames_after, with_frames, resized}
use Rattle.be_views.specs.Trees.{Tree, View}
use Rattle.be_desk.proofs.PairedLemmas.{first_kept}

-- ---- a list with one element set

pub data SetRead {X : Type 0} (xs : List X) (i j : ℕ) (y z : X) : Type 0 where
  here : i ≡ j → y ≡ z → SetRead xs i j y z
  elsewhere : (i ≡ j → ⊥) → slice_get xs j ≡ Some z → SetRead xs i j y z

one_further : {X : Type 0} (x : X) (xs : List X) (i j : ℕ) (y z : X) → SetRead xs i j y z → SetRead (x ∷ xs) (suc i) (suc j) y z
one_further x xs i j y z (here same is) = here (ap suc same) is
one_further x xs i j y z (elsewhere other read) = elsewhere (λ e. other (let less : i ≡ j = omega (arith, e) in less)) read

-- what stands there is the new element, or was there before
pub set_read : {X : Type 0} (xs : List X) (i j : ℕ) (y z : X) → slice_get (slice_set xs i y) j ≡ Some z → SetRead xs i j y z
set_read [] i j y z e = cc
set_read (x ∷ xs) zero zero y z e = here refl (same_Some y z e)
set_read (x ∷ xs) zero (suc j) y z e = elsewhere (λ never. omega (arith, never)) e
set_read (x ∷ xs) (suc i) zero y z e = elsewhere (λ never. omega (arith, never)) e
set_read (x ∷ xs) (suc i) (suc j) y z e = one_further x xs i j y z (set_read xs i j y z e)

-- ---- the root

-- the root covers the window, and lies in no other view
pub record IsFit (window : Window) (tree : Tree) : Type 0 where
  pub root : View
  pub first : slice_get tree 0 ≡ Some root
  pub orphan : root.parent ≡ None
  pub frame : root.frame ≡ root_frame (window.frame.right -ℤ window.frame.left) (window.frame.bottom -ℤ window.frame.top)

abbrev pub AreFit : List Window → List Tree → Type 0
AreFit windows trees = (w : ℕ) (window : Window) (tree : Tree) → slice_get windows w ≡ Some window → slice_get trees w ≡ Some tree → IsFit window tree

-- two windows of the same extent
pub record SameExtent (a b : Window) : Type 0 where
  pub across : b.frame.right -ℤ b.frame.left ≡ a.frame.right -ℤ a.frame.left
  pub down : b.frame.bottom -ℤ b.frame.top ≡ a.frame.bottom -ℤ a.frame.top

pub fit_by : (a b : Window) (tree : Tree) → SameExtent a b → IsFit a tree → IsFit b tree
fit_by a b tree same fit = record { root = fit.root; first = fit.first; orphan = fit.orphan; frame = fit.frame ∙ ap (λ x. root_frame x (a.frame.bottom -ℤ a.frame.top)) (sym same.across) ∙ ap (root_frame (b.frame.right -ℤ b.frame.left)) (sym same.down) }

-- ---- resized views

in_frame : (x view : View) (r frame : Rect) → x ≡ view → r ≡ frame → ◌≡◌ {A = View} (record x { frame = r }) (record view { frame = frame })
in_frame x view r frame same is = λ i. record { parent = (same i).parent; frame = is i; mode = (same i).mode }

framed_first : (views : List View) (frames : List Rect) (view : View) (frame : Rect) → slice_get views 0 ≡ Some view → slice_get frames 0 ≡ Some frame → slice_get (with_frames views frames) 0 ≡ Some (record view { frame = frame })
framed_first [] frames view frame e f = cc
framed_first (x ∷ xs) [] view frame e f = cc
framed_first (x ∷ xs) (r ∷ rs) view frame e f = ap Some (in_frame x view r frame (same_Some x view e) (same_Some r frame f))

root_in : (root : Rect) (tree : Tree) (view : View) (o : Option ℕ) → o ≡ None → frame_in root tree [] view o ≡ root
root_in root tree view None e = refl
root_in root tree view (Some p) e = cc

first_frame : (tree : Tree) (view : View) (width height : ℤ) → slice_get tree 0 ≡ Some view → view.parent ≡ None → slice_get (frames_after tree width height) 0 ≡ Some (root_frame width height)
first_frame [] view width height e orphan = cc
first_frame (x ∷ xs) view width height e orphan =
    first_kept (root_frame width height) (x ∷ xs) (frame_in (root_frame width height) (x ∷ xs) [] x x.parent) [] xs
    ∙ ap Some (root_in (root_frame width height) (x ∷ xs) x x.parent (ap (λ (v : View). v.parent) (same_Some x view e) ∙ orphan))

resized_if : (b : Bool) (tree new : Tree) → (if b then Some tree else None) ≡ Some new → tree ≡ new
resized_if true tree new e = same_Some tree new e
resized_if false tree new e = cc

-- the new root covers the window of the new size
pub resized_fit : (a b : Window) (tree new : Tree) (width height : ℤ) → IsFit a tree → resized tree width height ≡ Some new → b.frame.right -ℤ b.frame.left ≡ width → b.frame.bottom -ℤ b.frame.top ≡ height → IsFit b new
unfolding resized
resized_fit a b tree new width height fit e across down =
    let same : with_frames tree (frames_after tree width height) ≡ new = resized_if (list_all rect_fits (frames_after tree width height)) (with_frames tree (frames_after tree width height)) new e in
    let read : slice_get (with_frames tree (frames_after tree width height)) 0 ≡ Some (record fit.root { frame = root_frame width height }) = framed_first tree (frames_after tree width height) fit.root (root_frame width height) fit.first (first_frame tree fit.root width height fit.first fit.orphan) in
    record {
      root = record fit.root { frame = root_frame width height };
      first = ap (λ (t : Tree). slice_get t 0) (sym same) ∙ read;
      orphan = fit.orphan;
      frame = ap (λ x. root_frame x height) (sym across) ∙ ap (root_frame (b.frame.right -ℤ b.frame.left)) (sym down);
    }

-- ---- windows after a change that isn't a resize

-- each window has the extent of the one that was there
abbrev pub KeepsExtents : List Window → Result Windows ChangeFault → Type 0
KeepsExtents windows (Ok t) = (w : ℕ) (b : Window) → slice_get t.windows w ≡ Some b → (a : Window) × ((slice_get windows w ≡ Some a) × SameExtent a b)
KeepsExtents windows (Err f) = Unit {0}

same_extent : (a : Window) → SameExtent a a
same_extent a = record { across = refl; down = refl }

set_by : (windows : List Window) (u w : ℕ) (old new b : Window) → slice_get windows u ≡ Some old → SameExtent old new → SetRead windows u w new b → (a : Window) × ((slice_get windows w ≡ Some a) × SameExtent a b)
set_by windows u w old new b there same (here at is) = (old, (ap (slice_get windows) (sym at) ∙ there, subst (SameExtent old) is same))
set_by windows u w old new b there same (elsewhere other read) = (b, (read, same_extent b))

set_extents : (windows : List Window) (u : ℕ) (old new : Window) → slice_get windows u ≡ Some old → SameExtent old new → (w : ℕ) (b : Window) → slice_get (slice_set windows u new) w ≡ Some b → (a : Window) × ((slice_get windows w ≡ Some a) × SameExtent a b)
set_extents windows u old new there same w b e = set_by windows u w old new b there same (set_read windows u w new b e)

all_stay : (windows : List Window) (w : ℕ) (b : Window) → slice_get windows w ≡ Some b → (a : Window) × ((slice_get windows w ≡ Some a) × SameExtent a b)
all_stay windows w b e = (b, (e, same_extent b))

moved_by : (s : Windows) (u : ℕ) (old : Window) (dx dy : ℤ) (b : Bool) → slice_get s.windows u ≡ Some old → KeepsExtents s.windows (stack.framed s u old (if b then Ok (moved_rect old.frame dx dy) else Err OffRange))
moved_by s u old dx dy true there = set_extents s.windows u old (record old { frame = moved_rect old.frame dx dy }) there (record { across = omega (arith, ints); down = omega (arith, ints) })
moved_by s u old dx dy false there = tt

behind_by : (b : Bool) (s t : Windows) → t.windows ≡ s.windows → (w : ℕ) (x : Window) → slice_get (if b then s else t).windows w ≡ Some x → (a : Window) × ((slice_get s.windows w ≡ Some a) × SameExtent a x)
behind_by true s t same w x e = all_stay s.windows w x e
behind_by false s t same w x e = all_stay s.windows w x (ap (λ (l : List Window). slice_get l w) (sym same) ∙ e)

-- whether a change resizes its window
abbrev pub is_resize : Change → Bool
is_resize (ResizeTo width height) = true
is_resize Show = false
is_resize Hide = false
is_resize (MoveTo corner) = false
is_resize (MoveBy dx dy) = false
is_resize Activate = false
is_resize (Behind other) = false
is_resize (Focus view) = false
is_resize Close = false

change_extents : (s : Windows) (u : ℕ) (old : Window) (change : Change) → is_resize change ≡ false → slice_get s.windows u ≡ Some old → KeepsExtents s.windows (stack.changed s u old change)
change_extents s u old Show quiet there = set_extents s.windows u old _ there (record { across = refl; down = refl })
change_extents s u old Hide quiet there = set_extents s.windows u old _ there (record { across = refl; down = refl })
change_extents s u old (MoveTo corner) quiet there = moved_by s u old (corner.x -ℤ old.frame.left) (corner.y -ℤ old.frame.top) (rect_fits (moved_rect old.frame (corner.x -ℤ old.frame.left) (corner.y -ℤ old.frame.top))) there
change_extents s u old (MoveBy dx dy) quiet there = moved_by s u old dx dy (rect_fits (moved_rect old.frame dx dy)) there
change_extents s u old (ResizeTo width height) quiet there = cc
change_extents s u old Activate quiet there = all_stay s.windows
change_extents s u old (Behind other) quiet there = behind_by (u == other) s _ refl
change_extents s u old (Focus view) quiet there = all_stay s.windows
change_extents s u old Close quiet there = set_extents s.windows u old _ there (record { across = refl; down = refl })

at_extents : (s : Windows) (u : ℕ) (o : Option Window) (change : Change) → is_resize change ≡ false → slice_get s.windows u ≡ o → KeepsExtents s.windows (stack.changed_at s u o change)
at_extents s u (Some old) change quiet there = change_extents s u old change quiet there
at_extents s u None change quiet there = tt

gone_extents : (windows : List Window) (b : Bool) (f : ChangeFault) (r : Result Windows ChangeFault) → KeepsExtents windows r → KeepsExtents windows (if b then Err f else r)
gone_extents windows true f r h = tt
gone_extents windows false f r h = h

pub windows_extents : (s : Windows) (u : ℕ) (change : Change) → is_resize change ≡ false → KeepsExtents s.windows (windows_after s u change)
unfolding windows_after
windows_extents s u change quiet = gone_extents s.windows (is_gone s.windows u change) _ _ (at_extents s u (slice_get s.windows u) change quiet refl)
