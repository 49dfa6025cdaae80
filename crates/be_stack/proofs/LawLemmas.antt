-- What a change that isn't refused keeps is shown change by change, on a window that is open.
use Rattle.std.specs.Prelude.{slice_get, ◌==◌}
use Rattle.std.proofs.Common.{◌≡◌, ℕ, Bool, true, false, cond, not, List, Option, Some, None, Result, Ok, Err, refl, subst, ◌-ℤ◌}
use Rattle.std.proofs.lemmas.Bool.{not-false, or_parts}
use Rattle.be_geom.specs.declared.change.Change.{Change}
use Rattle.be_geom.specs.declared.change.Change.TheVariants.{Show, Hide, MoveTo, MoveBy, ResizeTo, Activate, Behind, Focus, Close}
use Rattle.be_geom.specs.declared.rect.Rect.{Rect}
use Rattle.be_geom.specs.Rects.{moved_rect}
use Rattle.be_stack.specs.declared.fault.ChangeFault.{ChangeFault}
use Rattle.be_stack.specs.declared.fault.ChangeFault.TheVariants.{Gone}
use Rattle.be_stack.specs.declared.window.Window.{Window}
use Rattle.be_stack.specs.Windows.{Windows, is_open, with_window}
use Rattle.be_stack.specs.Order.{others, put_behind}
use Rattle.be_stack.specs.Changes.{is_gone, framed, within_range, resized_rect, changed, changed_at, windows_after}
use Rattle.be_stack.specs.Whole.{EachOpenOnce}
use Rattle.be_stack.specs.Laws.{OrderStaysWhole}
use Rattle.be_stack.proofs.OpenLemmas.{not_closed}
use Rattle.be_stack.proofs.WholeLemmas.{whole-front, whole-behind, whole-closed, whole-put}

-- a window of which a change is asked that isn't gone is open
open_for : (windows : List Window) (w : ℕ) (change : Change) → is_gone windows w change ≡ false → is_open windows w ≡ true
open_for windows w (Behind front) h = not-false (is_open windows w) (or_parts (not (is_open windows w)) (not (is_open windows front)) h).0
open_for windows w Show h = not-false (is_open windows w) h
open_for windows w Hide h = not-false (is_open windows w) h
open_for windows w (MoveTo p) h = not-false (is_open windows w) h
open_for windows w (MoveBy dx dy) h = not-false (is_open windows w) h
open_for windows w (ResizeTo a b) h = not-false (is_open windows w) h
open_for windows w Activate h = not-false (is_open windows w) h
open_for windows w (Focus view) h = not-false (is_open windows w) h
open_for windows w Close h = not-false (is_open windows w) h

-- ---- what is shown change by change

abbrev pub Shown : (Windows → Type 0) → Windows → Windows → ℕ → Change → Type 0
Shown P s t w change = (window : Window) → Some window ≡ slice_get s.windows w → is_open s.windows w ≡ true → changed s w window change ≡ Ok t → P t

by_window : (P : Windows → Type 0) (s t : Windows) (w : ℕ) (o : Option Window) (change : Change) → o ≡ slice_get s.windows w → is_open s.windows w ≡ true → Shown P s t w change → changed_at s w o change ≡ Ok t → P t
by_window P s t w (Some window) change there opened shown e = shown window there opened e
by_window P s t w None change there opened shown e = cc

by_gone : (P : Windows → Type 0) (b : Bool) (s t : Windows) (w : ℕ) (change : Change) → is_gone s.windows w change ≡ b → Shown P s t w change → cond b (Err Gone) (changed_at s w (slice_get s.windows w) change) ≡ Ok t → P t
by_gone P true s t w change gone shown e = cc
by_gone P false s t w change gone shown e =
    by_window P s t w (slice_get s.windows w) change refl (open_for s.windows w change gone) shown e

pub by_change : (P : Windows → Type 0) (s t : Windows) (w : ℕ) (change : Change) → Shown P s t w change → windows_after s w change ≡ Ok t → P t
unfolding windows_after
by_change P s t w change shown e = by_gone P (is_gone s.windows w change) s t w change refl shown e

pub as_after : (P : Windows → Type 0) (s t : Windows) → ◌≡◌ {A = Result Windows ChangeFault} (Ok s) (Ok t) → P s → P t
as_after P s t e h = let same : s ≡ t = cc in subst P same h

-- what holds with any frame of a window holds after a change of its frame that isn't refused
pub with_frame : (P : Windows → Type 0) (s t : Windows) (w : ℕ) (window : Window) (frame : Result Rect ChangeFault) → ((r : Rect) → P (with_window s w (record window { frame = r }))) → framed s w window frame ≡ Ok t → P t
with_frame P s t w window (Ok frame) h e = as_after P _ t e (h frame)
with_frame P s t w window (Err fault) h e = cc

-- ---- the order

ordered_behind : (b : Bool) (s t : Windows) (w front : ℕ) → is_open s.windows w ≡ true → EachOpenOnce s → ◌≡◌ {A = Result Windows ChangeFault} (Ok (cond b s (record s { order = put_behind front w (others w s.order) }))) (Ok t) → EachOpenOnce t
ordered_behind true s t w front opened whole e = as_after EachOpenOnce s t e whole
ordered_behind false s t w front opened whole e = as_after EachOpenOnce _ t e (whole-behind s.order s.windows front w opened whole)

ordered_after : (s t : Windows) (w : ℕ) (change : Change) → EachOpenOnce s → Shown EachOpenOnce s t w change
ordered_after s t w Show whole window there opened e =
    as_after EachOpenOnce _ t e (whole-put s.order s.windows w _ (not_closed s.windows w window there opened) opened whole)
ordered_after s t w Hide whole window there opened e =
    as_after EachOpenOnce _ t e (whole-put s.order s.windows w _ (not_closed s.windows w window there opened) opened whole)
ordered_after s t w (MoveTo corner) whole window there opened e =
    with_frame EachOpenOnce s t w window (within_range (moved_rect window.frame (corner.x -ℤ window.frame.left) (corner.y -ℤ window.frame.top))) (λ r. whole-put s.order s.windows w _ (not_closed s.windows w window there opened) opened whole) e
ordered_after s t w (MoveBy dx dy) whole window there opened e =
    with_frame EachOpenOnce s t w window (within_range (moved_rect window.frame dx dy)) (λ r. whole-put s.order s.windows w _ (not_closed s.windows w window there opened) opened whole) e
ordered_after s t w (ResizeTo width height) whole window there opened e =
    with_frame EachOpenOnce s t w window (within_range (resized_rect window.frame width height)) (λ r. whole-put s.order s.windows w _ (not_closed s.windows w window there opened) opened whole) e
ordered_after s t w Activate whole window there opened e =
    as_after EachOpenOnce _ t e (whole-front s.order s.windows w opened whole)
ordered_after s t w (Behind front) whole window there opened e = ordered_behind (w == front) s t w front opened whole e
ordered_after s t w (Focus view) whole window there opened e = as_after EachOpenOnce s t e whole
ordered_after s t w Close whole window there opened e =
    as_after EachOpenOnce _ t e (whole-closed s.order s.windows w _ refl whole)

pub order_whole : OrderStaysWhole
order_whole s t w change whole e = by_change EachOpenOnce s t w change (ordered_after s t w change whole) e
