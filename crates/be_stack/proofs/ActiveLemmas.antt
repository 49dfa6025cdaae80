-- The active window stays shown.
use Rattle.std.specs.Prelude.{slice_get, slice_set, ◌==◌}
use Rattle.std.proofs.Common.{◌≡◌, ℕ, Bool, true, false, cond, not, List, [], ◌∷◌, ◌++◌, Option, Some, None, Result, Ok, refl, sym, ap, ◌∙◌, ◌-◌, ◌-ℤ◌, ⊎_elim, arith}
use Rattle.std.proofs.lemmas.Bool.{cases_eq, eqb-true, eqb-false, eq-eqb, and_parts, and_from}
use Rattle.be_geom.specs.declared.change.Change.{Change}
use Rattle.be_geom.specs.declared.change.Change.TheVariants.{Show, Hide, MoveTo, MoveBy, ResizeTo, Activate, Behind, Focus, Close}
use Rattle.be_geom.specs.Rects.{moved_rect}
use Rattle.be_stack.specs.declared.fault.ChangeFault.{ChangeFault}
use Rattle.be_stack.specs.declared.window.Window.{Window}
use Rattle.be_stack.specs.Windows.{Windows, passes, is_open, is_shown, is_shown_window}
use Rattle.be_stack.specs.Order.{others, put_behind}
use Rattle.be_stack.specs.Changes.{active_without, takes_focus, within_range, resized_rect}
use Rattle.be_stack.specs.Laws.{ActiveStaysShown}
use Rattle.be_stack.specs.Whole.{ActiveIsShown}
use Rattle.be_stack.proofs.LawLemmas.{Shown, by_change, as_after, with_frame}
use Rattle.be_stack.proofs.OpenLemmas.{passes-before, passes-other, passes-put}

abbrev pub AllShown : Option ℕ → List Window → Type 0
AllShown active windows = (a : ℕ) → active ≡ Some a → is_shown windows a ≡ true

-- an open window that stays shown if it is leaves each shown that was
shown-put : (windows : List Window) (w a : ℕ) (window : Window) → is_open windows w ≡ true → (is_shown windows w ≡ true → is_shown_window window ≡ true) → is_shown windows a ≡ true → is_shown (slice_set windows w window) a ≡ true
shown-put windows w a window opened stays shown =
    ⊎_elim (λ (same : a ≡ w).
    ap (is_shown (slice_set windows w window)) same ∙ passes-put is_shown_window windows w window opened ∙ stays (ap (is_shown windows) (sym same) ∙ shown)) (λ (other : a ≡ w → ⊥).
    passes-other is_shown_window windows w a window other ∙ shown) (cases_eq a w)

pub active_put : (active : Option ℕ) (windows : List Window) (w : ℕ) (window : Window) → is_open windows w ≡ true → (is_shown windows w ≡ true → is_shown_window window ≡ true) → AllShown active windows → AllShown active (slice_set windows w window)
active_put active windows w window opened stays shown a e = shown-put windows w a window opened stays (shown a e)

-- what a shown window by its number tells of what is kept of it
pub shown_read : (windows : List Window) (w : ℕ) (window : Window) → Some window ≡ slice_get windows w → is_shown windows w ≡ true → is_shown_window window ≡ true
shown_read windows w window there shown = ap (passes is_shown_window) there ∙ shown

other_active : (b : Bool) (a v w : ℕ) (windows : List Window) (window : Window) → (v == w) ≡ b → (Some v ≡ Some a → is_shown windows a ≡ true) → cond b None (Some v) ≡ Some a → is_shown (slice_set windows w window) a ≡ true
other_active true a v w windows window e shown h = cc
other_active false a v w windows window e shown h =
    let same : v ≡ a = cc in
    passes-other is_shown_window windows w a window (λ i. eqb-false v w e (same ∙ i)) ∙ shown h

-- a window that may be hidden isn't the active one
pub active_gone : (active : Option ℕ) (windows : List Window) (w : ℕ) (window : Window) → AllShown active windows → AllShown (active_without w active) (slice_set windows w window)
active_gone None windows w window shown a e = cc
active_gone (Some v) windows w window shown a e = other_active (v == w) a v w windows window refl (shown a) e

-- the window that becomes the active one is shown
pub active_new : (b : Bool) (active : Option ℕ) (windows : List Window) (w : ℕ) (window : Window) → Some window ≡ slice_get windows w → takes_focus window ≡ b → AllShown active windows → AllShown (cond b (Some w) active) windows
active_new true active windows w window there focus shown a e =
    let same : w ≡ a = cc in
    ap (is_shown windows) (sym same) ∙ ap (passes is_shown_window) (sym there) ∙ (and_parts _ _ focus).0
active_new false active windows w window there focus shown a e = shown a e

-- a new window leaves the active one
pub active_beside : (active : Option ℕ) (windows : List Window) (window : Window) → AllShown active windows → AllShown active (windows ++ window ∷ [])
active_beside active windows window shown a e = passes-before is_shown_window windows a window (shown a e)

-- a window that is shown stays so where its count goes down
pub once_less : (window : Window) → is_shown_window window ≡ true → is_shown_window (record window { hides = window.hides - 1 }) ≡ true
once_less window shown =
    let parts = and_parts (not window.closed) (window.hides == 0) shown in
    let none : window.hides ≡ 0 = eqb-true window.hides 0 parts.1 in
    and_from (not window.closed) (window.hides - 1 == 0) parts.0 (eq-eqb (window.hides - 1) 0 (omega arith))

active_behind : (b : Bool) (s t : Windows) (w front : ℕ) → ActiveIsShown s → ◌≡◌ {A = Result Windows ChangeFault} (Ok (cond b s (record s { order = put_behind front w (others w s.order) }))) (Ok t) → ActiveIsShown t
active_behind true s t w front shown e = as_after ActiveIsShown s t e shown
active_behind false s t w front shown e = as_after ActiveIsShown _ t e shown

active_after : (s t : Windows) (w : ℕ) (change : Change) → ActiveIsShown s → Shown ActiveIsShown s t w change
active_after s t w Show shown window there opened e =
    as_after ActiveIsShown _ t e (active_put s.active s.windows w _ opened (λ h. once_less window (shown_read s.windows w window there h)) shown)
active_after s t w Hide shown window there opened e =
    as_after ActiveIsShown _ t e (active_gone s.active s.windows w _ shown)
active_after s t w (MoveTo corner) shown window there opened e =
    with_frame ActiveIsShown s t w window (within_range (moved_rect window.frame (corner.x -ℤ window.frame.left) (corner.y -ℤ window.frame.top))) (λ r. active_put s.active s.windows w _ opened (shown_read s.windows w window there) shown) e
active_after s t w (MoveBy dx dy) shown window there opened e =
    with_frame ActiveIsShown s t w window (within_range (moved_rect window.frame dx dy)) (λ r. active_put s.active s.windows w _ opened (shown_read s.windows w window there) shown) e
active_after s t w (ResizeTo width height) shown window there opened e =
    with_frame ActiveIsShown s t w window (within_range (resized_rect window.frame width height)) (λ r. active_put s.active s.windows w _ opened (shown_read s.windows w window there) shown) e
active_after s t w Activate shown window there opened e =
    as_after ActiveIsShown _ t e (active_new (takes_focus window) s.active s.windows w window there refl shown)
active_after s t w (Behind front) shown window there opened e = active_behind (w == front) s t w front shown e
active_after s t w (Focus view) shown window there opened e = as_after ActiveIsShown s t e shown
active_after s t w Close shown window there opened e =
    as_after ActiveIsShown _ t e (active_gone s.active s.windows w _ shown)

pub active_shown : ActiveStaysShown
active_shown s t w change shown e = by_change ActiveIsShown s t w change (active_after s t w change shown) e
