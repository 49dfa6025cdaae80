-- Lemmas on which windows are open.
use Rattle.std.specs.Prelude.{slice_get, slice_set}
use Rattle.std.proofs.Common.{Bool, ◌≡◌, ℕ, zero, suc, true, false, not, List, [], ◌∷◌, ◌++◌, length, Some, refl, sym, ap, ◌∙◌}
use Rattle.std.proofs.lemmas.Bool.{not-true}
use Rattle.be_stack.specs.declared.window.Window.{Window}
use Rattle.be_stack.specs.Windows.{passes, is_open}

-- a window that is open, by what is kept of it
pub not_closed : (windows : List Window) (w : ℕ) (window : Window) → Some window ≡ slice_get windows w → is_open windows w ≡ true → window.closed ≡ false
not_closed windows w window e opened = not-true window.closed (ap (passes (λ window. not window.closed)) e ∙ opened)

-- where something else is kept of an open window, which stays open, the same windows are open
pub open-put : (windows : List Window) (w v : ℕ) (window : Window) → window.closed ≡ false → is_open windows w ≡ true → is_open (slice_set windows w window) v ≡ is_open windows v
open-put [] w v window e opened = refl
open-put (x ∷ xs) zero zero window e opened = ap not e ∙ sym opened
open-put (x ∷ xs) zero (suc v) window e opened = refl
open-put (x ∷ xs) (suc w) zero window e opened = refl
open-put (x ∷ xs) (suc w) (suc v) window e opened = open-put xs w v window e opened

-- a window that is closed isn't open, and all others stay
pub open-closed : (windows : List Window) (w : ℕ) (window : Window) → window.closed ≡ true → is_open (slice_set windows w window) w ≡ false
open-closed [] w window e = refl
open-closed (x ∷ xs) zero window e = ap not e
open-closed (x ∷ xs) (suc w) window e = open-closed xs w window e

pub passes-other : (test : Window → Bool) (windows : List Window) (w v : ℕ) (window : Window) → (v ≡ w → ⊥) → passes test (slice_get (slice_set windows w window) v) ≡ passes test (slice_get windows v)
passes-other test [] w v window other = refl
passes-other test (x ∷ xs) zero zero window other = absurd (other refl)
passes-other test (x ∷ xs) zero (suc v) window other = refl
passes-other test (x ∷ xs) (suc w) zero window other = refl
passes-other test (x ∷ xs) (suc w) (suc v) window other = passes-other test xs w v window (λ e. other (ap suc e))

-- an open window of which something else is kept
pub passes-put : (test : Window → Bool) (windows : List Window) (w : ℕ) (window : Window) → is_open windows w ≡ true → passes test (slice_get (slice_set windows w window) w) ≡ test window
passes-put test [] w window opened = cc
passes-put test (x ∷ xs) zero window opened = refl
passes-put test (x ∷ xs) (suc w) window opened = passes-put test xs w window opened

-- a new window is open, and all others stay
pub open-new : (windows : List Window) (window : Window) → window.closed ≡ false → is_open (windows ++ window ∷ []) (length windows) ≡ true
open-new [] window e = ap not e
open-new (x ∷ xs) window e = open-new xs window e

pub open-before : (windows : List Window) (v : ℕ) (window : Window) → (v ≡ length windows → ⊥) → is_open (windows ++ window ∷ []) v ≡ is_open windows v
open-before [] zero window other = absurd (other refl)
open-before [] (suc v) window other = refl
open-before (x ∷ xs) zero window other = refl
open-before (x ∷ xs) (suc v) window other = open-before xs v window (λ e. other (ap suc e))

-- a window that passes a test does so beside a new one
pub passes-before : (test : Window → Bool) (windows : List Window) (v : ℕ) (window : Window) → passes test (slice_get windows v) ≡ true → passes test (slice_get (windows ++ window ∷ []) v) ≡ true
passes-before test [] v window h = cc
passes-before test (x ∷ xs) zero window h = h
passes-before test (x ∷ xs) (suc v) window h = passes-before test xs v window h

-- no window has the number of the next
pub none_next : (windows : List Window) → is_open windows (length windows) ≡ false
none_next [] = refl
none_next (x ∷ xs) = none_next xs
