-- The order has each open window once and no other, after each change of the order or of a window.
use Rattle.std.specs.Prelude.{◌==◌, slice_set}
use Rattle.std.proofs.Common.{◌≡◌, ℕ, Bool, true, false, cond, not, List, [], ◌∷◌, ◌++◌, ◌<◌, ◌≤◌, length, length-append, refl, sym, ap, ◌∙◌, ⊎_elim, arith}
use Rattle.std.proofs.lemmas.Bool.{cases_eq, eqb-true, eq-eqb, ne_eqb}
use Rattle.be_stack.specs.declared.window.Window.{Window}
use Rattle.be_stack.specs.Order.{others, put_behind}
use Rattle.be_stack.specs.Windows.{is_open}
use Rattle.be_stack.proofs.OrderLemmas.{count_of, count-cons}
use Rattle.be_stack.proofs.OpenLemmas.{open-put, open-closed, passes-other, open-new, open-before, none_next}

-- each open window stands in the order once
abbrev pub Once : List ℕ → List Window → Type 0
Once order windows = (w : ℕ) → count_of w order ≡ cond (is_open windows w) 1 0

-- ---- counts

-- how often an element counts
abbrev times : Bool → ℕ
times b = cond b 1 0

counts_same : (w x : ℕ) → x ≡ w → times (x == w) ≡ 1
counts_same w x e = ap times (eq-eqb x w e)

counts_other : (w x : ℕ) → (x ≡ w → ⊥) → times (x == w) ≡ 0
counts_other w x e = ap times (ne_eqb x w e)

out_first : (b : Bool) (w x : ℕ) (xs : List ℕ) → (x == w) ≡ b → count_of w (others w xs) ≡ 0 → count_of w (cond (not b) (x ∷ others w xs) (others w xs)) ≡ 0
out_first true w x xs e h = h
out_first false w x xs e h = let none : times (x == w) ≡ 0 = ap times e in omega (arith, count-cons w x (others w xs))

-- a window isn't among the others
count-out : (w : ℕ) (xs : List ℕ) → count_of w (others w xs) ≡ 0
count-out w [] = refl
count-out w (x ∷ xs) = out_first (x == w) w x xs refl (count-out w xs)

stay_first : (b : Bool) (w v x : ℕ) (xs : List ℕ) → (x == w) ≡ b → (v ≡ w → ⊥) → count_of v (others w xs) ≡ count_of v xs → count_of v (cond (not b) (x ∷ others w xs) (others w xs)) ≡ count_of v (x ∷ xs)
stay_first true w v x xs e other h =
    let same : x ≡ w = eqb-true x w e in
    let none : times (x == v) ≡ 0 = counts_other v x (λ i. other (sym i ∙ same)) in
    omega (arith, count-cons v x xs)
stay_first false w v x xs e other h = omega (arith, count-cons v x xs, count-cons v x (others w xs))

-- the others count as before
count-stay : (w v : ℕ) (xs : List ℕ) → (v ≡ w → ⊥) → count_of v (others w xs) ≡ count_of v xs
count-stay w v [] other = refl
count-stay w v (x ∷ xs) other = stay_first (x == w) w v x xs refl other (count-stay w v xs other)

behind_first : (b : Bool) (front w v x : ℕ) (xs : List ℕ) → count_of v (put_behind front w xs) ≡ count_of v (w ∷ xs) → count_of v (cond b (x ∷ w ∷ xs) (x ∷ put_behind front w xs)) ≡ count_of v (w ∷ x ∷ xs)
behind_first true front w v x xs h = omega (arith, count-cons v x (w ∷ xs), count-cons v w xs, count-cons v w (x ∷ xs), count-cons v x xs)
behind_first false front w v x xs h =
    omega (arith, count-cons v x (put_behind front w xs), count-cons v w xs, count-cons v w (x ∷ xs), count-cons v x xs)

-- behind another a window counts as in front
count-behind : (front w v : ℕ) (xs : List ℕ) → count_of v (put_behind front w xs) ≡ count_of v (w ∷ xs)
count-behind front w v [] = refl
count-behind front w v (x ∷ xs) = behind_first (x == front) front w v x xs (count-behind front w v xs)

-- ---- the order

once_if : (b : Bool) → b ≡ true → 1 ≡ times b
once_if b e = ap times (sym e)

-- a window that is open and goes to the front
pub whole-front : (order : List ℕ) (windows : List Window) (w : ℕ) → is_open windows w ≡ true → Once order windows → Once (w ∷ others w order) windows
whole-front order windows w opened whole v =
    ⊎_elim (λ (same : v ≡ w).
    let there : times (w == v) ≡ 1 = counts_same v w (sym same) in
    let once : 1 ≡ times (is_open windows v) = once_if (is_open windows v) (ap (is_open windows) same ∙ opened) in
    let out : count_of v (others w order) ≡ 0 = ap (λ u. count_of u (others w order)) same ∙ count-out w order in
    omega (arith, count-cons v w (others w order))) (λ (other : v ≡ w → ⊥).
    let none : times (w == v) ≡ 0 = counts_other v w (λ i. other (sym i)) in
    omega (arith, count-cons v w (others w order), count-stay w v order other, whole v)) (cases_eq v w)

pub whole-behind : (order : List ℕ) (windows : List Window) (front w : ℕ) → is_open windows w ≡ true → Once order windows → Once (put_behind front w (others w order)) windows
whole-behind order windows front w opened whole v = count-behind front w v (others w order) ∙ whole-front order windows w opened whole v

-- a window that is closed
pub whole-closed : (order : List ℕ) (windows : List Window) (w : ℕ) (window : Window) → window.closed ≡ true → Once order windows → Once (others w order) (slice_set windows w window)
whole-closed order windows w window closed whole v =
    ⊎_elim (λ (same : v ≡ w).
    ap (λ u. count_of u (others w order)) same ∙ count-out w order ∙ sym (ap times (ap (is_open (slice_set windows w window)) same ∙ open-closed windows w window closed))) (λ (other : v ≡ w → ⊥).
    count-stay w v order other ∙ whole v ∙ sym (ap times (passes-other (λ window. not window.closed) windows w v window other))) (cases_eq v w)

-- a window of which something else is kept
pub whole-put : (order : List ℕ) (windows : List Window) (w : ℕ) (window : Window) → window.closed ≡ false → is_open windows w ≡ true → Once order windows → Once order (slice_set windows w window)
whole-put order windows w window closed opened whole v = whole v ∙ sym (ap times (open-put windows w v window closed opened))

-- a new window
pub whole-new : (order : List ℕ) (windows : List Window) (w : ℕ) (window : Window) → w ≡ length windows → window.closed ≡ false → Once order windows → Once (w ∷ order) (windows ++ window ∷ [])
whole-new order windows w window next opened whole v =
    ⊎_elim (λ (same : v ≡ w).
    let there : times (w == v) ≡ 1 = counts_same v w (sym same) in
    let at_end : v ≡ length windows = same ∙ next in
    let once : 1 ≡ times (is_open (windows ++ window ∷ []) v) = once_if (is_open (windows ++ window ∷ []) v) (ap (is_open (windows ++ window ∷ [])) at_end ∙ open-new windows window opened) in
    let none : times (is_open windows v) ≡ 0 = ap times (ap (is_open windows) at_end ∙ none_next windows) in
    omega (arith, count-cons v w order, whole v)) (λ (other : v ≡ w → ⊥).
    let none : times (w == v) ≡ 0 = counts_other v w (λ i. other (sym i)) in
    let stays : times (is_open (windows ++ window ∷ []) v) ≡ times (is_open windows v) = ap times (open-before windows v window (λ i. other (i ∙ sym next))) in
    omega (arith, count-cons v w order, whole v)) (cases_eq v w)

pub few-new : (windows : List Window) (window : Window) → length windows < 32 → length (windows ++ window ∷ []) ≤ 32
few-new windows window few = omega (arith, length-append windows (window ∷ []))
