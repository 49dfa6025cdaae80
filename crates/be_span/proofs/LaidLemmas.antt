-- Cells laid on pixels.
use Rattle.std.proofs.Common.{◌≡◌, ℕ, zero, suc, ◌+◌, ◌-◌, ◌<◌, ◌≤◌, ℤ, pos, ◌+ℤ◌, ◌-ℤ◌, ◌<ℤ◌, Bool, true, false, ◌&&◌, ◌||◌, ◌⊎◌, inl, inr, List, [], ◌∷◌, length, get_or, take, min, Option, Some, None, slice_get, cond, refl, sym, ap, ◌∙◌, subst, arith}
use Rattle.std.proofs.lemmas.Int.{ints}
use Rattle.std.proofs.lemmas.Bool.{cases_lt, cond-true, cond-false, or_left, or_right}
use Rattle.std.proofs.lemmas.List.{take_all}
use Rattle.std.proofs.lemmas.Option.{none-some, same_Some, slice_get-get_or}
use Rattle.be_facts.proofs.Truths.{true_or_false}
use Rattle.be_geom.specs.declared.rect.Rect.{Rect}
use Rattle.be_geom.specs.Rects.{rect_has}
use Rattle.be_region.specs.Regions.{region_has}
use Rattle.be_region.specs.Runs.{IsRun}
use Rattle.be_span.specs.declared.Cell.{Cell}
use Rattle.be_span.specs.Laid.{IsLaidRun}
use Rattle.be_span.specs.Runs.{IsBeside}
use Rattle.be_span.specs.Spans.{Spans, cell_in, laid, black_cell, pixels_of}
use Rattle.be_span.proofs.GridLemmas.{IsIn, in_from}
use Rattle.be_span.proofs.CellLemmas.{cell_none, cell_some}

pub laid_nothing : (s d : Option Cell) → s ≡ None → laid s d ≡ d
laid_nothing s d e = ap (λ o. laid o d) e

laid_outside : (s : Option Cell) → laid s None ≡ None
laid_outside (Some c) = refl
laid_outside None = refl

pub laid_twice : (s d : Option Cell) → laid s (laid s d) ≡ laid s d
laid_twice (Some c) (Some d) = refl
laid_twice (Some c) None = refl
laid_twice None d = refl

laid_some : (s d : Option Cell) (c e : Cell) → s ≡ Some c → d ≡ Some e → laid s d ≡ Some c
laid_some s d c e is has = ap (λ o. laid o d) is ∙ ap (laid (Some c)) has

-- a cell over the cell of a pixel of the region
pub laid_put : (from : Option Cell) (now : Spans) (new : Option Cell) (row : List Cell) (k : ℕ) (x y : ℤ) → k < length row → from ≡ slice_get row k → length now.cells ≡ pixels_of now.rects → region_has now.rects x y ≡ true → new ≡ slice_get row k → new ≡ laid from (cell_in now x y)
laid_put from now new row k x y less e whole has put =
    let is = slice_get-get_or row k black_cell less in
    let old = cell_some now x y whole has in
    put ∙ is ∙ sym (laid_some from (cell_in now x y) (get_or row k black_cell) old.0 (e ∙ is) old.1)

-- no pixel of a gap has a cell
pub gap_none : (s : Spans) (x y last : ℤ) (len rest n k : ℕ) → IsRun (λ z. region_has s.rects z y) x last → region_has s.rects x y ≡ false → pos len ≡ last -ℤ x +ℤ pos 1 → n ≡ min len rest → k < n → cell_in s (x +ℤ pos k) y ≡ None
gap_none s x y last len rest n k run out long e less =
    let few : k < len = omega arith in
    cell_none s (x +ℤ pos k) y (run.same (x +ℤ pos k) (omega (arith, ints)) (omega (arith, ints)) ∙ out)

-- where no pixel that is laid has a place, all stay
pub far_stays : (from to : Spans) (x y z w : ℤ) → (region_has from.rects z w ≡ true → region_has to.rects x y ≡ true → ⊥) → cell_in to x y ≡ laid (cell_in from z w) (cell_in to x y)
far_stays from to x y z w far =
    elim (true_or_false (region_has from.rects z w)) [
      | inl e ↦ elim (true_or_false (region_has to.rects x y)) [
        | inl f ↦ absurd (far e f)
        | inr f ↦ cell_none to x y f ∙ sym (laid_outside (cell_in from z w)) ∙ ap (laid (cell_in from z w)) (sym (cell_none to x y f))
      ]
      | inr e ↦ sym (laid_nothing (cell_in from z w) (cell_in to x y) (cell_none from z w e))
    ]

-- rectangles that are too far from each other
pub too_far : (old new : Rect) (least most way_x way_y x y : ℤ) (low high : ℤ) → least ≡ new.left -ℤ old.right → low ≡ new.top -ℤ old.bottom → most ≡ new.right -ℤ old.left → high ≡ new.bottom -ℤ old.top → (way_x <ℤ least) ⊎ (most <ℤ way_x) ⊎ (way_y <ℤ low) ⊎ (high <ℤ way_y) → rect_has old (x -ℤ way_x) (y -ℤ way_y) ≡ true → rect_has new x y ≡ true → ⊥
too_far old new least most way_x way_y x y low high a b c d far e f = apart (in_from old (x -ℤ way_x) (y -ℤ way_y) e) (in_from new x y f) far
  where
    apart : IsIn old (x -ℤ way_x) (y -ℤ way_y) → IsIn new x y → (way_x <ℤ least) ⊎ (most <ℤ way_x) ⊎ (way_y <ℤ low) ⊎ (high <ℤ way_y) → ⊥
    apart h k (inl far) = let p = h.right in let q = k.left in omega (arith, ints)
    apart h k (inr (inl far)) = let p = h.left in let q = k.right in omega (arith, ints)
    apart h k (inr (inr (inl far))) = let p = h.bottom in let q = k.top in omega (arith, ints)
    apart h k (inr (inr (inr far))) = let p = h.top in let q = k.bottom in omega (arith, ints)

-- ---- a row

pub run_none : (cells : ℕ → Option Cell) (old : Spans) (x y : ℤ) → IsLaidRun cells old old x y 0
run_none cells old x y = record { inside = λ k less. absurd (omega arith); beside = λ z w h. refl }

pub further : (x : ℤ) (m k : ℕ) → x +ℤ pos m +ℤ pos k ≡ x +ℤ pos (m + k)
further x m k = omega (arith, ints)

before_run : (x y : ℤ) (m n : ℕ) (k : ℕ) → k < m → IsBeside (x +ℤ pos m) y n (x +ℤ pos k) y
before_run x y m n k less = inr (inl (omega (arith, ints)))

beside_first : (x y : ℤ) (m n : ℕ) (z w : ℤ) → IsBeside x y (m + n) z w → IsBeside x y m z w
beside_first x y m n z w (inl h) = inl h
beside_first x y m n z w (inr (inl h)) = inr (inl h)
beside_first x y m n z w (inr (inr h)) = inr (inr (omega (arith, ints)))

beside_second : (x y : ℤ) (m n : ℕ) (z w : ℤ) → IsBeside x y (m + n) z w → IsBeside (x +ℤ pos m) y n z w
beside_second x y m n z w (inl h) = inl h
beside_second x y m n z w (inr (inl h)) = inr (inl (omega (arith, ints)))
beside_second x y m n z w (inr (inr h)) = inr (inr (omega (arith, ints)))

behind_run : (x y : ℤ) (m k : ℕ) → IsBeside x y m (x +ℤ pos (m + k)) y
behind_run x y m k = inr (inr (omega (arith, ints)))

-- some pixels more
pub run_more : (from : Spans) (fx fy : ℤ) (old now new : Spans) (x y : ℤ) (m n : ℕ) → IsLaidRun (λ k. cell_in from (fx +ℤ pos k) fy) old now x y m → IsLaidRun (λ k. cell_in from (fx +ℤ pos m +ℤ pos k) fy) now new (x +ℤ pos m) y n → IsLaidRun (λ k. cell_in from (fx +ℤ pos k) fy) old new x y (m + n)
run_more from fx fy old now new x y m n so_far more = record {
  inside = λ k less. elim (cases_lt k m) [
    | inl h ↦ more.beside (x +ℤ pos k) y (before_run x y m n k h) ∙ so_far.inside k h
    | inr h ↦ later k (k - m) (omega arith) (omega arith)
  ];
  beside = λ z w h. more.beside z w (beside_second x y m n z w h) ∙ so_far.beside z w (beside_first x y m n z w h);
}
  where
    later : (k j : ℕ) → k ≡ m + j → j < n → cell_in new (x +ℤ pos k) y ≡ laid (cell_in from (fx +ℤ pos k) fy) (cell_in old (x +ℤ pos k) y)
    later k j e less =
        ap (λ i. cell_in new (x +ℤ pos i) y) e
        ∙ ap (λ z. cell_in new z y) (sym (further x m j))
        ∙ more.inside j less
        ∙ ap (λ z. laid (cell_in from z fy) (cell_in now (x +ℤ pos m +ℤ pos j) y)) (further fx m j)
        ∙ ap (λ z. laid (cell_in from (fx +ℤ pos (m + j)) fy) (cell_in now z y)) (further x m j)
        ∙ ap (laid (cell_in from (fx +ℤ pos (m + j)) fy)) (so_far.beside (x +ℤ pos (m + j)) y (behind_run x y m j))
        ∙ ap (λ i. laid (cell_in from (fx +ℤ pos i) fy) (cell_in old (x +ℤ pos i) y)) (sym e)

-- the same run, by other names
pub run_at : (from : Spans) (fx fy gx gy : ℤ) (now new : Spans) (x y z w : ℤ) (n : ℕ) → fx ≡ gx → fy ≡ gy → x ≡ z → y ≡ w → IsLaidRun (λ k. cell_in from (fx +ℤ pos k) fy) now new x y n → IsLaidRun (λ k. cell_in from (gx +ℤ pos k) gy) now new z w n
run_at from fx fy gx gy now new x y z w n a b c d h =
    subst (λ (v : ℤ). IsLaidRun (λ k. cell_in from (gx +ℤ pos k) gy) now new z v n) d
    (subst (λ (v : ℤ). IsLaidRun (λ k. cell_in from (gx +ℤ pos k) gy) now new v y n) c
    (subst (λ (v : ℤ). IsLaidRun (λ k. cell_in from (gx +ℤ pos k) v) now new x y n) b
    (subst (λ (v : ℤ). IsLaidRun (λ k. cell_in from (v +ℤ pos k) fy) now new x y n) a h)))

-- what is laid, by the way that it came
pub laid_from : (from : Spans) (x y fx fy dx dy : ℤ) (k : ℕ) (o : Option Cell) → fx ≡ x -ℤ dx → fy ≡ y -ℤ dy → laid (cell_in from (fx +ℤ pos k) fy) o ≡ laid (cell_in from (x +ℤ pos k -ℤ dx) (y -ℤ dy)) o
laid_from from x y fx fy dx dy k o across down = ap (λ z. laid (cell_in from z fy) o) moved ∙ ap (λ z. laid (cell_in from (x +ℤ pos k -ℤ dx) z) o) down
  where
    moved : fx +ℤ pos k ≡ x +ℤ pos k -ℤ dx
    moved = omega (arith, ints)

-- ---- all rectangles

pub has_more : (rs : List Rect) (m : ℕ) (r : Rect) (x y : ℤ) → slice_get rs m ≡ Some r → region_has (take (suc m) rs) x y ≡ (region_has (take m rs) x y || rect_has r x y)
has_more [] m r x y e = absurd (none-some r e)
has_more (q ∷ rs) zero r x y e = or_false (rect_has q x y) ∙ ap (λ s. rect_has s x y) (same_Some q r e)
  where
    or_false : (b : Bool) → (b || false) ≡ b
    or_false true = refl
    or_false false = refl
has_more (q ∷ rs) (suc m) r x y e = ap (λ b. rect_has q x y || b) (has_more rs m r x y e) ∙ or_turned (rect_has q x y) (region_has (take m rs) x y) (rect_has r x y)
  where
    or_turned : (a b c : Bool) → (a || (b || c)) ≡ ((a || b) || c)
    or_turned true b c = refl
    or_turned false b c = refl

pub all_laid : (cells : ℤ → ℤ → Option Cell) (old new : Spans) (m : ℕ) → length old.rects ≤ m → ((x y : ℤ) → cell_in new x y ≡ cond (region_has (take m old.rects) x y) (laid (cells x y) (cell_in old x y)) (cell_in old x y)) → (x y : ℤ) → cell_in new x y ≡ laid (cells x y) (cell_in old x y)
all_laid cells old new m all h x y =
    h x y
    ∙ ap (λ l. cond (region_has l x y) (laid (cells x y) (cell_in old x y)) (cell_in old x y)) (take_all m old.rects all)
    ∙ elim (true_or_false (region_has old.rects x y)) [
      | inl e ↦ cond-true (region_has old.rects x y) (laid (cells x y) (cell_in old x y)) (cell_in old x y) e
      | inr e ↦ cond-false (region_has old.rects x y) (laid (cells x y) (cell_in old x y)) (cell_in old x y) e ∙ cell_none old x y e ∙ sym (laid_outside (cells x y)) ∙ ap (laid (cells x y)) (sym (cell_none old x y e))
    ]

-- the rectangles of a region have its pixels
pub rect_inside : (rs : List Rect) (m : ℕ) (r : Rect) (x y : ℤ) → slice_get rs m ≡ Some r → rect_has r x y ≡ true → region_has rs x y ≡ true
rect_inside [] m r x y e h = absurd (none-some r e)
rect_inside (q ∷ rs) zero r x y e h = or_left (rect_has q x y) (region_has rs x y) (ap (λ s. rect_has s x y) (same_Some q r e) ∙ h)
rect_inside (q ∷ rs) (suc m) r x y e h = or_right (rect_has q x y) (region_has rs x y) (rect_inside rs m r x y e h)

-- ---- parts of buffers, laid on black pixels

-- a pixel of the region, and no other, has a cell
abbrev pub IsOwn : Bool → Option Cell → Type 0
IsOwn has o = (has ≡ true → (c : Cell) × (o ≡ Some c)) × (has ≡ false → o ≡ None)

pub own_cell : (s : Spans) (x y : ℤ) → length s.cells ≡ pixels_of s.rects → IsOwn (region_has s.rects x y) (cell_in s x y)
own_cell s x y whole = (cell_some s x y whole, cell_none s x y)

-- what two have in common
pub laid_part : (a b : Bool) (o : Option Cell) → IsOwn a o → laid o (cond (a && b) (Some black_cell) None) ≡ cond b o None
laid_part a false o own = ap (λ t. laid o (cond t (Some black_cell) None)) (none_of a) ∙ on_none o
  where
    none_of : (a : Bool) → (a && false) ≡ false
    none_of true = refl
    none_of false = refl

    on_none : (o : Option Cell) → laid o None ≡ None
    on_none None = refl
    on_none (Some c) = refl
laid_part true true o own = let c = own.0 refl in ap (λ t. laid t (Some black_cell)) c.1 ∙ sym c.1
laid_part false true o own = ap (λ t. laid t None) (own.1 refl) ∙ sym (own.1 refl)

-- what one of them has, the second's cell where both have one
pub laid_both : (a b : Bool) (o p : Option Cell) → IsOwn a o → IsOwn b p → laid p (laid o (cond (a || b) (Some black_cell) None)) ≡ cond b p o
laid_both true true o p own over =
    let c = own.0 refl in
    let d = over.0 refl in
    ap (λ t. laid p (laid t (Some black_cell))) c.1 ∙ ap (λ t. laid t (Some c.0)) d.1 ∙ sym d.1
laid_both true false o p own over =
    let c = own.0 refl in
    ap (λ t. laid t (laid o (Some black_cell))) (over.1 refl) ∙ ap (λ t. laid t (Some black_cell)) c.1 ∙ sym c.1
laid_both false true o p own over =
    let d = over.0 refl in
    ap (λ t. laid p (laid t (Some black_cell))) (own.1 refl) ∙ ap (λ t. laid t (Some black_cell)) d.1 ∙ sym d.1
laid_both false false o p own over =
    ap (λ t. laid t (laid o None)) (over.1 refl) ∙ ap (λ t. laid t None) (own.1 refl) ∙ sym (own.1 refl)

pub minus_none : (x : ℤ) → x -ℤ pos 0 ≡ x
minus_none x = omega (arith, ints)
