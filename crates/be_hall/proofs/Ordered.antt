-- Sorted pairs that have each number once are the history.
use Rattle.std.proofs.Common.{rules, ◌≡◌, ℕ, zero, suc, ◌+◌, ◌<◌, ◌≤◌, ◌≢◌, List, [], ◌∷◌, map, length, eq-eqb, ne_eqb, sym, refl, ap, ◌∙◌, subst, arith, sum_by, All, if◌then◌else◌}
use mathlib.Core.Logic.{dite}
use mathlib.Core.Option.{some, some-injective, some-ne-none}
use native.Mathlib.Decide.{ℕ_discrete}
use lib.ListN.{get_elem?}
use Rattle.std.proofs.lemmas.List.Sums.{sum_by_from}
use Rattle.std.proofs.lemmas.List.Elements.{All-cons, All-head, All-tail}
use Rattle.std.specs.List.Sorted.{IsPermutation, IsNonDecreasingBy}
use Rattle.std.proofs.lemmas.List.Sorted.{All-permutation}
use Rattle.be_hall.specs.Numbers.{one_if, once}
use Rattle.be_hall.specs.Logs.{logged, InHistory}

-- how often n is the number of a pair
abbrev times : {E : Type 0} → ℕ → List (ℕ × E) → ℕ
times n pairs = sum_by (λ x. one_if x.0 n) pairs

-- each pair has the entry of its number, where the first entry has the number k + 1
abbrev Stand : {E : Type 0} → ℕ → List E → List (ℕ × E) → Type 0
Stand k h [] = Unit {0}
Stand k h (x ∷ xs) = ((i : ℕ) × (x.0 ≡ k + i + 1) × (get_elem? h i ≡ some x.1)) × Stand k h xs

pub one_here : (a b : ℕ) → a ≡ b → one_if a b ≡ 1
one_here a b e = ap (λ t. if t then 1 else 0) (eq-eqb a b e)

pub one_not : (a b : ℕ) → a ≢ b → one_if a b ≡ 0
one_not a b n = ap (λ t. if t then 1 else 0) (ne_eqb a b n)

-- how often n stands among the len numbers after k
abbrev once_from : ℕ → ℕ → ℕ → ℕ
once_from k zero n = 0
once_from k (suc len) n = one_if (suc k) n + once_from (suc k) len n

from_end : (k len n : ℕ) → once_from k (suc len) n ≡ once_from k len n + one_if (suc (k + len)) n
from_end k zero n = let e : suc (k + 0) ≡ suc k = omega arith in let f : one_if (suc (k + 0)) n ≡ one_if (suc k) n = ap (λ (z : ℕ). one_if z n) e in omega arith
from_end k (suc len) n = let r = from_end (suc k) len n in let e : suc (suc k + len) ≡ suc (k + suc len) = omega arith in let f : one_if (suc (suc k + len)) n ≡ one_if (suc (k + suc len)) n = ap (λ (z : ℕ). one_if z n) e in omega arith

pub from_start : (len n : ℕ) → once len n ≡ once_from 0 len n
from_start zero n = refl
from_start (suc len) n = let r = from_start len n in let s = from_end 0 len n in let e : suc (0 + len) ≡ suc len = omega arith in let f : one_if (suc (0 + len)) n ≡ one_if (suc len) n = ap (λ (z : ℕ). one_if z n) e in omega arith

before : (k len n : ℕ) → n ≤ k → once_from k len n ≡ 0
before k zero n h = refl
before k (suc len) n h = let r = before (suc k) len n (omega arith) in let o = one_not (suc k) n (λ e. omega arith) in omega arith

module _ {E : Type 0} where
  -- no number is below low, and each is at least the one before it
  abbrev pub Rises : ℕ → List (ℕ × E) → Type 0
  Rises low [] = Unit {0}
  Rises low (x ∷ xs) = (low ≤ x.0) × Rises x.0 xs

  times_cons : (n : ℕ) (x : ℕ × E) (xs : List (ℕ × E)) → times n (x ∷ xs) ≡ one_if x.0 n + times n xs
  times_cons n x xs = let z : 0 + one_if x.0 n ≡ one_if x.0 n = omega arith in sum_by_from (λ y. one_if y.0 n) (0 + one_if x.0 n) xs ∙ ap (λ (m : ℕ). m + times n xs) z

  none_below : (n low : ℕ) (pairs : List (ℕ × E)) → n < low → Rises low pairs → times n pairs ≡ 0
  none_below n low [] h r = refl
  none_below n low (x ∷ xs) h r = let c = times_cons n x xs in let l = r.0 in let more = none_below n x.0 xs (omega arith) r.1 in let o = one_not x.0 n (λ e. omega arith) in omega arith

  -- where the number k + 1 isn't there, the pairs stand in the rest of the history
  shifted : (k : ℕ) (e : E) (es : List E) (pairs : List (ℕ × E)) → times (suc k) pairs ≡ 0 → Stand k (e ∷ es) pairs → Stand (suc k) es pairs
  shifted k e es [] z s = tt
  shifted k e es (x ∷ xs) z s =
      let c = times_cons (suc k) x xs in
      let not_here : x.0 ≢ suc k = λ is. let o = one_here x.0 (suc k) is in omega arith in
      let none : times (suc k) xs ≡ 0 = omega arith in
      (moved s.0.0 s.0.1 s.0.2 not_here, shifted k e es xs none s.1) where
        moved : (i : ℕ) → x.0 ≡ k + i + 1 → get_elem? (e ∷ es) i ≡ some x.1 → x.0 ≢ suc k → (j : ℕ) × (x.0 ≡ suc k + j + 1) × (get_elem? es j ≡ some x.1)
        moved zero at is other = absurd (other (omega arith))
        moved (suc j) at is other = (j, omega arith, is)

  -- where nothing is at low itself, all is above it
  above : (k : ℕ) (xs : List (ℕ × E)) → times (suc k) xs ≡ 0 → Rises (suc k) xs → Rises (suc (suc k)) xs
  above k [] z r = tt
  above k (x ∷ xs) z r = let c = times_cons (suc k) x xs in let low = r.0 in (dite (ℕ_discrete x.0 (suc k)) (λ is. let o = one_here x.0 (suc k) is in absurd (omega arith)) (λ other. omega arith), r.1)

  pub ordered : (k : ℕ) (h : List E) (pairs : List (ℕ × E)) → Rises (suc k) pairs → ((n : ℕ) → times n pairs ≡ once_from k (length h) n) → Stand k h pairs → map (λ x. x.1) pairs ≡ h
  ordered k [] [] r t s = refl
  ordered k [] (x ∷ xs) r t s = absurd (some-ne-none x.1 (sym s.0.2))
  ordered k (e ∷ es) [] r t s = let here = t (suc k) in let o = one_here (suc k) (suc k) refl in let none : times {E = E} (suc k) [] ≡ 0 = refl in let c : once_from k (suc (length es)) (suc k) ≡ one_if (suc k) (suc k) + once_from (suc k) (length es) (suc k) = refl in absurd (omega arith)
  ordered k (e ∷ es) (x ∷ xs) r t s =
      let here = t (suc k) in
      let o = one_here (suc k) (suc k) refl in
      let c : once_from k (suc (length es)) (suc k) ≡ one_if (suc k) (suc k) + once_from (suc k) (length es) (suc k) = refl in
      let d = times_cons (suc k) x xs in
      let low : suc k ≤ x.0 = r.0 in
      let first : x.0 ≡ suc k = dite (ℕ_discrete x.0 (suc k)) (λ is. is) (λ other. let none = none_below (suc k) x.0 xs (omega arith) r.1 in let away = one_not x.0 (suc k) other in absurd (omega arith)) in
      let i : ℕ = s.0.0 in
      let at : x.0 ≡ k + i + 1 = s.0.1 in
      let zero_th : i ≡ 0 = omega arith in
      let same : e ≡ x.1 = some-injective e x.1 (sym (ap (get_elem? (e ∷ es)) zero_th) ∙ s.0.2) in
      let left : (n : ℕ) → times n xs ≡ once_from (suc k) (length es) n = λ n. let all = t n in let a = times_cons n x xs in let b : once_from k (suc (length es)) n ≡ one_if (suc k) n + once_from (suc k) (length es) n = refl in let f : one_if x.0 n ≡ one_if (suc k) n = ap (λ (z : ℕ). one_if z n) first in omega arith in
      let gone : times (suc k) xs ≡ 0 = left (suc k) ∙ before (suc k) (length es) (suc k) (omega arith) in
      let more : Rises (suc (suc k)) xs = above k xs gone (subst (λ (z : ℕ). Rises z xs) first r.1) in
      λ j. sym same j ∷ ordered (suc k) es xs more left (shifted k e es xs gone s.1) j

  rises_by : (low : ℕ) (xs : List (ℕ × E)) → IsNonDecreasingBy (λ x. x.0) xs → ((x : ℕ × E) → get_elem? xs 0 ≡ some x → low ≤ x.0) → Rises low xs
  rises_by low [] sorted first = tt
  rises_by low (x ∷ xs) sorted first = (first x refl, rises_by x.0 xs (λ i j d a b. sorted (suc i) (suc j) d (omega arith) (omega arith)) (next xs sorted)) where
    next : (ys : List (ℕ × E)) → IsNonDecreasingBy (λ z. z.0) (x ∷ ys) → (y : ℕ × E) → get_elem? ys 0 ≡ some y → x.0 ≤ y.0
    next [] s y e = absurd (some-ne-none y (sym e))
    next (z ∷ zs) s y e = subst (λ (w : ℕ × E). x.0 ≤ w.0) (some-injective z y e) (s 0 1 x (omega arith) (omega arith))

  abbrev One : ℕ → List E → ℕ × E → Type 0
  One k h x = (i : ℕ) × (x.0 ≡ k + i + 1) × (get_elem? h i ≡ some x.1)

  stand_all : (k : ℕ) (h : List E) (xs : List (ℕ × E)) → Stand k h xs → All (One k h) xs
  stand_all k h [] s = search rules
  stand_all k h (x ∷ xs) s = All-cons (One k h) x xs s.0 (stand_all k h xs s.1)

  all_stand : (k : ℕ) (h : List E) (xs : List (ℕ × E)) → All (One k h) xs → Stand k h xs
  all_stand k h [] s = tt
  all_stand k h (x ∷ xs) s = (All-head (One k h) x xs s, all_stand k h xs (All-tail (One k h) x xs s))

  pub stand_moved : (k : ℕ) (h : List E) (xs ys : List (ℕ × E)) → IsPermutation xs ys → Stand k h xs → Stand k h ys
  stand_moved k h xs ys p s = all_stand k h ys (All-permutation (One k h) xs ys p (stand_all k h xs s))

  pub sorted_is_history : (h : List E) (xs ys : List (ℕ × E)) → IsPermutation xs ys → IsNonDecreasingBy (λ x. x.0) ys → ((n : ℕ) → times n ys ≡ times n xs) → Stand 0 h xs → ((n : ℕ) → times n xs ≡ once (length h) n) → map (λ x. x.1) ys ≡ h
  sorted_is_history h xs ys p sorted same stand each =
      let there : Stand 0 h ys = stand_moved 0 h xs ys p stand in
      ordered 0 h ys (rises_by 1 ys sorted (from_one ys there)) (λ n. same n ∙ (each n ∙ from_start (length h) n)) there where
        from_one : (zs : List (ℕ × E)) → Stand 0 h zs → (z : ℕ × E) → get_elem? zs 0 ≡ some z → 1 ≤ z.0
        from_one [] s z e = absurd (some-ne-none z (sym e))
        from_one (w ∷ ws) s z e = subst (λ (u : ℕ × E). 1 ≤ u.0) (some-injective w z e) (let at = s.0.1 in omega arith)

  logged_times : (n : ℕ) (pairs : List (ℕ × E)) → logged n pairs ≡ times n pairs
  logged_times n [] = refl
  logged_times n (x ∷ xs) = let c = times_cons n x xs in let r = logged_times n xs in omega arith

  stand_of : (h : List E) (pairs : List (ℕ × E)) → InHistory h pairs → Stand 0 h pairs
  stand_of h [] s = tt
  stand_of h (x ∷ xs) s = ((s.0.0, (let e = s.0.1 in omega arith), s.0.2), stand_of h xs s.1)

  -- pairs that have each number of a history once, ordered by number, are the history
  pub history_of : (h : List E) (xs ys : List (ℕ × E)) → IsPermutation xs ys → IsNonDecreasingBy (λ x. x.0) ys → ((n : ℕ) → times n ys ≡ times n xs) → InHistory h xs → ((n : ℕ) → logged n xs ≡ once (length h) n) → map (λ x. x.1) ys ≡ h
  history_of h xs ys p sorted same s each = sorted_is_history h xs ys p sorted same (stand_of h xs s) (λ n. sym (logged_times n xs) ∙ each n)
