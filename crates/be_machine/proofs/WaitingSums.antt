-- Lemmas on sums over lists, and on the letters that a port holds.
use Rattle.std.proofs.Common.{◌≡◌, ℕ, zero, suc, ◌+◌, ◌≤◌, List, [], ◌∷◌, ◌++◌, drop, length, Option, Some, None, refl, sym, ap, ◌∙◌, arith}
use Rattle.std.specs.Prelude.{slice_get, slice_set}
use Rattle.std.proofs.lemmas.Option.{same_Some}
use Rattle.be_machine.specs.Lists.{at, set_at}
use Rattle.be_machine.proofs.Lists.{at_here}
use Rattle.be_machine.proofs.Waiting.{total}

-- ---- sums

total_set : {X : Type 0} (f : X → ℕ) (xs : List X) (i : ℕ) (x y : X) → slice_get xs i ≡ Some x → total f (slice_set xs i y) + f x ≡ total f xs + f y
total_set f [] i x y e = cc
total_set f (z ∷ zs) zero x y e = let same : f z ≡ f x = ap f (same_Some z x e) in omega (arith, same)
total_set f (z ∷ zs) (suc i) x y e = let rest : total f (slice_set zs i y) + f x ≡ total f zs + f y = total_set f zs i x y e in omega (arith, rest)

-- the sum with an element changed
pub total_at : {X : Type 0} (f : X → ℕ) (xs : List X) (i : ℕ) (g : X → X) (x : X) → slice_get xs i ≡ Some x → total f (at xs i g) + f x ≡ total f xs + f (g x)
total_at f xs i g x e = ap (λ o. total f (set_at xs i g o) + f x) e ∙ total_set f xs i x (g x) e

kept_by : {X : Type 0} (f : X → ℕ) (xs : List X) (i : ℕ) (g : X → X) (o : Option X) → slice_get xs i ≡ o → ((x : X) → slice_get xs i ≡ Some x → f (g x) ≡ f x) → total f (set_at xs i g o) ≡ total f xs
kept_by f xs i g (Some x) e keep =
    let sum : total f (slice_set xs i (g x)) + f x ≡ total f xs + f (g x) = total_set f xs i x (g x) e in
    let same : f (g x) ≡ f x = keep x e in
    omega (arith, sum, same)
kept_by f xs i g None e keep = refl

-- ... in a way that keeps its number
pub total_kept : {X : Type 0} (f : X → ℕ) (xs : List X) (i : ℕ) (g : X → X) → ((x : X) → slice_get xs i ≡ Some x → f (g x) ≡ f x) → total f (at xs i g) ≡ total f xs
total_kept f xs i g keep = kept_by f xs i g (slice_get xs i) refl keep

pub total_append : {X : Type 0} (f : X → ℕ) (xs ys : List X) → total f (xs ++ ys) ≡ total f xs + total f ys
total_append f [] ys = omega arith
total_append f (x ∷ xs) ys = let rest : total f (xs ++ ys) ≡ total f xs + total f ys = total_append f xs ys in omega (arith, rest)

-- one element more behind those that were dropped
pub total_more : {X : Type 0} (f : X → ℕ) (xs : List X) (k : ℕ) (x : X) → k ≤ length xs → total f (drop k (xs ++ x ∷ [])) ≡ total f (drop k xs) + f x
total_more f xs zero x h = let sum : total f (xs ++ x ∷ []) ≡ total f xs + total f (x ∷ []) = total_append f xs (x ∷ []) in omega (arith, sum)
total_more f [] (suc k) x h = absurd (omega arith)
total_more f (y ∷ ys) (suc k) x h = total_more f ys k x (omega arith)

-- the first that wasn't dropped
pub total_front : {X : Type 0} (f : X → ℕ) (xs : List X) (k : ℕ) (x : X) → slice_get xs k ≡ Some x → total f (drop k xs) ≡ f x + total f (drop (k + 1) xs)
total_front f [] k x e = cc
total_front f (y ∷ ys) zero x e = ap (λ z. f z + total f ys) (same_Some y x e)
total_front f (y ∷ ys) (suc k) x e =
    let same : suc (k + 1) ≡ suc k + 1 = omega arith in
    total_front f ys k x e ∙ ap (λ i. f x + total f (drop i (y ∷ ys))) same

pub total_none : {X : Type 0} (f : X → ℕ) (xs : List X) → ((i : ℕ) (x : X) → slice_get xs i ≡ Some x → f x ≡ 0) → total f xs ≡ 0
total_none f [] none = refl
total_none f (x ∷ xs) none =
    let here : f x ≡ 0 = none 0 x refl in
    let rest : total f xs ≡ 0 = total_none f xs (λ i. none (suc i)) in
    omega (arith, here, rest)

-- ---- two changes at one place

set_twice : {X : Type 0} (xs : List X) (i : ℕ) (y z : X) → slice_set (slice_set xs i y) i z ≡ slice_set xs i z
set_twice [] i y z = refl
set_twice (x ∷ xs) zero y z = refl
set_twice (x ∷ xs) (suc i) y z = ap (λ ys. x ∷ ys) (set_twice xs i y z)

twice_by : {X : Type 0} (xs : List X) (i : ℕ) (f g : X → X) (o : Option X) → slice_get xs i ≡ o → at (set_at xs i f o) i g ≡ set_at xs i (λ x. g (f x)) o
twice_by xs i f g (Some x) e =
    ap (set_at (slice_set xs i (f x)) i g) (sym (ap (λ o. slice_get (set_at xs i f o) i) e) ∙ at_here xs i f x e) ∙ set_twice xs i (f x) (g (f x))
twice_by xs i f g None e = ap (set_at xs i g) e

-- one after the other
pub at_twice : {X : Type 0} (xs : List X) (i : ℕ) (f g : X → X) → at (at xs i f) i g ≡ at xs i (λ x. g (f x))
at_twice xs i f g = twice_by xs i f g (slice_get xs i) refl

-- one of them is no more than all
pub one_of_all : {X : Type 0} (f : X → ℕ) (xs : List X) (i : ℕ) (x : X) → slice_get xs i ≡ Some x → f x ≤ total f xs
one_of_all f [] i x e = cc
one_of_all f (y ∷ ys) zero x e = let same : f y ≡ f x = ap f (same_Some y x e) in omega (arith, same)
one_of_all f (y ∷ ys) (suc i) x e = let rest : f x ≤ total f ys = one_of_all f ys i x e in omega (arith, rest)
