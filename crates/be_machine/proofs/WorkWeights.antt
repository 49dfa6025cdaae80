-- Sums over lists, where what an element weighs goes by its place too.
use Rattle.std.proofs.Common.{◌≡◌, ℕ, zero, suc, ◌+◌, ◌≤◌, List, [], ◌∷◌, ◌++◌, drop, length, replicate, sum_by, Option, Some, None, refl, ap, arith}
use Rattle.std.specs.List.{range_with_len}
use Rattle.std.specs.Prelude.{slice_get, slice_set}
use Rattle.std.proofs.Math.Seq.{drop-nil}
use Rattle.std.proofs.lemmas.List.Sums.{sum_by-cons, sum_by_push}
use Rattle.std.proofs.lemmas.Option.{same_Some}
use Rattle.be_machine.specs.Lists.{at, set_at}
use Rattle.be_machine.specs.Shares.{weight_from, weight}

weight_from-set : {X : Type 0} (f : ℕ → X → ℕ) (k i j : ℕ) (xs : List X) (x y : X) → j ≡ k + i → slice_get xs i ≡ Some x → weight_from f k (slice_set xs i y) + f j x ≡ weight_from f k xs + f j y
weight_from-set f k i j [] x y at e = cc
weight_from-set f k zero j (z ∷ zs) x y at e =
    let same : z ≡ x = same_Some z x e in
    let here : j ≡ k = omega arith in
    rw (here, same) (omega arith)
weight_from-set f k (suc i) j (z ∷ zs) x y at e = omega (arith, weight_from-set f (k + 1) i j zs x y (omega arith) e)

set_weight : {X : Type 0} (f : ℕ → X → ℕ) (xs : List X) (i n : ℕ) (g : X → X) (o : Option X) → slice_get xs i ≡ o → ((x : X) → f i (g x) ≤ f i x + n) → weight f (set_at xs i g o) ≤ weight f xs + n
set_weight f xs i n g (Some x) e up = omega (arith, weight_from-set f 0 i i xs x (g x) (omega arith) e, up x)
set_weight f xs i n g None e up = omega arith

-- a change at a place adds to the sum at most what it adds there
pub weight_at : {X : Type 0} (f : ℕ → X → ℕ) (xs : List X) (i n : ℕ) (g : X → X) → ((x : X) → f i (g x) ≤ f i x + n) → weight f (at xs i g) ≤ weight f xs + n
weight_at f xs i n g up = set_weight f xs i n g (slice_get xs i) refl up

-- a change of an element that is there changes the sum as it changes the element
pub weight_at_there : {X : Type 0} (f : ℕ → X → ℕ) (xs : List X) (i : ℕ) (g : X → X) (x : X) → slice_get xs i ≡ Some x → weight f (at xs i g) + f i x ≡ weight f xs + f i (g x)
weight_at_there f xs i g x e = rw (ap (set_at xs i g) e) (weight_from-set f 0 i i xs x (g x) (omega arith) e)

-- what weighs no more in each element weighs no more in the sum
pub weight_from-le : {X : Type 0} (f g : ℕ → X → ℕ) (k : ℕ) (xs : List X) → ((i : ℕ) (x : X) → f i x ≤ g i x) → weight_from f k xs ≤ weight_from g k xs
weight_from-le f g k [] le = omega arith
weight_from-le f g k (x ∷ xs) le = omega (arith, le k x, weight_from-le f g (k + 1) xs le)

-- where an element weighs no more than its place says
pub weight_from_bound : {X : Type 0} (f : ℕ → X → ℕ) (g : ℕ → ℕ) (k : ℕ) (xs : List X) → ((i : ℕ) (x : X) → f i x ≤ g i) → weight_from f k xs ≤ sum_by g (range_with_len k (length xs))
weight_from_bound f g k [] le = omega arith
weight_from_bound f g k (x ∷ xs) le = omega (arith, le k x, weight_from_bound f g (k + 1) xs le, sum_by-cons g k (range_with_len (k + 1) (length xs)))

-- elements that weigh nothing
pub weightless : {X : Type 0} (f : ℕ → X → ℕ) (k n : ℕ) (x : X) → ((i : ℕ) → f i x ≡ 0) → weight_from f k (replicate n x) ≡ 0
weightless f k zero x none = refl
weightless f k (suc n) x none = omega (arith, none k, weightless f (k + 1) n x none)

-- ---- what is left of a list

pub sum_drop_push : {X : Type 0} (f : X → ℕ) (n : ℕ) (xs : List X) (y : X) → sum_by f (drop n (xs ++ y ∷ [])) ≤ sum_by f (drop n xs) + f y
sum_drop_push f zero xs y = omega (arith, sum_by_push f xs y)
sum_drop_push f (suc n) [] y = let none : sum_by f (drop n []) ≡ 0 = ap (sum_by f) (drop-nil n) in rw none (omega arith)
sum_drop_push f (suc n) (x ∷ xs) y = sum_drop_push f n xs y

pub sum_drop_read : {X : Type 0} (f : X → ℕ) (n : ℕ) (xs : List X) (x : X) → slice_get xs n ≡ Some x → sum_by f (drop n xs) ≡ f x + sum_by f (drop (n + 1) xs)
sum_drop_read f n [] x e = cc
sum_drop_read f zero (y ∷ ys) x e = let same : y ≡ x = same_Some y x e in rw same (sum_by-cons f x ys)
sum_drop_read f (suc n) (y ∷ ys) x e = let more : suc n + 1 ≡ suc (n + 1) = omega arith in rw more (sum_drop_read f n ys x e)
