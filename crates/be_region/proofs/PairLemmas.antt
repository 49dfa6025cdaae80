-- What holds of each two places of a list.
use Rattle.std.proofs.Common.{ℕ, ◌+◌, suc, zero, List, [], ◌∷◌, ◌++◌, take, drop, All, arith}
use Rattle.std.specs.List.{AllPairs}
use Rattle.std.proofs.lemmas.List.{length-take, length-drop, get_or-take, get_or-drop}
use Rattle.std.proofs.lemmas.List.Elements.{All-append, All-head, All-tail}

pub pairs_head : {X : Type 0} (R : X → X → Type 0) (x : X) (xs : List X) → AllPairs R (x ∷ xs) → All (R x) xs
pairs_head R x xs h k d m = h 0 (suc k) d (omega arith) (omega arith)

pub pairs_tail : {X : Type 0} (R : X → X → Type 0) (x : X) (xs : List X) → AllPairs R (x ∷ xs) → AllPairs R xs
pairs_tail R x xs h i j d m n = h (suc i) (suc j) d (omega arith) (omega arith)

pub pairs_none : {X : Type 0} (R : X → X → Type 0) → AllPairs R []
pairs_none R i j d m n = absurd (omega arith)

pub pairs_cons : {X : Type 0} (R : X → X → Type 0) (x : X) (xs : List X) → All (R x) xs → AllPairs R xs → AllPairs R (x ∷ xs)
pairs_cons R x xs h k zero zero d m n = absurd (omega arith)
pairs_cons R x xs h k zero (suc j) d m n = h j d (omega arith)
pairs_cons R x xs h k (suc i) zero d m n = absurd (omega arith)
pairs_cons R x xs h k (suc i) (suc j) d m n = k i j d (omega arith) (omega arith)

pub pairs_append : {X : Type 0} (R : X → X → Type 0) (xs ys : List X) → AllPairs R xs → AllPairs R ys → All (λ x. All (R x) ys) xs → AllPairs R (xs ++ ys)
pairs_append R [] ys h k cross = k
pairs_append R (x ∷ xs) ys h k cross =
    pairs_cons R x (xs ++ ys) (All-append (R x) xs ys (pairs_head R x xs h) (All-head (λ z. All (R z) ys) x xs cross)) (pairs_append R xs ys (pairs_tail R x xs h) k (All-tail (λ z. All (R z) ys) x xs cross))

pub pairs_take : {X : Type 0} (R : X → X → Type 0) (n : ℕ) (xs : List X) → AllPairs R xs → AllPairs R (take n xs)
pairs_take R n xs h i j d m k =
    let l = length-take n xs in
    rw (get_or-take n xs i d (omega arith), get_or-take n xs j d (omega arith)) (h i j d m (omega arith))

pub pairs_drop : {X : Type 0} (R : X → X → Type 0) (n : ℕ) (xs : List X) → AllPairs R xs → AllPairs R (drop n xs)
pairs_drop R n xs h i j d m k =
    let l = length-drop n xs in
    rw (get_or-drop n xs i d, get_or-drop n xs j d) (h (n + i) (n + j) d (omega arith) (omega arith))
