-- Elements of lists that grow at their end, or that are made of another list's.
use Rattle.std.specs.Prelude.{slice_get, option_and_then}
use Rattle.std.specs.List.{enumerate_from}
use Rattle.std.proofs.Common.{◌≡◌, ℕ, zero, suc, ◌+◌, ◌<◌, List, [], ◌∷◌, ◌++◌, length, get_or, map, replicate, Option, Some, None, refl, sym, ap, subst, ◌∙◌, arith}
use Rattle.std.proofs.lemmas.Option.{same_Some, slice_get-get_or}

-- one more element, with its number
pub enumerated_more : {X : Type 0} (n : ℕ) (xs : List X) (x : X) → enumerate_from n (xs ++ x ∷ []) ≡ enumerate_from n xs ++ (n + length xs, x) ∷ []
enumerated_more n [] x = let e : n ≡ n + 0 = omega arith in ap (λ m. (m, x) ∷ []) e
enumerated_more n (y ∷ ys) x =
    let e : n + 1 + length ys ≡ n + suc (length ys) = omega arith in
    ap (λ l. (n, y) ∷ l) (enumerated_more (n + 1) ys x ∙ ap (λ m. enumerate_from (n + 1) ys ++ (m, x) ∷ []) e)

-- what is made of an element and its number
pub got_enumerated : {X Y : Type 0} (f : ℕ × X → Y) (n : ℕ) (xs : List X) (w : ℕ) (x : X) → slice_get xs w ≡ Some x → slice_get (map f (enumerate_from n xs)) w ≡ Some (f (n + w, x))
got_enumerated f n [] w x e = cc
got_enumerated f n (y ∷ ys) zero x e =
    let same : n ≡ n + 0 = omega arith in
    ap (λ z. Some (f (n, z))) (same_Some y x e) ∙ ap (λ m. Some (f (m, x))) same
got_enumerated f n (y ∷ ys) (suc w) x e =
    let same : n + 1 + w ≡ n + suc w = omega arith in
    got_enumerated f (n + 1) ys w x e ∙ ap (λ m. Some (f (m, x))) same

pub got_repeated : {X : Type 0} (n w : ℕ) (x : X) → w < n → slice_get (replicate n x) w ≡ Some x
got_repeated zero w x less = absurd (omega arith)
got_repeated (suc n) zero x less = refl
got_repeated (suc n) (suc w) x less = got_repeated n w x (omega arith)

pub got_none : {X Y : Type 0} (xs : List X) (k : ℕ) → option_and_then (λ (o : Option Y). o) (slice_get (map (λ _. None) xs) k) ≡ None
got_none [] k = refl
got_none (x ∷ xs) zero = refl
got_none (x ∷ xs) (suc k) = got_none xs k

-- an element by its number, as a loop sees it
pub got_seen : {X : Type 0} (xs seen : List X) (i : ℕ) (x : X) → seen ≡ xs → i < length seen → x ≡ get_or seen i x → slice_get xs i ≡ Some x
got_seen {X = X} xs seen i x same less is =
    subst (λ (l : List X). slice_get l i ≡ Some x) same (slice_get-get_or seen i x less ∙ ap (λ (y : X). Some y) (sym is))
