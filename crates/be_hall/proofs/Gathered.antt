-- All parts in hand, from the first place on.
use Rattle.std.proofs.Common.{◌≡◌, ℕ, zero, suc, ◌+◌, ◌<◌, ◌≤◌, inl, inr, List, [], ◌∷◌, ◌++◌, map, length, refl, sym, ap, ◌∙◌, subst, arith}
use mathlib.Core.Logic.{dite}
use mathlib.Core.Option.{some, some-injective}
use native.Mathlib.Decide.{dec_le}
use lib.ListN.{get_elem?}
use Rattle.be_hall.specs.Hands.{meant, numbered, places_of, up_from}
use Rattle.be_hall.specs.Machine.{AllFit, Fits, HeldFit, IsHeld}

no_list : (ps : List ℕ) (q : ℕ) → [] ≡ q ∷ ps → ⊥
no_list ps q h = cc

some_list : (ps : List ℕ) (q : ℕ) → q ∷ ps ≡ [] → ⊥
some_list ps q h = cc

firsts : (a b : ℕ) (ps qs : List ℕ) → a ∷ ps ≡ b ∷ qs → a ≡ b
firsts a b ps qs h = cc

rests : (a b : ℕ) (ps qs : List ℕ) → a ∷ ps ≡ b ∷ qs → ps ≡ qs
rests a b ps qs h = cc

-- ---- lists of meanings

module _ {M : Type 0} where
  at_end : (ms : List M) (n : ℕ) (m : M) (rest : List M) → length ms ≡ n → get_elem? (ms ++ m ∷ rest) n ≡ some m
  at_end [] zero m rest h = refl
  at_end [] (suc n) m rest h = absurd (omega arith)
  at_end (y ∷ ys) zero m rest h = absurd (omega arith)
  at_end (y ∷ ys) (suc n) m rest h = at_end ys n m rest (omega arith)

  moved : (ms : List M) (m : M) (rest : List M) → (ms ++ m ∷ []) ++ rest ≡ ms ++ m ∷ rest
  moved [] m rest = refl
  moved (y ∷ ys) m rest = ap (λ l. y ∷ l) (moved ys m rest)

  long : (ms : List M) (m : M) → length (ms ++ m ∷ []) ≡ length ms + 1
  long [] m = refl
  long (y ∷ ys) m = let r = long ys m in omega arith

-- ---- parts

module _ {T M : Type 0} (meaning : T → M) where
  pub fits_from : (before : List M) (k n : ℕ) (held : List (ℕ × T)) → length before ≡ k → places_of held ≡ up_from k n → Fits (before ++ map (λ x. meaning x.1) held) (meant meaning held)
  fits_from before k n [] b e = tt
  fits_from before k zero (x ∷ xs) b e = absurd (some_list (places_of xs) x.0 e)
  fits_from before k (suc n) (x ∷ xs) b e =
      let here : x.0 ≡ k = firsts x.0 k (places_of xs) (up_from (suc k) n) e in
      let rest : List M = map (λ y. meaning y.1) xs in
      let l = long before (meaning x.1) in (
        ap (get_elem? (before ++ meaning x.1 ∷ rest)) here ∙ at_end before k (meaning x.1) rest b,
        subst (λ l. Fits l (meant meaning xs)) (moved before (meaning x.1) rest)
            (fits_from (before ++ meaning x.1 ∷ []) (suc k) n xs (omega arith) (rests x.0 k (places_of xs) (up_from (suc k) n) e)),
      )

  pub held_at : (k n p : ℕ) (held : List (ℕ × T)) → places_of held ≡ up_from k n → k ≤ p → p < k + n → IsHeld (meant meaning held) p
  held_at k zero p held e a b = absurd (omega arith)
  held_at k (suc n) p [] e a b = absurd (no_list (up_from (suc k) n) k e)
  held_at k (suc n) p (x ∷ xs) e a b =
      let here : x.0 ≡ k = firsts x.0 k (places_of xs) (up_from (suc k) n) e in
      let more : places_of xs ≡ up_from (suc k) n = rests x.0 k (places_of xs) (up_from (suc k) n) e in
      dite (dec_le p k)
      (λ at. inl (let same : p ≡ k = omega arith in here ∙ sym same))
      (λ past. inr (held_at (suc k) n p xs more (omega arith) (omega arith)))

  pub all_in : (n : ℕ) (held : List (ℕ × T)) → places_of held ≡ up_from 0 n → (p : ℕ) → p < n → IsHeld (meant meaning held) p
  all_in n held e p b = held_at 0 n p held e (omega arith) (omega arith)

  -- all parts that a list gives are the list
  pub whole : (k n : ℕ) (before all : List M) (held : List (ℕ × T)) → places_of held ≡ up_from k n → length before ≡ k → length all ≡ n → Fits (before ++ all) (meant meaning held) → map (λ y. meaning y.1) held ≡ all
  whole k zero before [] [] e b l f = refl
  whole k zero before (m ∷ ms) held e b l f = absurd (omega arith)
  whole k zero before [] (y ∷ ys) e b l f = absurd (some_list (places_of ys) y.0 e)
  whole k (suc n) before [] held e b l f = absurd (omega arith)
  whole k (suc n) before (m ∷ ms) [] e b l f = absurd (no_list (up_from (suc k) n) k e)
  whole k (suc n) before (m ∷ ms) (y ∷ ys) e b l f =
      let here : y.0 ≡ k = firsts y.0 k (places_of ys) (up_from (suc k) n) e in
      let same : meaning y.1 ≡ m = some-injective (meaning y.1) m (sym (subst (λ p. get_elem? (before ++ m ∷ ms) p ≡ some (meaning y.1)) here f.0) ∙ at_end before k m ms b) in
      let more = whole (suc k) n (before ++ m ∷ []) ms ys (rests y.0 k (places_of ys) (up_from (suc k) n) e) (let r = long before m in omega arith) (omega arith) (subst (λ z. Fits z (meant meaning ys)) (sym (moved before m ms)) f.1) in
      λ i. same i ∷ more i

  -- parts that mean the same stand at the same places
  pub same_firsts : (xs ys : List (ℕ × T)) → meant meaning xs ≡ meant meaning ys → places_of xs ≡ places_of ys
  same_firsts xs ys e = sym (of_meant xs) ∙ (ap (map (λ z. z.0)) e ∙ of_meant ys)
    where
      of_meant : (zs : List (ℕ × T)) → map (λ z. z.0) (meant meaning zs) ≡ places_of zs
      of_meant [] = refl
      of_meant (z ∷ zs) = ap (λ l. z.0 ∷ l) (of_meant zs)

  pub same_seconds : (xs ys : List (ℕ × T)) → meant meaning xs ≡ meant meaning ys → map (λ z. meaning z.1) xs ≡ map (λ z. meaning z.1) ys
  same_seconds xs ys e = sym (of_meant xs) ∙ (ap (map (λ z. z.1)) e ∙ of_meant ys)
    where
      of_meant : (zs : List (ℕ × T)) → map (λ z. z.1) (meant meaning zs) ≡ map (λ z. meaning z.1) zs
      of_meant [] = refl
      of_meant (z ∷ zs) = ap (λ l. meaning z.1 ∷ l) (of_meant zs)

  -- ---- the parts of a list, each at its place

  pub numbered_places : (k : ℕ) (xs : List T) → places_of (numbered k xs) ≡ up_from k (length xs)
  numbered_places k [] = refl
  numbered_places k (x ∷ xs) = ap (λ l. k ∷ l) (numbered_places (suc k) xs)

  pub numbered_fits : (before : List M) (k : ℕ) (xs : List T) → length before ≡ k → Fits (before ++ map meaning xs) (meant meaning (numbered k xs))
  numbered_fits before k [] e = tt
  numbered_fits before k (x ∷ xs) e = (at_end before k (meaning x) (map meaning xs) e, subst (λ l. Fits l (meant meaning (numbered (suc k) xs))) (moved before (meaning x) (map meaning xs)) (numbered_fits (before ++ meaning x ∷ []) (suc k) xs (let l = long before (meaning x) in omega arith)))

  pub numbered_means : (k : ℕ) (xs : List T) → map (λ x. meaning x.1) (numbered k xs) ≡ map meaning xs
  numbered_means k [] = refl
  numbered_means k (x ∷ xs) = ap (λ l. meaning x ∷ l) (numbered_means (suc k) xs)

  pub numbered_fit : (fits : ℕ → M → Type 0) (n k : ℕ) (xs : List T) → AllFit fits n (map meaning xs) → HeldFit fits n (meant meaning (numbered k xs))
  numbered_fit fits n k [] a = tt
  numbered_fit fits n k (x ∷ xs) a = (a.0, numbered_fit fits n (suc k) xs a.1)
