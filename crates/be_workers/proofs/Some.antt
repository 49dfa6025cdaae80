-- What holds of some element of a list.
use Rattle.std.proofs.Common.{◌≡◌, ℕ, zero, suc, ◌<◌, ◌⊎◌, inl, inr, ⊎_elim, Bool, true, false}
use Rattle.std.proofs.Common.{MatchBool, List, [], ◌∷◌, ◌++◌, Any, HoldsAt, length, get_or, refl}
use Rattle.std.proofs.Common.{sym, subst, arith}
use Rattle.std.specs.List.{AllWithin}
use Rattle.std.proofs.lemmas.Bool.{false≢true}

module _ {X : Type 0} (P : X → Type 0) where
  pub any_none : Any P [] → ⊥
  any_none h = let k : h.0 < 0 = h.2 in omega arith

  at : (x : X) (xs : List X) (k : ℕ) (y : X) → k < length (x ∷ xs) → get_or (x ∷ xs) k y ≡ y → P y
      → P x ⊎ Any P xs
  at x xs zero y long is p = inl (subst P (sym is) p)
  at x xs (suc k) y long is p =
      inr (k, y, (let l : suc k < suc (length xs) = long in omega arith), is, p)

  pub any_split : (x : X) (xs : List X) → Any P (x ∷ xs) → P x ⊎ Any P xs
  any_split x xs h = at x xs h.0 h.1 h.2 h.3 h.4

  pub any_here : (x : X) (xs : List X) → P x → Any P (x ∷ xs)
  any_here x xs p = (0, x, (let l : 0 < suc (length xs) = omega arith in l), refl, p)

  pub any_there : (x : X) (xs : List X) → Any P xs → Any P (x ∷ xs)
  any_there x xs h =
      let long : h.0 < length xs = h.2 in
      (suc h.0, h.1, (let l : suc h.0 < suc (length xs) = omega arith in l), h.3, h.4)

  pub any_at : (xs : List X) (k : ℕ) → k < length xs → ((d : X) → P (get_or xs k d)) → Any P xs
  any_at [] k long h = let l : k < 0 = long in absurd (omega arith)
  any_at (x ∷ xs) zero long h = any_here x xs (h x)
  any_at (x ∷ xs) (suc k) long h =
      let l : suc k < suc (length xs) = long in any_there x xs (any_at xs k (omega arith) h)

  -- where a chain's `any` answered true
  pub any_from : (Q : X → Type 0) (r : Bool) (xs : List X)
      → MatchBool r ((k : ℕ) × (k < length xs) × HoldsAt P xs k) (AllWithin Q xs 0 (length xs))
      → r ≡ true → Any P xs
  any_from Q true xs h is = any_at xs h.0 h.1 h.2
  any_from Q false xs h is = absurd (false≢true is)

  pub any_front : (xs ys : List X) → Any P xs → Any P (xs ++ ys)
  any_front [] ys h = absurd (any_none h)
  any_front (x ∷ xs) ys h =
      ⊎_elim (λ here. any_here x (xs ++ ys) here)
      (λ there. any_there x (xs ++ ys) (any_front xs ys there)) (any_split x xs h)

  pub any_back : (xs ys : List X) → Any P ys → Any P (xs ++ ys)
  any_back [] ys h = h
  any_back (x ∷ xs) ys h = any_there x (xs ++ ys) (any_back xs ys h)
