-- What is lent, one by one.
use Rattle.std.proofs.Common.{◌≡◌, ℕ, zero, suc, ◌<◌, List, [], ◌∷◌, map, length, get_or, refl, sym, ap, ◌∙◌, subst}
use Rattle.std.proofs.lemmas.List.{length-map}

module _ {A B : Type 0} (f : A → B) where
  pub get_or_map : (xs : List A) (i : ℕ) (d : A) → get_or (map f xs) i (f d) ≡ f (get_or xs i d)
  get_or_map [] i d = refl
  get_or_map (x ∷ xs) zero d = refl
  get_or_map (x ∷ xs) (suc i) d = get_or_map xs i d

  pub within_map : (xs : List A) (i : ℕ) → i < length xs → i < length (map f xs)
  within_map xs i lt = subst (λ n. i < n) (sym (length-map xs f)) lt

  pub read_map : (xs : List A) (i : ℕ) (x : A) → x ≡ get_or xs i x → f x ≡ get_or (map f xs) i (f x)
  read_map xs i x e = ap f e ∙ sym (get_or_map xs i x)
