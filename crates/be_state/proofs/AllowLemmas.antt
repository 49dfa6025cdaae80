-- What all layers that were asked say together.
use Rattle.std.proofs.Common.{◌≡◌, ℕ, ◌+◌, ◌<◌, List, length, get_or, take, Bool, true, false, ◌&&◌, sym, ap, ◌∙◌}
use Rattle.std.specs.List.{list_all}
use Rattle.std.proofs.lemmas.List.Folds.{list_all_more, list_all_at}

-- one more that says yes
pub next_yes : {X : Type 0} (p : X → Bool) (xs : List X) (i : ℕ) (item : X) → i < length xs → item ≡ get_or xs i item → list_all p (take i xs) ≡ true → p item ≡ true → list_all p (take (i + 1) xs) ≡ true
next_yes p xs i item h is a b =
    list_all_more p xs i item h ∙ ap (λ t. t && p (get_or xs i item)) a ∙ ap p (sym is) ∙ b

-- one that says no
pub one_fails : {X : Type 0} (p : X → Bool) (xs : List X) (i : ℕ) (item : X) → i < length xs → item ≡ get_or xs i item → p item ≡ false → list_all p xs ≡ false
one_fails p xs i item h is e = list_all_at p xs i item h (ap p (sym is) ∙ e)
