-- Sums over lists.
use Rattle.std.proofs.Common.{◌≡◌, ℕ, zero, suc, ◌+◌, ◌≤◌, List, [], ◌∷◌, ◌++◌, ap, arith}
use mathlib.Core.Option.{some, some-injective, some-ne-none}
use lib.ListN.{get_elem?}
use Rattle.be_hall.specs.Numbers.{total}
use Rattle.std.proofs.Common.{sym, refl}

module _ {A : Type 0} where
  pub total_append : (f : A → ℕ) (l m : List A) → total f (l ++ m) ≡ total f l + total f m
  total_append f [] m = omega arith
  total_append f (x ∷ xs) m = let r = total_append f xs m in omega arith

  -- each is at most the sum
  pub total_inside : (f : A → ℕ) (l : List A) (i : ℕ) (x : A) → get_elem? l i ≡ some x → f x ≤ total f l
  total_inside f [] i x e = absurd (some-ne-none x (sym e))
  total_inside f (y ∷ ys) zero x e = let is : f y ≡ f x = ap f (some-injective y x e) in omega arith
  total_inside f (y ∷ ys) (suc i) x e = let r = total_inside f ys i x e in omega arith

  -- where the one is nothing so is the other
  pub total_where_none : (f g : A → ℕ) → ((x : A) → f x ≡ 0 → g x ≡ 0) → (l : List A) → total f l ≡ 0 → total g l ≡ 0
  total_where_none f g both [] none = refl
  total_where_none f g both (x ∷ xs) none =
      let here = both x (omega arith) in
      let rest = total_where_none f g both xs (omega arith) in
      omega arith
