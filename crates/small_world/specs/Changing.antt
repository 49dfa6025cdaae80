-- Lists of counters of which one is changed, for the laws.
use Rattle.std.proofs.Common.{◌≡◌, ◌≢◌, ℕ, zero, suc, ◌+◌, ◌<◌, ◌≤◌, true, false, nat_lt, List, []}
use Rattle.std.proofs.Common.{◌∷◌, length, set, sym, refl, ap, arith}
use Rattle.std.proofs.lemmas.Bool.{ltb-true, both_ways}
use mathlib.Core.Option.{some, some-injective, some-ne-none}
use lib.ListN.{get_elem?}
use Rattle.be_hall.specs.Numbers.{total}
use Rattle.be_hall.specs.Machine.{AllFit}
use Rattle.small_world.specs.declared.step.Count.{Count}
use Rattle.small_world.specs.Counting.{changed_at, has}

-- one counter is changed
module _ (f : Count → Count) where
  pub length-changed : (l : List Count) (p : ℕ) → length (changed_at f l p) ≡ length l
  length-changed [] p = refl
  length-changed (x ∷ xs) zero = refl
  length-changed (x ∷ xs) (suc p) = ap suc (length-changed xs p)

  pub changed_else : (l : List Count) (p q : ℕ) → q ≢ p
      → get_elem? (changed_at f l p) q ≡ get_elem? l q
  changed_else [] p q n = refl
  changed_else (x ∷ xs) zero zero n = absurd (n refl)
  changed_else (x ∷ xs) zero (suc q) n = refl
  changed_else (x ∷ xs) (suc p) zero n = refl
  changed_else (x ∷ xs) (suc p) (suc q) n = changed_else xs p q (λ e. n (ap suc e))

  pub changed_is : (l : List Count) (p : ℕ) (c : Count) → get_elem? l p ≡ some c
      → changed_at f l p ≡ set l p (f c)
  changed_is [] p c e = refl
  changed_is (x ∷ xs) zero c e = λ i. f (some-injective x c e i) ∷ xs
  changed_is (x ∷ xs) (suc p) c e = ap (λ (t : List Count). x ∷ t) (changed_is xs p c e)

  pub total_changed : (g : Count → ℕ) (l : List Count) (p : ℕ) (c : Count) → get_elem? l p ≡ some c
      → total g (changed_at f l p) + g c ≡ total g l + g (f c)
  total_changed g [] p c e = absurd (some-ne-none c (sym e))
  total_changed g (x ∷ xs) zero c e =
      let is : g x ≡ g c = ap g (some-injective x c e) in
      let new : g (f x) ≡ g (f c) = ap (λ (k : Count). g (f k)) (some-injective x c e) in
      omega arith
  total_changed g (x ∷ xs) (suc p) c e = let r = total_changed g xs p c e in omega arith

  pub has_else : (part : Count → ℕ) (l : List Count) (p q : ℕ) → q ≢ p
      → has part (changed_at f l p) q ≡ has part l q
  has_else part [] p q n = refl
  has_else part (x ∷ xs) zero zero n = absurd (n refl)
  has_else part (x ∷ xs) zero (suc q) n = refl
  has_else part (x ∷ xs) (suc p) zero n = refl
  has_else part (x ∷ xs) (suc p) (suc q) n = has_else part xs p q (λ e. n (ap suc e))

  pub has_none : (part : Count → ℕ) → ((c : Count) → part (f c) ≡ 0) → (l : List Count) (p : ℕ)
      → has part (changed_at f l p) p ≡ false
  has_none part z [] p = refl
  has_none part z (x ∷ xs) zero = ap (nat_lt 0) (z x)
  has_none part z (x ∷ xs) (suc p) = has_none part z xs p

pub there : (l : List Count) (p : ℕ) → p < length l → (c : Count) × (get_elem? l p ≡ some c)
there [] p h = absurd (omega arith)
there (x ∷ xs) zero h = (x, refl)
there (x ∷ xs) (suc p) h = there xs p (omega arith)

module _ (part : Count → ℕ) where
  pub has_some : (l : List Count) (p : ℕ) → has part l p ≡ true
      → (c : Count) × (get_elem? l p ≡ some c) × (0 < part c)
  has_some [] p h = absurd (both_ways false refl h)
  has_some (x ∷ xs) zero h = (x, refl, ltb-true 0 (part x) h)
  has_some (x ∷ xs) (suc p) h = has_some xs p h

  pub has_at : (l : List Count) (p : ℕ) (c : Count) → get_elem? l p ≡ some c
      → has part l p ≡ nat_lt 0 (part c)
  has_at [] p c e = absurd (some-ne-none c (sym e))
  has_at (x ∷ xs) zero c e = ap (λ (k : Count). nat_lt 0 (part k)) (some-injective x c e)
  has_at (x ∷ xs) (suc p) c e = has_at xs p c e

-- a counter has at most so many units, and one
abbrev pub Fit : ℕ → Count → Type 0
Fit n c = c.units ≤ n + 4294967296

module _ (n k : ℕ) (more : (c : Count) → Fit n c → Fit k c) where
  all_more : (l : List Count) → AllFit Fit n l → AllFit Fit k l
  all_more [] a = tt
  all_more (x ∷ xs) a = (more x a.0, all_more xs a.1)

  pub fit_changed : (f : Count → Count) → ((c : Count) → Fit n c → Fit k (f c))
      → (l : List Count) (p : ℕ) → AllFit Fit n l → AllFit Fit k (changed_at f l p)
  fit_changed f g [] p a = tt
  fit_changed f g (x ∷ xs) zero a = (g x a.0, all_more xs a.1)
  fit_changed f g (x ∷ xs) (suc p) a = (more x a.0, fit_changed f g xs p a.1)
