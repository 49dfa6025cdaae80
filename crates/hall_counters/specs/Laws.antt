-- Counters keep the laws of parts.
use Rattle.std.proofs.Common.{◌≡◌, ℕ, zero, suc, ◌+◌, ◌<◌, ◌≤◌, inl, inr, ⊎_elim, List, [], ◌∷◌}
use Rattle.std.proofs.Common.{length, set, length-set, sym, refl, ap, ◌∙◌, subst, arith}
use mathlib.Core.Option.{some, some-injective, some-ne-none}
use lib.ListN.{get_elem?}
use Rattle.atomic_table.proofs.Lists.{set_else}
use Rattle.be_hall.specs.Numbers.{total}
use Rattle.be_hall.specs.Machine.{AllFit, Lawful}
use Rattle.hall_counters.specs.declared.transfer.Count.{Count}
use Rattle.hall_counters.specs.declared.transfer.Transfer.{Transfer}
use Rattle.hall_counters.specs.Counting.{gave, got, moved, counting}

pub inside : {A : Type 0} (l : List A) (p : ℕ) (a : A) → get_elem? l p ≡ some a → p < length l
inside [] p a e = absurd (some-ne-none a (sym e))
inside (x ∷ xs) zero a e = omega arith
inside (x ∷ xs) (suc p) a e = let h = inside xs p a e in omega arith

total_set : (f : Count → ℕ) (l : List Count) (i : ℕ) (v w : Count) → get_elem? l i ≡ some v
    → total f (set l i w) + f v ≡ total f l + f w
total_set f [] i v w e = absurd (some-ne-none v (sym e))
total_set f (x ∷ xs) zero v w e = let is : f x ≡ f v = ap f (some-injective x v e) in omega arith
total_set f (x ∷ xs) (suc i) v w e = let r = total_set f xs i v w e in omega arith

-- where both counters are there
pub moved_is : (all : List Count) (e : Transfer) (c d : Count) → get_elem? all e.source ≡ some c
    → get_elem? all e.target ≡ some d
    → moved all e (get_elem? all e.source) (get_elem? all e.target)
    ≡ set (set all e.source (gave c)) e.target (got d)
moved_is all e c d s t = λ i. moved all e (s i) (t i)

abbrev Fit : ℕ → Count → Type 0
Fit n c = c.units ≤ 4611686018427387904 + n

fit_set : (n : ℕ) (l : List Count) (i : ℕ) (c : Count) → Fit n c → AllFit Fit n l
    → AllFit Fit n (set l i c)
fit_set n [] i c f a = tt
fit_set n (x ∷ xs) zero c f a = (f, a.1)
fit_set n (x ∷ xs) (suc i) c f a = (a.0, fit_set n xs i c f a.1)

fit_more : (n : ℕ) (l : List Count) → AllFit Fit n l → AllFit Fit (n + 1) l
fit_more n [] a = tt
fit_more n (x ∷ xs) a = (let here = a.0 in omega arith, fit_more n xs a.1)

fit_at : (n : ℕ) (l : List Count) (i : ℕ) (c : Count) → AllFit Fit n l → get_elem? l i ≡ some c
    → Fit n c
fit_at n [] i c a e = absurd (some-ne-none c (sym e))
fit_at n (x ∷ xs) zero c a e = subst (Fit n) (some-injective x c e) a.0
fit_at n (x ∷ xs) (suc i) c a e = fit_at n xs i c a.1 e

pub counting_lawful : (places : ℕ) → Lawful (counting places)
counting_lawful places = record {
  as_many = λ all s. s;
  stays_sound =
      λ all e s p. ap length (moved_is all e p.1 p.2 p.3 p.4)
      ∙ (length-set (set all e.source (gave p.1)) e.target (got p.2)
      ∙ (length-set all e.source (gave p.1) ∙ s));
  falls = λ all e s p.
      let left : Count → ℕ = λ c. c.left in
      let is = ap (total left) (moved_is all e p.1 p.2 p.3 p.4) in
      let one = total_set left all e.source p.1 (gave p.1) p.3 in
      let two = total_set left (set all e.source (gave p.1)) e.target p.2 (got p.2)
      (set_else all e.source e.target (gave p.1) (λ z. p.0 (sym z)) ∙ p.4) in
      let some_left = p.6 in omega arith;
  elsewhere =
      λ all e q s p out. ap (λ l. get_elem? l q) (moved_is all e p.1 p.2 p.3 p.4)
      ∙ (set_else (set all e.source (gave p.1)) e.target q (got p.2) (λ z. out (inr z))
      ∙ set_else all e.source q (gave p.1) (λ z. out (inl z)));
  touched_below =
      λ all e q s p t. subst (λ n. q < n) s
      (⊎_elim (λ z. subst (λ k. k < length all) (sym z) (inside all e.source p.1 p.3))
      (λ z. subst (λ k. k < length all) (sym z) (inside all e.target p.2 p.4)) t);
  keeper_touched = λ all e s p. inl refl;
  fits_more = λ n k m l f. omega arith;
  fits_after = λ n all e s p a.
      let c = fit_at n all e.source p.1 a p.3 in
      let d = fit_at n all e.target p.2 a p.4 in
      subst (AllFit Fit (n + 1)) (sym (moved_is all e p.1 p.2 p.3 p.4))
      (fit_set (n + 1) (set all e.source (gave p.1)) e.target (got p.2) (omega arith)
      (fit_set (n + 1) all e.source (gave p.1) (omega arith) (fit_more n all a)));
}
