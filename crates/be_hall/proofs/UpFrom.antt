-- All places from one on.
use Rattle.std.proofs.Common.{◌≡◌, ℕ, zero, suc, ◌+◌, ◌≤◌, ◌<◌, true, nat_lt, List, [], ◌∷◌, ◌++◌, All, refl, ap, ◌∙◌, subst, arith, rules}
use Rattle.std.proofs.lemmas.Bool.Decides.{nat_tests}
use Rattle.std.proofs.lemmas.List.Elements.{All-cons}
use Rattle.std.proofs.lemmas.Bool.{and_from}
use Rattle.be_hall.specs.Hands.{rises_from, up_from}

pub up_rises : (k n : ℕ) → rises_from k (up_from k n) ≡ true
up_rises k zero = refl
up_rises k (suc n) = and_from (nat_lt k (k + 1)) _ (grind (arith, nat_tests)) (let e : suc k ≡ k + 1 = omega arith in subst (λ (m : ℕ). rises_from m (up_from (suc k) n) ≡ true) e (up_rises (suc k) n))

pub up_below : (places n k : ℕ) → k + n ≤ places → All (λ p. p < places) (up_from k n)
up_below places zero k h = search rules
up_below places (suc n) k h = All-cons (λ p. p < places) k (up_from (suc k) n) (omega arith) (up_below places n (suc k) (omega arith))

up_snoc_from : (k n : ℕ) → up_from k (suc n) ≡ up_from k n ++ (k + n) ∷ []
up_snoc_from k zero = let e : k ≡ k + 0 = omega arith in ap (λ (m : ℕ). m ∷ []) e
up_snoc_from k (suc n) = ap (λ (l : List ℕ). k ∷ l) (up_snoc_from (suc k) n ∙ (let e : suc k + n ≡ k + suc n = omega arith in ap (λ (m : ℕ). up_from (suc k) n ++ m ∷ []) e))

pub up_snoc : (n : ℕ) → up_from 0 (n + 1) ≡ up_from 0 n ++ n ∷ []
up_snoc n = let e : n + 1 ≡ suc n = omega arith in let f : 0 + n ≡ n = omega arith in ap (up_from 0) e ∙ (up_snoc_from 0 n ∙ ap (λ (m : ℕ). up_from 0 n ++ m ∷ []) f)
