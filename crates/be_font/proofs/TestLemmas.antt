-- A test of each number below a bound.
use Rattle.std.proofs.lemmas.Bool.{cases_lt}
use Rattle.std.proofs.Common.{◌≡◌, ℕ, zero, suc, ◌<◌, Bool, true, ◌&&◌, arith, ⊎_elim, subst}
use Rattle.be_facts.proofs.Truths.{and_second, and_first}

abbrev pub all_below : ℕ → (ℕ → Bool) → Bool
all_below zero test = true
all_below (suc n) test = test n && all_below n test

-- what holds below a bound holds at each number below it
pub all_below-at : (n : ℕ) (test : ℕ → Bool) (k : ℕ) → all_below n test ≡ true → k < n → test k ≡ true
all_below-at zero test k e h = absurd (omega arith)
all_below-at (suc n) test k e h =
    ⊎_elim (λ below. all_below-at n test k (and_second (test n) (all_below n test) e) below)
    (λ past. let P : ℕ → Type 0 = λ m. test m ≡ true in
    let same : n ≡ k = omega arith in subst P same (and_first (test n) (all_below n test) e)) (cases_lt k n)
