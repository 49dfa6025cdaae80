-- Numbers from 1 to len, none of them twice, are at most len many; where they are len many, each is there once.
use Rattle.std.proofs.Common.{◌≡◌, ℕ, zero, suc, ◌+◌, ◌<◌, ◌≤◌, List, [], ◌∷◌, length, sym, refl, ap, ◌∙◌, arith}
use mathlib.Core.Logic.{dite}
use native.Mathlib.Decide.{ℕ_discrete, dec_le}
use Rattle.be_hall.specs.Numbers.{one_if, once}
use Rattle.be_hall.proofs.Ordered.{one_here, one_not}

abbrev pub occurs : ℕ → List ℕ → ℕ
occurs n [] = 0
occurs n (x ∷ xs) = one_if x n + occurs n xs

abbrev pub Among : ℕ → List ℕ → Type 0
Among len [] = Unit {0}
Among len (x ∷ xs) = (0 < x) × (x ≤ len) × Among len xs

-- f 1 + .. + f len
abbrev sum_to : ℕ → (ℕ → ℕ) → ℕ
sum_to zero f = 0
sum_to (suc len) f = sum_to len f + f (suc len)

sum_none : (len : ℕ) (f : ℕ → ℕ) → ((n : ℕ) → 0 < n → n ≤ len → f n ≡ 0) → sum_to len f ≡ 0
sum_none zero f h = refl
sum_none (suc len) f h = let r = sum_none len f (λ n a b. h n a (omega arith)) in let e = h (suc len) (omega arith) (omega arith) in omega arith

sum_one : (len x : ℕ) → 0 < x → x ≤ len → sum_to len (one_if x) ≡ 1
sum_one zero x a b = absurd (omega arith)
sum_one (suc len) x a b = dite (ℕ_discrete x (suc len))
    (λ is. let o = one_here x (suc len) is in let r = sum_none len (one_if x) (λ n c d. one_not x n (λ e. omega arith)) in omega arith)
    (λ other. let o = one_not x (suc len) other in let r = sum_one len x a (omega arith) in omega arith)

sum_both : (len : ℕ) (f g : ℕ → ℕ) → sum_to len (λ n. f n + g n) ≡ sum_to len f + sum_to len g
sum_both zero f g = omega arith
sum_both (suc len) f g = let r = sum_both len f g in omega arith

sum_count : (len : ℕ) (xs : List ℕ) → Among len xs → sum_to len (λ n. occurs n xs) ≡ length xs
sum_count len [] a = sum_none len (λ n. 0) (λ n b c. refl)
sum_count len (x ∷ xs) a = let one = sum_one len x a.0 a.1 in let r = sum_count len xs a.2 in let s = sum_both len (one_if x) (λ n. occurs n xs) in omega arith

sum_less : (len : ℕ) (f g : ℕ → ℕ) → ((n : ℕ) → f n ≤ g n) → sum_to len f ≤ sum_to len g
sum_less zero f g h = omega arith
sum_less (suc len) f g h = let r = sum_less len f g h in let e = h (suc len) in omega arith

sum_same : (len : ℕ) (f g : ℕ → ℕ) → ((n : ℕ) → f n ≤ g n) → sum_to len f ≡ sum_to len g → (n : ℕ) → 0 < n → n ≤ len → f n ≡ g n
sum_same zero f g h e n a b = absurd (omega arith)
sum_same (suc len) f g h e n a b = let r = sum_less len f g h in let last = h (suc len) in dite (ℕ_discrete n (suc len))
    (λ is. let k : f (suc len) ≡ g (suc len) = omega arith in ap f is ∙ (k ∙ ap g (sym is)))
    (λ other. sum_same len f g h (omega arith) n a (omega arith))

once_out : (len n : ℕ) → len < n → once len n ≡ 0
once_out zero n h = refl
once_out (suc len) n h = let r = once_out len n (omega arith) in let o = one_not (suc len) n (λ e. omega arith) in omega arith

once_in : (len n : ℕ) → 0 < n → n ≤ len → once len n ≡ 1
once_in zero n a b = absurd (omega arith)
once_in (suc len) n a b = dite (ℕ_discrete (suc len) n)
    (λ is. let o = one_here (suc len) n is in let r = once_out len n (omega arith) in omega arith)
    (λ other. let o = one_not (suc len) n other in let r = once_in len n a (omega arith) in omega arith)

once_zero : (len : ℕ) → once len 0 ≡ 0
once_zero zero = refl
once_zero (suc len) = let r = once_zero len in let o = one_not (suc len) 0 (λ e. omega arith) in omega arith

sum_once : (len m : ℕ) → m ≤ len → sum_to m (once len) ≡ m
sum_once len zero h = refl
sum_once len (suc m) h = let r = sum_once len m (omega arith) in let o = once_in len (suc m) (omega arith) h in omega arith

pub few : (len : ℕ) (xs : List ℕ) → Among len xs → ((n : ℕ) → occurs n xs ≤ once len n) → length xs ≤ len
few len xs a h = let s = sum_count len xs a in let t = sum_once len len (omega arith) in let l = sum_less len (λ n. occurs n xs) (once len) h in omega arith

pub all_there : (len : ℕ) (xs : List ℕ) → Among len xs → ((n : ℕ) → occurs n xs ≤ once len n) → length xs ≡ len → (n : ℕ) → occurs n xs ≡ once len n
all_there len xs a h e n = dite (ℕ_discrete (once len n) 0)
    (λ z. let l = h n in omega arith)
    (λ some_there.
    let s = sum_count len xs a in
    let t = sum_once len len (omega arith) in
    let inside : n ≤ len = dite (dec_le n len) (λ y. y) (λ no_le. absurd (some_there (once_out len n (omega arith)))) in
    let above : 0 < n = dite (ℕ_discrete n 0) (λ z. absurd (some_there (ap (once len) z ∙ once_zero len))) (λ nz. omega arith) in
    sum_same len (λ k. occurs k xs) (once len) h (s ∙ (e ∙ sym t)) n above inside)
