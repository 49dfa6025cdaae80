-- The number that decimal digits write, read from the left.
use Rattle.std.proofs.Common.{◌≡◌, ℕ, zero, suc, ◌+◌, ◌-◌, ◌*◌, ◌<◌, ◌≤◌, true, List, [], ◌∷◌, length, get_or, take, arith}
use Rattle.std.specs.Prelude.{IsTrue, false, not, ◌==◌, codes}
use Rattle.std.specs.Str.{bytes_eq}
use Rattle.std.specs.Char.{is_ascii_digit, digit_value}
use Rattle.std.specs.List.{list_all}
use Rattle.std.specs.Str.Parse.{digits_value}
use Rattle.std.proofs.lemmas.Bool.{and_parts}
use Rattle.std.proofs.lemmas.Bool.Decides.{nat_tests}
use Rattle.std.proofs.lemmas.Int.Digits.{digits_value_more}
use Rattle.std.proofs.lemmas.Str.Parse.{digits_value-take-le}
use Rattle.be_lex.specs.Numbers.{is_natural}

all_at : (ds : List ℕ) (i : ℕ) → list_all is_ascii_digit ds ≡ true → i < length ds → is_ascii_digit (get_or ds i 0) ≡ true
all_at [] i h lt = absurd (omega arith)
all_at (d ∷ ds) zero h lt = (and_parts _ _ h).0
all_at (d ∷ ds) (suc i) h lt = all_at ds i (and_parts _ _ h).1 (omega arith)

pub digit_at : (ds : List ℕ) (i : ℕ) → is_natural ds ≡ true → i < length ds → is_ascii_digit (get_or ds i 0) ≡ true
digit_at [] i h lt = absurd (omega arith)
digit_at (d ∷ []) zero h lt = h
digit_at (d ∷ []) (suc i) h lt = absurd (omega arith)
digit_at (d ∷ e ∷ ds) zero h lt = (and_parts _ _ (and_parts _ _ h).0).0
digit_at (d ∷ e ∷ ds) (suc i) h lt = all_at (e ∷ ds) i (and_parts _ _ h).1 (omega arith)

digit_value_is : (c : ℕ) → is_ascii_digit c ≡ true → digit_value c ≡ c - 48
digit_value_is c h = grind (arith, nat_tests)

-- one more digit
pub digits_value_step : (ds : List ℕ) (i : ℕ) → IsTrue (is_natural ds) → i < length ds → digits_value 10 (take (i + 1) ds) ≡ 10 * digits_value 10 (take i ds) + (get_or ds i 0 - 48)
digits_value_step ds i h lt =
    let step = digits_value_more 10 ds i lt in
    let digit = digit_value_is (get_or ds i 0) (digit_at ds i h lt) in
    omega arith

pub digits_value_grows : (ds : List ℕ) (i : ℕ) → digits_value 10 (take i ds) ≤ digits_value 10 ds
digits_value_grows ds i = digits_value-take-le 10 ds i (omega arith)

-- digits that write nothing else than 0 write more
pub digits_value_positive : (ds : List ℕ) → is_natural ds ≡ true → bytes_eq ds (codes "0") ≡ false → 0 < digits_value 10 ds
digits_value_positive [] h some = absurd cc
digits_value_positive (d ∷ []) h some = let digit = digit_value_is d h in grind (arith, nat_tests)
digits_value_positive (d ∷ e ∷ ds) h some =
    let first = (and_parts _ _ h).0 in
    let digit = digit_value_is d (and_parts (is_ascii_digit d) (not (d == 48)) first).0 in
    let some = (and_parts (is_ascii_digit d) (not (d == 48)) first).1 in
    let grows = digits_value_grows (d ∷ e ∷ ds) 1 in
    grind (arith, nat_tests)
