-- Facts on bytes, and on tests of texts.
use Rattle.std.proofs.Common.{◌≡◌, ℕ, true, List, refl, ◌<◌, arith, sym, nat_lt, false}
use Rattle.std.specs.Str.{bytes_eq}
use Rattle.std.proofs.lemmas.Slice.Eq.{bytes_eq-Decides}
use Rattle.std.specs.Char.{is_ascii_lowercase}
use Rattle.std.proofs.lemmas.Bool.Decides.{nat_tests, same_from_decides}
use Rattle.be_facts.proofs.Truths.{false_unless_so}

pub small_byte : (n : ℕ) → n < 256 → nat_lt n 256 ≡ true
small_byte n h = grind (arith, nat_tests)

pub letter_is_ascii : (b : ℕ) → is_ascii_lowercase b ≡ true → b < 128
letter_is_ascii b h = grind (arith, nat_tests)

pub bytes_eq_self : (a : List ℕ) → bytes_eq a a ≡ true
bytes_eq_self a = (bytes_eq-Decides a a).1 refl

pub bytes_eq_tells : (xs ys : List ℕ) → bytes_eq xs ys ≡ true → xs ≡ ys
bytes_eq_tells xs ys e = (bytes_eq-Decides xs ys).0 e

pub bytes_eq_turned : (a b : List ℕ) → bytes_eq a b ≡ bytes_eq b a
bytes_eq_turned a b =
    same_from_decides (bytes_eq a b) (bytes_eq b a) (bytes_eq-Decides a b)
    (λ h. sym ((bytes_eq-Decides b a).0 h), λ h. (bytes_eq-Decides b a).1 (sym h))

pub bytes_differ_turned : (x y : List ℕ) → bytes_eq x y ≡ false → bytes_eq y x ≡ false
bytes_differ_turned x y h =
    false_unless_so (bytes_eq y x) (bytes_eq x y) (λ e. (bytes_eq-Decides x y).1 (sym ((bytes_eq-Decides y x).0 e))) h
