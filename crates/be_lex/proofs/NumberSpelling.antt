-- The words that numbers are written as.
use Rattle.std.proofs.Common.{◌≡◌, ℤ, pos, negsuc, ℕ, zero, suc, ◌<◌, ◌^◌, ◌&&◌, eqb, Bool, true, false, not, List, [], ◌∷◌, length, get_or, refl, ap, ◌∙◌, cond, arith, rules}
use Rattle.std.specs.Prelude.{unsigned_abs, neg_ℤ, codes, ◌==◌}
use Rattle.std.specs.Char.{is_ascii_digit}
use Rattle.std.specs.List.{list_all}
use Rattle.std.specs.Str.{bytes_eq}
use Rattle.std.specs.Str.Parse.{digits_value}
use Rattle.std.specs.Fmt.{decimal, signed_decimal}
use Rattle.std.proofs.lemmas.Bool.{and_parts, ne_eqb, eq-eqb, eqb-true, false_from_ne_true}
use Rattle.std.proofs.lemmas.Bool.Decides.{nat_tests}
use Rattle.std.proofs.lemmas.Slice.Eq.{bytes_eq-Decides}
use Rattle.std.proofs.lemmas.Str.Parse.{IsNumeralModel, numerals_by_value}
use Rattle.std.proofs.lemmas.Fmt.{digits_decimal, digits_value-decimal, decimal_nonempty, first_decimal, decimal_digit, decimal-digits_value}
use Rattle.be_lex.specs.Words.{is_word, is_space}
use Rattle.be_lex.specs.Numbers.{is_natural, is_signed, signed, is_number, number_of}
use Rattle.be_lex.proofs.Digits.{digit_at, digits_value_positive}
use Rattle.be_lex.proofs.Spelling.{list_all_weaker}

abbrev pub are_digits : List ℕ → Bool
are_digits ds = list_all is_ascii_digit ds

pub own : IsNumeralModel (λ ds. are_digits ds ≡ true) (digits_value 10)
own = numerals_by_value _ (search rules)

-- ---- the digits of a natural number

natural_form : (ds : List ℕ) → are_digits ds ≡ true → 0 < length ds → (get_or ds 0 0 ≡ 48 → length ds ≡ 1) → is_natural ds ≡ true
natural_form [] h some lead = absurd (omega arith)
natural_form (d ∷ []) h some lead = (and_parts (is_ascii_digit d) true h).0
natural_form (d ∷ e ∷ ds) h some lead =
    let parts = and_parts (is_ascii_digit d) (are_digits (e ∷ ds)) h in
    rw (parts.0, parts.1, ne_eqb d 48 (λ z. let one = lead z in absurd (omega arith))) refl

natural_parts : (ds : List ℕ) → is_natural ds ≡ true → (are_digits ds ≡ true) × (0 < length ds) × (get_or ds 0 0 ≡ 48 → length ds ≡ 1)
natural_parts [] h = absurd cc
natural_parts (d ∷ []) h = (rw h refl, omega arith, λ z. omega arith)
natural_parts (d ∷ e ∷ ds) h =
    let parts = and_parts (is_ascii_digit d && not (d == 48)) (are_digits (e ∷ ds)) h in
    let first = and_parts (is_ascii_digit d) (not (d == 48)) parts.0 in
    (rw (first.0, parts.1) refl, omega arith, λ z. let no = rw (eq-eqb d 48 z) at first.1 in absurd cc)

is_natural-decimal : (n : ℕ) → n < 2 ^ 64 → is_natural (decimal n) ≡ true
is_natural-decimal zero small = rw (decimal_digit 0 (omega arith)) refl
is_natural-decimal (suc n) small =
    natural_form (decimal (suc n)) (digits_decimal own (suc n) small) (decimal_nonempty (suc n) small) (λ z. let first = first_decimal (suc n) (omega arith) small in absurd (omega arith))

decimal-digits : (ds : List ℕ) → is_natural ds ≡ true → digits_value 10 ds < 2 ^ 64 → decimal (digits_value 10 ds) ≡ ds
decimal-digits ds h small = let parts = natural_parts ds h in decimal-digits_value own ds parts.0 parts.1 parts.2 small

-- ---- with a sign or without

unsigned_form : (ds : List ℕ) → is_natural ds ≡ true → (is_number ds ≡ true) × (number_of ds ≡ pos (digits_value 10 ds))
unfolding is_number number_of
unsigned_form [] h = absurd cc
unsigned_form (d ∷ ds) h =
    let digit = digit_at (d ∷ ds) 0 h (omega arith) in
    let plain : eqb d 45 ≡ false = grind (arith, nat_tests) in
    rw plain (rw h refl, refl)

-- a number from 1 on isn't written as 0
not_nought : (n : ℕ) → 0 < n → n < 2 ^ 64 → bytes_eq (decimal n) (codes "0") ≡ false
not_nought n some small =
    false_from_ne_true (bytes_eq (decimal n) (codes "0")) (λ same.
    let nought = (bytes_eq-Decides (decimal n) (codes "0")).0 same in
    let first = first_decimal n some small in
    let lead = ap (λ ds. get_or ds 0 0) nought in
    absurd (omega arith))

-- what is written is a number, and which
pub is_number-signed_decimal : (z : ℤ) → unsigned_abs z < 2 ^ 64 → is_number (signed_decimal z) ≡ true
unfolding is_number
is_number-signed_decimal (pos n) small = (unsigned_form (decimal n) (is_natural-decimal n small)).0
is_number-signed_decimal (negsuc n) small = rw (is_natural-decimal (suc n) small, not_nought (suc n) (omega arith) small) refl

pub number_of-signed_decimal : (z : ℤ) → unsigned_abs z < 2 ^ 64 → number_of (signed_decimal z) ≡ z
unfolding number_of
number_of-signed_decimal (pos n) small = (unsigned_form (decimal n) (is_natural-decimal n small)).1 ∙ ap pos (digits_value-decimal own n small)
number_of-signed_decimal (negsuc n) small = ap (λ v. neg_ℤ (pos v)) (digits_value-decimal own (suc n) small)

-- ---- one word

digit_no_space : (b : ℕ) → is_ascii_digit b ≡ true → not (is_space b) ≡ true
digit_no_space b h = grind (arith, nat_tests)

no_spaces : (ds : List ℕ) → are_digits ds ≡ true → list_all (λ b. not (is_space b)) ds ≡ true
no_spaces ds h = list_all_weaker is_ascii_digit (λ b. not (is_space b)) digit_no_space ds h

digits_word : (ds : List ℕ) → are_digits ds ≡ true → 0 < length ds → is_word ds ≡ true
unfolding is_word
digits_word [] h some = absurd (omega arith)
digits_word (d ∷ ds) h some = no_spaces (d ∷ ds) h

pub is_word-signed_decimal : (z : ℤ) → unsigned_abs z < 2 ^ 64 → is_word (signed_decimal z) ≡ true
unfolding is_word
is_word-signed_decimal (pos n) small = digits_word (decimal n) (digits_decimal own n small) (decimal_nonempty n small)
is_word-signed_decimal (negsuc n) small = no_spaces (decimal (suc n)) (digits_decimal own (suc n) small)

-- ---- and no other word

negative_text : (n : ℕ) → 0 < n → (signed_decimal (neg_ℤ (pos n)) ≡ 45 ∷ decimal n) × (unsigned_abs (neg_ℤ (pos n)) ≡ n)
negative_text zero some = absurd (omega arith)
negative_text (suc n) some = (refl, refl)

same_text : (minus : Bool) (b : ℕ) (bytes : List ℕ) → eqb b 45 ≡ minus → cond minus (is_signed true bytes) (is_signed false (b ∷ bytes)) ≡ true
    → unsigned_abs (cond minus (signed true bytes) (signed false (b ∷ bytes))) < 2 ^ 64 → signed_decimal (cond minus (signed true bytes) (signed false (b ∷ bytes))) ≡ b ∷ bytes
same_text true b bytes e h small =
    let parts = and_parts (is_natural bytes) (not (bytes_eq bytes (codes "0"))) h in
    let some = digits_value_positive bytes parts.0 (grind (arith, nat_tests)) in
    let text = negative_text (digits_value 10 bytes) some in
    text.0 ∙ rw (decimal-digits bytes parts.0 (rw text.1 at small), eqb-true b 45 e) refl
same_text false b bytes e h small =
    let parts = and_parts (is_natural (b ∷ bytes)) true h in
    decimal-digits (b ∷ bytes) parts.0 small

pub signed_decimal-number_of : (word : List ℕ) → is_number word ≡ true → unsigned_abs (number_of word) < 2 ^ 64 → signed_decimal (number_of word) ≡ word
unfolding is_number number_of
signed_decimal-number_of [] h small = absurd cc
signed_decimal-number_of (b ∷ bytes) h small = same_text (eqb b 45) b bytes refl h small
