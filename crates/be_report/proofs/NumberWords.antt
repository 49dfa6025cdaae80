-- The words that numbers are written as, and which numbers are read.
use Rattle.std.proofs.Common.{◌≡◌, ℕ, ◌-◌, ◌^◌, ◌<◌, ◌≤◌, ℤ, pos, negsuc, Bool, true, false, cond, not, ◌&&◌, eqb, List, [], ◌∷◌, get_or, Some, None, decimal, refl, sym, ap, subst, ◌∙◌, arith}
use Rattle.std.specs.Prelude.{unsigned_abs, Option}
use Rattle.std.specs.Char.{is_ascii_digit}
use Rattle.std.specs.Fmt.{signed_decimal}
use Rattle.std.proofs.lemmas.Bool.{and_parts, not-true}
use Rattle.std.proofs.lemmas.Bool.Decides.{nat_tests}
use Rattle.std.proofs.lemmas.Fmt.{digits_decimal, decimal_nonempty}
use Rattle.std.proofs.lemmas.Int.{ints}
use Rattle.std.proofs.lemmas.Option.{cond_some}
use Rattle.be_geom.specs.Points.{between}
use Rattle.be_geom.proofs.Between.{between_tells}
use Rattle.be_lex.specs.Numbers.{is_number, number_of}
use Rattle.be_lex.proofs.NumberSpelling.{is_number-signed_decimal, number_of-signed_decimal, signed_decimal-number_of, own}
use Rattle.be_lex.proofs.Ranges.{between_naturals, between_naturals_le}
use Rattle.be_lex.proofs.Spelling.{list_all_at, list_all_weaker}
use Rattle.be_report.specs.Lines.{is_plain}
use Rattle.be_report.specs.Readers.{number_within, natural_of}
use Rattle.be_report.proofs.Splits.{plain_byte}

-- ---- digits

digit_plain : (b : ℕ) → is_ascii_digit b ≡ true → plain_byte b ≡ true
digit_plain b h = grind (arith, nat_tests)

pub plain-decimal : (n : ℕ) → n < 2 ^ 64 → is_plain (decimal n) ≡ true
plain-decimal n small = list_all_weaker is_ascii_digit plain_byte digit_plain (decimal n) (digits_decimal own n small)

digit_unsigned : (b : ℕ) → is_ascii_digit b ≡ true → eqb b 45 ≡ false
digit_unsigned b h = grind (arith, nat_tests)

unsigned-decimal : (n : ℕ) → n < 2 ^ 64 → eqb (get_or (decimal n) 0 0) 45 ≡ false
unsigned-decimal n small = digit_unsigned (get_or (decimal n) 0 0) (list_all_at is_ascii_digit (decimal n) 0 (digits_decimal own n small) (decimal_nonempty n small))

-- ---- numbers that are written are read

abbrev read_up_to : ℕ → List ℕ → Option ℕ
read_up_to high word = cond (is_number word && between (pos 0) (number_of word) (pos high)) (Some (unsigned_abs (number_of word))) None

up_to_back : (high n : ℕ) → n ≤ high → n < 2 ^ 64 → read_up_to high (decimal n) ≡ Some n
up_to_back high n le small =
    let form : is_number (decimal n) ≡ true = is_number-signed_decimal (pos n) small in
    let value : number_of (decimal n) ≡ pos n = number_of-signed_decimal (pos n) small in
    let within = between_naturals n high le in
    ap (λ (b : Bool). cond (b && between (pos 0) (number_of (decimal n)) (pos high)) (Some (unsigned_abs (number_of (decimal n)))) None) form
    ∙ ap (λ (z : ℤ). cond (between (pos 0) z (pos high)) (Some (unsigned_abs z)) None) value
    ∙ ap (λ (b : Bool). cond b (Some n) None) within

pub within_64_back : (n : ℕ) → n < 2 ^ 64 → number_within 64 (decimal n) ≡ Some n
within_64_back n small = up_to_back (2 ^ 64 - 1) n (omega arith) small

pub within_32_back : (n : ℕ) → n < 2 ^ 32 → number_within 32 (decimal n) ≡ Some n
within_32_back n small = up_to_back (2 ^ 32 - 1) n (omega arith) (omega arith)

pub natural_back : (n : ℕ) → n < 2 ^ 64 → natural_of (decimal n) ≡ Some n
natural_back n small =
    let form : is_number (decimal n) ≡ true = is_number-signed_decimal (pos n) small in
    let value : number_of (decimal n) ≡ pos n = number_of-signed_decimal (pos n) small in
    ap (λ (b : Bool). cond (b && not (eqb (get_or (decimal n) 0 0) 45)) (Some (unsigned_abs (number_of (decimal n)))) None) form
    ∙ ap (λ (b : Bool). cond (not b) (Some (unsigned_abs (number_of (decimal n)))) None) (unsigned-decimal n small)
    ∙ ap (λ (z : ℤ). Some (unsigned_abs z)) value

-- ---- and no other words are

pub natural_parts : (z : ℤ) (high : ℕ) → between (pos 0) z (pos high) ≡ true → (z ≡ pos (unsigned_abs z)) × (unsigned_abs z ≤ high)
natural_parts (pos m) high h = (refl, between_naturals_le m high h)
natural_parts (negsuc m) high h = let t = between_tells (pos 0) (negsuc m) (pos high) in absurd (grind (arith, ints))

text_of_natural : (word : List ℕ) (n : ℕ) → is_number word ≡ true → number_of word ≡ pos (unsigned_abs (number_of word)) → unsigned_abs (number_of word) ≡ n → n < 2 ^ 64 → word ≡ decimal n
text_of_natural word n form natural is small =
    let few : unsigned_abs (number_of word) < 2 ^ 64 = omega arith in
    let text = signed_decimal-number_of word form few in
    sym text ∙ ap signed_decimal natural ∙ ap decimal is

up_to_alone : (high : ℕ) (word : List ℕ) (n : ℕ) → high < 2 ^ 64 → read_up_to high word ≡ Some n → (word ≡ decimal n) × (n ≤ high)
up_to_alone high word n few e =
    let test = cond_some (is_number word && between (pos 0) (number_of word) (pos high)) (unsigned_abs (number_of word)) n e in
    let parts = and_parts (is_number word) (between (pos 0) (number_of word) (pos high)) test.0 in
    let natural = natural_parts (number_of word) high parts.1 in
    let le : n ≤ high = subst (λ (m : ℕ). m ≤ high) test.1 natural.1 in
    (text_of_natural word n parts.0 natural.0 test.1 (omega arith), le)

pub within_64_alone : (word : List ℕ) (n : ℕ) → number_within 64 word ≡ Some n → (word ≡ decimal n) × (n < 2 ^ 64)
within_64_alone word n e = let r = up_to_alone (2 ^ 64 - 1) word n (omega arith) e in (r.0, omega (arith, r.1))

pub within_32_alone : (word : List ℕ) (n : ℕ) → number_within 32 word ≡ Some n → (word ≡ decimal n) × (n < 2 ^ 32)
within_32_alone word n e = let r = up_to_alone (2 ^ 32 - 1) word n (omega arith) e in (r.0, omega (arith, r.1))

pub unsigned_number : (word : List ℕ) → is_number word ≡ true → eqb (get_or word 0 0) 45 ≡ false → number_of word ≡ pos (unsigned_abs (number_of word))
unfolding is_number number_of
unsigned_number [] h e = (cc)
unsigned_number (b ∷ bytes) h e = rw e refl

pub natural_alone : (word : List ℕ) (n : ℕ) → natural_of word ≡ Some n → n < 2 ^ 64 → word ≡ decimal n
natural_alone word n e small =
    let test = cond_some (is_number word && not (eqb (get_or word 0 0) 45)) (unsigned_abs (number_of word)) n e in
    let parts = and_parts (is_number word) (not (eqb (get_or word 0 0) 45)) test.0 in
    text_of_natural word n parts.0 (unsigned_number word parts.0 (not-true (eqb (get_or word 0 0) 45) parts.1)) test.1 small
