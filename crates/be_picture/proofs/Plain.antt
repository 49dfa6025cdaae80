-- Bytes that a line may have, and so few of them that it isn't too long.
use Rattle.std.proofs.Common.{◌≡◌, ℕ, zero, suc, ◌+◌, ◌*◌, ◌-◌, ◌<◌, ◌≤◌, ◌^◌, ℤ, pos, negsuc}
use Rattle.std.proofs.Common.{Bool, true, false, not, ◌&&◌, ◌==◌, eqb, unsigned_abs, List, [], ◌∷◌}
use Rattle.std.proofs.Common.{◌++◌, length, get_or, refl, ap, ◌∙◌, arith}
use Rattle.std.proofs.Common.{length-append}
use Rattle.std.specs.Prelude.{nat_le}
use Rattle.std.specs.Char.{is_ascii_digit, is_ascii_lowercase}
use Rattle.std.specs.Fmt.{decimal, signed_decimal}
use Rattle.std.specs.List.{list_all}
use Rattle.std.proofs.lemmas.Bool.{and_parts}
use Rattle.std.proofs.lemmas.Bool.Decides.{nat_tests}
use Rattle.std.proofs.lemmas.Fmt.{digits_decimal, length_signed_le}
use Rattle.std.proofs.lemmas.List.Folds.{list_all-append}
use Rattle.be_facts.specs.Names.{is_name_byte}
use Rattle.be_lex.specs.Hex.{is_hex_digit, hex_text, are_bytes}
use Rattle.be_lex.specs.Lines.{is_line, is_printable, text_of}
use Rattle.be_lex.specs.Names.{is_name, is_name_within}
use Rattle.be_lex.proofs.HexSpelling.{are_bytes_each, hex_text_digits, length-hex_text}
use Rattle.be_lex.proofs.Spelling.{list_all_weaker}
use Rattle.be_lex.proofs.NumberSpelling.{own}

abbrev is_plain_byte : ℕ → Bool
is_plain_byte b = nat_le 32 b && nat_le b 126

-- at most so many bytes, each 32 to 126
pub record IsPlain (most : ℕ) (bytes : List ℕ) : Type 0 where
  pub printable : is_printable bytes ≡ true
  pub short : length bytes ≤ most

pub wider : (m n : ℕ) (bytes : List ℕ) → IsPlain m bytes → m ≤ n → IsPlain n bytes
wider m n bytes plain le = record { printable = plain.printable; short = omega (arith, plain.short) }

pub both : (m n : ℕ) (xs ys : List ℕ) → IsPlain m xs → IsPlain n ys → IsPlain (m + n) (xs ++ ys)
both m n xs ys first second = record {
  printable =
      list_all-append is_plain_byte xs ys
      ∙ ap (λ (b : Bool). b && list_all is_plain_byte ys) first.printable
      ∙ second.printable;
  short = omega (arith, length-append {A = ℕ}, first.short, second.short);
}

pub behind_space : (m : ℕ) (xs : List ℕ) → IsPlain m xs → IsPlain (m + 1) (32 ∷ xs)
behind_space m xs plain = record { printable = plain.printable; short = omega (arith, plain.short) }

-- ---- numbers

digit_is_plain : (b : ℕ) → is_ascii_digit b ≡ true → is_plain_byte b ≡ true
digit_is_plain b h = grind (arith, nat_tests)

digits_are_plain : (n : ℕ) → n < 2 ^ 64 → is_printable (decimal n) ≡ true
digits_are_plain n small =
    list_all_weaker is_ascii_digit is_plain_byte digit_is_plain (decimal n)
    (digits_decimal own n small)

number_is_printable : (z : ℤ) → unsigned_abs z ≤ 65535 → is_printable (signed_decimal z) ≡ true
number_is_printable (pos n) small = digits_are_plain n (omega arith)
number_is_printable (negsuc n) small = digits_are_plain (suc n) (omega arith)

number_is_short : (z : ℤ) → unsigned_abs z ≤ 65535 → length (signed_decimal z) ≤ 6
number_is_short (pos n) small = length_signed_le 5 (pos n) (omega arith) (omega arith)
number_is_short (negsuc n) small = length_signed_le 5 (negsuc n) (omega arith) (omega arith)

pub number_is_plain : (z : ℤ) → unsigned_abs z ≤ 65535 → IsPlain 6 (signed_decimal z)
number_is_plain z small = record {
  printable = number_is_printable z small;
  short = number_is_short z small;
}

-- ---- names, and digits of bytes

lower_is_plain : (b : ℕ) → is_ascii_lowercase b ≡ true → is_plain_byte b ≡ true
lower_is_plain b h = grind (arith, nat_tests)

name_byte_is_plain : (b : ℕ) → is_name_byte b ≡ true → is_plain_byte b ≡ true
name_byte_is_plain b h = grind (arith, nat_tests)

pub name_is_plain : (name : List ℕ) → is_name name ≡ true → IsPlain 16 name
unfolding is_name_within
name_is_plain [] h = record { printable = refl; short = omega arith }
name_is_plain (b ∷ bytes) h =
    let form = and_parts (is_ascii_lowercase b && list_all is_name_byte bytes)
    (nat_le (length (b ∷ bytes)) 16) h in
    let parts = and_parts (is_ascii_lowercase b) (list_all is_name_byte bytes) form.0 in
    record {
      printable =
          ap (λ (v : Bool). v && list_all is_plain_byte bytes) (lower_is_plain b parts.0)
          ∙ list_all_weaker is_name_byte is_plain_byte name_byte_is_plain bytes parts.1;
      short = grind (arith, nat_tests);
    }

hex_digit_is_plain : (b : ℕ) → is_hex_digit b ≡ true → is_plain_byte b ≡ true
hex_digit_is_plain b h = grind (arith, nat_tests)

pub hex_is_plain : (bytes : List ℕ) (n : ℕ) → are_bytes bytes ≡ true → 2 * length bytes ≤ n
    → IsPlain n (hex_text bytes)
hex_is_plain bytes n h few = record {
  printable =
      list_all_weaker is_hex_digit is_plain_byte hex_digit_is_plain (hex_text bytes)
      (hex_text_digits bytes (are_bytes_each bytes h));
  short = let len = length-hex_text bytes in omega arith;
}

-- ---- a line of such bytes

no_line_end : (b : ℕ) → is_plain_byte b ≡ true → not (b == 10) ≡ true
no_line_end b h = grind (arith, nat_tests)

pub plain_is_line : (bytes : List ℕ) → is_printable bytes ≡ true → is_line bytes ≡ true
plain_is_line bytes h = list_all_weaker is_plain_byte (λ b. not (b == 10)) no_line_end bytes h

no_return : (b : ℕ) → is_plain_byte b ≡ true → eqb b 13 ≡ false
no_return b h = grind (arith, nat_tests)

no_return_at : (bytes : List ℕ) (n : ℕ) → is_printable bytes ≡ true → eqb (get_or bytes n 0) 13 ≡ false
no_return_at [] n h = refl
no_return_at (b ∷ bytes) zero h =
    no_return b (and_parts (is_plain_byte b) (list_all is_plain_byte bytes) h).0
no_return_at (b ∷ bytes) (suc n) h =
    no_return_at bytes n (and_parts (is_plain_byte b) (list_all is_plain_byte bytes) h).1

-- all of them are the line's text
pub plain_text : (bytes : List ℕ) → is_printable bytes ≡ true
    → text_of (record { bytes = bytes; ended = true }) ≡ bytes
plain_text bytes h = rw (no_return_at bytes (length bytes - 1) h) refl
