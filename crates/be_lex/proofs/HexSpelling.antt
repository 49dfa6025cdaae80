-- Hexadecimal digits, and the bytes that they write.
use Rattle.std.proofs.Common.{◌≡◌, ℕ, zero, suc, ◌+◌, ◌*◌, ◌/◌, ◌%◌, ◌<◌, eqb, Bool, true, false, cond, not, List, [], ◌∷◌, length, get_or, Some, None, Result, Ok, Err, refl, sym, ap, ◌∙◌, subst, arith}
use Rattle.std.specs.List.{list_all, list_any}
use Rattle.std.specs.Prelude.{nat_lt, unwrap_or}
use Rattle.std.specs.Result.{result_ok, result_unwrap_or}
use Rattle.std.proofs.lemmas.Bool.{and_parts, eqb-true}
use Rattle.std.proofs.lemmas.Bool.Decides.{nat_tests}
use Rattle.hex.specs.Hex.{IsBytes, decode_sized, encode_with, lower_digits}
use Rattle.hex.proofs.HexLemmas.{length-encode_with, decode_sized-encode_lower, decode_sized-ok}
use Rattle.hex.specs.declared.error.FromHexError.{FromHexError}
use Rattle.be_lex.specs.Words.{is_word, is_space}
use Rattle.be_lex.specs.Hex.{is_hex_digit, hex_bytes, hex_text, are_bytes}
use Rattle.be_lex.proofs.Spelling.{list_all_at, list_all_weaker}

-- each of the sixteen is a digit
digit_at_place : (d : ℕ) → d < 16 → is_hex_digit (get_or lower_digits d 0) ≡ true
digit_at_place d small = list_all_at is_hex_digit lower_digits d refl small

-- what is written has only digits
pub hex_text_digits : (bytes : List ℕ) → IsBytes bytes → list_all is_hex_digit (hex_text bytes) ≡ true
unfolding encode_with
hex_text_digits [] h = refl
hex_text_digits (b ∷ bytes) h =
    let small : b < 256 = h zero in
    rw (digit_at_place (b / 16) (omega arith), digit_at_place (b % 16) (omega arith), hex_text_digits bytes (λ i. h (suc i))) refl

pub length-hex_text : (bytes : List ℕ) → length (hex_text bytes) ≡ 2 * length bytes
length-hex_text bytes = length-encode_with lower_digits bytes

-- and is read as the same bytes
pub hex_bytes-hex_text : (count : ℕ) (bytes : List ℕ) → length bytes ≡ count → IsBytes bytes → hex_bytes count (hex_text bytes) ≡ Some bytes
unfolding hex_bytes
hex_bytes-hex_text count bytes e h = rw (hex_text_digits bytes h, decode_sized-encode_lower bytes count e h) refl

digit_no_space : (c : ℕ) → is_hex_digit c ≡ true → not (is_space c) ≡ true
digit_no_space c h = grind (arith, nat_tests)

digits_word : (digits : List ℕ) → list_all is_hex_digit digits ≡ true → 0 < length digits → is_word digits ≡ true
unfolding is_word
digits_word [] h some = absurd (omega arith)
digits_word (d ∷ digits) h some = list_all_weaker is_hex_digit (λ c. not (is_space c)) digit_no_space (d ∷ digits) h

pub is_word-hex_text : (bytes : List ℕ) → IsBytes bytes → 0 < length bytes → is_word (hex_text bytes) ≡ true
is_word-hex_text bytes h some = digits_word (hex_text bytes) (hex_text_digits bytes h) (let len = length-hex_text bytes in omega arith)

-- ---- digits that are read are those that are written

place_behind : (v : Bool) (c x : ℕ) (table : List ℕ) → eqb x c ≡ v → list_any (λ x. eqb x c) (x ∷ table) ≡ true → (list_any (λ x. eqb x c) table ≡ true → (d : ℕ) × (d < length table) × (get_or table d 0 ≡ c))
    → (d : ℕ) × (d < length (x ∷ table)) × (get_or (x ∷ table) d 0 ≡ c)
place_behind true c x table e h below = (zero, omega arith, eqb-true x c e)
place_behind false c x table e h below = let r = below (rw e at h) in (suc r.0, omega arith, r.2)

place_in : (c : ℕ) (table : List ℕ) → list_any (λ x. eqb x c) table ≡ true → (d : ℕ) × (d < length table) × (get_or table d 0 ≡ c)
place_in c [] h = absurd cc
place_in c (x ∷ table) h = place_behind (eqb x c) c x table refl h (place_in c table)

digit_place : (c : ℕ) → is_hex_digit c ≡ true → (d : ℕ) × (d < 16) × (get_or lower_digits d 0 ≡ c)
digit_place c h = place_in c lower_digits (grind (arith, nat_tests))

pub bytes_cons : (b : ℕ) (bytes : List ℕ) → b < 256 → IsBytes bytes → IsBytes (b ∷ bytes)
bytes_cons b bytes small h zero = small
bytes_cons b bytes small h (suc i) = h i

pub are_bytes_each : (bytes : List ℕ) → are_bytes bytes ≡ true → IsBytes bytes
are_bytes_each [] h = λ i. omega arith
are_bytes_each (b ∷ bytes) h =
    let parts = and_parts (nat_lt b 256) (are_bytes bytes) h in
    bytes_cons b bytes (grind (arith, nat_tests)) (are_bytes_each bytes parts.1)

-- the bytes of two digits each
from_digits : (s : List ℕ) (count : ℕ) → length s ≡ 2 * count → list_all is_hex_digit s ≡ true → (bytes : List ℕ) × (length bytes ≡ count) × IsBytes bytes × (hex_text bytes ≡ s)
unfolding encode_with
from_digits [] count e h = ([], omega arith, λ i. omega arith, refl)
from_digits (a ∷ []) count e h = absurd (omega arith)
from_digits (a ∷ b ∷ s) zero e h = absurd (omega arith)
from_digits (a ∷ b ∷ s) (suc count) e h =
    let one = and_parts (is_hex_digit a) (list_all is_hex_digit (b ∷ s)) h in
    let two = and_parts (is_hex_digit b) (list_all is_hex_digit s) one.1 in
    let high = digit_place a one.0 in
    let low = digit_place b two.0 in
    let rest = from_digits s count (omega arith) two.1 in
    let byte = 16 * high.0 + low.0 in
    let upper : byte / 16 ≡ high.0 = let l = low.1 in omega arith in
    let lower : byte % 16 ≡ low.0 = let l = low.1 in omega arith in
    let small : byte < 256 = let l = low.1 in let u = high.1 in omega arith in
    (byte ∷ rest.0, ap suc rest.1, bytes_cons byte rest.0 small rest.2, rw (upper, lower, high.2, low.2, rest.3) refl)

value_of_ok : (r : Result (List ℕ) FromHexError) (bytes : List ℕ) → result_ok r ≡ Some bytes → r ≡ Ok bytes
value_of_ok (Ok x) bytes h = let same : x ≡ bytes = ap (λ o. unwrap_or o []) h in ap Ok same
value_of_ok (Err e) bytes h = absurd cc

-- what is read is written as the same digits
hex_read : (digits : Bool) (count : ℕ) (word bytes : List ℕ) → list_all is_hex_digit word ≡ digits → cond digits (result_ok (decode_sized word count)) None ≡ Some bytes → (length bytes ≡ count) × IsBytes bytes × (hex_text bytes ≡ word)
hex_read false count word bytes h e = absurd cc
hex_read true count word bytes h e =
    let ok = value_of_ok (decode_sized word count) bytes e in
    let found = from_digits word count (decode_sized-ok word count bytes ok) h in
    let again = ap (λ s. decode_sized s count) (sym found.3) ∙ decode_sized-encode_lower found.0 count found.1 found.2 in
    let same : found.0 ≡ bytes = ap (λ (r : Result (List ℕ) FromHexError). result_unwrap_or r []) (sym again ∙ ok) in
    let Is : List ℕ → Type 0 = λ xs. (length xs ≡ count) × IsBytes xs × (hex_text xs ≡ word) in
    subst Is same (found.1, found.2, found.3)

pub hex_text-hex_bytes : (count : ℕ) (word bytes : List ℕ) → hex_bytes count word ≡ Some bytes → (length bytes ≡ count) × IsBytes bytes × (hex_text bytes ≡ word)
unfolding hex_bytes
hex_text-hex_bytes count word bytes e = hex_read (list_all is_hex_digit word) count word bytes refl e
