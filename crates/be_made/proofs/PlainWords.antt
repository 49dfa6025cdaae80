-- Words of a script that are short and have neither spaces nor other bytes than 33 to 126, and
-- lines of such words.
use Rattle.std.proofs.Common.{◌≡◌, ℕ, suc, ◌+◌, ◌*◌, ◌-◌, ◌<◌, ◌≤◌, ◌^◌, ℤ, pos, negsuc}
use Rattle.std.proofs.Common.{unsigned_abs, Bool, true, false, not, ◌&&◌, eqb, nat_le, List}
use Rattle.std.proofs.Common.{[], ◌∷◌, ◌++◌, length, get_or, refl, sym, ap, ◌∙◌, arith}
use Rattle.std.proofs.Common.{rules, append-nil, length-append}
use Rattle.std.specs.Fmt.{decimal, signed_decimal}
use Rattle.std.specs.Char.{is_ascii_digit}
use Rattle.std.specs.List.{list_all, join_with_byte}
use Rattle.std.specs.Str.Parse.{digits_value}
use Rattle.std.proofs.lemmas.Bool.{and_parts}
use Rattle.std.proofs.lemmas.Bool.Decides.{nat_tests}
use Rattle.std.proofs.lemmas.Str.Parse.{IsNumeralModel, numerals_by_value}
use Rattle.std.proofs.lemmas.Fmt.{digits_decimal, decimal_nonempty, length-decimal-le}
use Rattle.hex.specs.Hex.{IsBytes}
use Rattle.be_lex.specs.Hex.{is_hex_digit, hex_text}
use Rattle.be_lex.specs.Lines.{is_line, is_printable}
use Rattle.be_lex.specs.Words.{words_of, is_word, is_space, is_empty}
use Rattle.be_lex.proofs.HexSpelling.{hex_text_digits, length-hex_text}
use Rattle.be_lex.proofs.Spelling.{list_all_at, list_all_weaker, words_of-append, words_of-space}
use Rattle.be_lex.proofs.WordLemmas.{words_of-none}

-- ---- words

abbrev pub is_plain_byte : ℕ → Bool
is_plain_byte b = nat_le 33 b && nat_le b 126

abbrev pub is_plain : List ℕ → Bool
is_plain word = (not (is_empty word) && nat_le (length word) 20) && list_all is_plain_byte word

abbrev pub are_plain : List (List ℕ) → Bool
are_plain words = list_all is_plain words

is_short : (n : ℕ) → n ≤ 20 → nat_le n 20 ≡ true
is_short n h = grind (arith, nat_tests)

short_is : (n : ℕ) → nat_le n 20 ≡ true → n ≤ 20
short_is n h = grind (arith, nat_tests)

pub plain-from : (word : List ℕ) → list_all is_plain_byte word ≡ true → 0 < length word →
    length word ≤ 20 → is_plain word ≡ true
plain-from [] h some short = absurd (omega arith)
plain-from (b ∷ bytes) h some short = rw (is_short (length (b ∷ bytes)) short, h) refl

pub plain-bytes : (word : List ℕ) → is_plain word ≡ true → list_all is_plain_byte word ≡ true
plain-bytes word h = (and_parts (not (is_empty word) && nat_le (length word) 20)
    (list_all is_plain_byte word) h).1

pub plain-length : (word : List ℕ) → is_plain word ≡ true → length word ≤ 20
plain-length word h =
    let first = (and_parts (not (is_empty word) && nat_le (length word) 20)
    (list_all is_plain_byte word) h).0 in
    short_is (length word) (and_parts (not (is_empty word)) (nat_le (length word) 20) first).1

no_space : (b : ℕ) → is_plain_byte b ≡ true → not (is_space b) ≡ true
no_space b h = grind (arith, nat_tests)

pub plain-word : (word : List ℕ) → is_plain word ≡ true → is_word word ≡ true
unfolding is_word
plain-word [] h = (cc)
plain-word (b ∷ bytes) h = list_all_weaker is_plain_byte (λ c. not (is_space c)) no_space
    (b ∷ bytes) (plain-bytes (b ∷ bytes) h)

-- ---- numbers and colours are such

digit_plain : (b : ℕ) → is_ascii_digit b ≡ true → is_plain_byte b ≡ true
digit_plain b h = grind (arith, nat_tests)

hex_plain : (b : ℕ) → is_hex_digit b ≡ true → is_plain_byte b ≡ true
hex_plain b h = grind (arith, nat_tests)

own : IsNumeralModel (λ ds. list_all is_ascii_digit ds ≡ true) (digits_value 10)
own = numerals_by_value _ (search rules)

digits_plain : (n : ℕ) → n < 2 ^ 64 → list_all is_plain_byte (decimal n) ≡ true
digits_plain n small = list_all_weaker is_ascii_digit is_plain_byte digit_plain
    (decimal n) (digits_decimal own n small)

length-small : (n : ℕ) → n < 100000 → length (decimal n) ≤ 5
length-small n small = length-decimal-le 5 n (omega arith) (omega arith) (omega arith)

pub plain-decimal : (n : ℕ) → n < 100000 → is_plain (decimal n) ≡ true
plain-decimal n small =
    let few = length-small n small in
    plain-from (decimal n) (digits_plain n (omega arith)) (decimal_nonempty n (omega arith))
    (omega arith)

pub plain-signed : (z : ℤ) → unsigned_abs z < 100000 → is_plain (signed_decimal z) ≡ true
plain-signed (pos n) small = plain-decimal n small
plain-signed (negsuc n) small =
    let few = length-small (suc n) small in
    plain-from (45 ∷ decimal (suc n)) (digits_plain (suc n) (omega arith)) (omega arith)
    (omega arith)

all_append : (test : ℕ → Bool) (xs ys : List ℕ) → list_all test xs ≡ true →
    list_all test ys ≡ true → list_all test (xs ++ ys) ≡ true
all_append test [] ys h k = k
all_append test (x ∷ xs) ys h k =
    let parts = and_parts (test x) (list_all test xs) h in
    rw (parts.0, all_append test xs ys parts.1 k) refl

-- six digits behind at most so many other bytes
pub plain-hex : (front bytes : List ℕ) → list_all is_plain_byte front ≡ true → length front ≤ 14 →
    length bytes ≡ 3 → IsBytes bytes → is_plain (front ++ hex_text bytes) ≡ true
plain-hex front bytes h few three each =
    let six = length-hex_text bytes in
    let all = list_all_weaker is_hex_digit is_plain_byte hex_plain
    (hex_text bytes) (hex_text_digits bytes each) in
    let many = length-append front (hex_text bytes) in
    plain-from (front ++ hex_text bytes) (all_append is_plain_byte front (hex_text bytes) h all)
    (omega arith) (omega arith)

-- ---- a line of them

abbrev pub joined : List (List ℕ) → List ℕ
joined words = join_with_byte 32 words

abbrev is_shown_byte : ℕ → Bool
is_shown_byte b = nat_le 32 b && nat_le b 126

shown_plain : (b : ℕ) → is_plain_byte b ≡ true → is_shown_byte b ≡ true
shown_plain b h = grind (arith, nat_tests)

shown_word : (word : List ℕ) → is_plain word ≡ true → list_all is_shown_byte word ≡ true
shown_word word h = list_all_weaker is_plain_byte is_shown_byte shown_plain
    word (plain-bytes word h)

pub words-joined : (word : List ℕ) (words : List (List ℕ)) → is_plain word ≡ true →
    are_plain words ≡ true → words_of (joined (word ∷ words)) ≡ word ∷ words
words-joined word [] h hs =
    ap words_of (sym (append-nil word)) ∙ words_of-append word [] (plain-word word h) refl
    ∙ ap (λ (ws : List (List ℕ)). word ∷ ws) (words_of-none [] refl)
words-joined word (next ∷ words) h hs =
    let parts = and_parts (is_plain next) (are_plain words) hs in
    words_of-append word (32 ∷ joined (next ∷ words)) (plain-word word h) refl
    ∙ ap (λ (ws : List (List ℕ)). word ∷ ws)
    (words_of-space (joined (next ∷ words)) ∙ words-joined next words parts.0 parts.1)

pub shown-joined : (word : List ℕ) (words : List (List ℕ)) → is_plain word ≡ true →
    are_plain words ≡ true → is_printable (joined (word ∷ words)) ≡ true
shown-joined word [] h hs = shown_word word h
shown-joined word (next ∷ words) h hs =
    let parts = and_parts (is_plain next) (are_plain words) hs in
    all_append is_shown_byte word (32 ∷ joined (next ∷ words)) (shown_word word h)
    (shown-joined next words parts.0 parts.1)

pub length-joined : (word : List ℕ) (words : List (List ℕ)) → is_plain word ≡ true →
    are_plain words ≡ true → length (joined (word ∷ words)) ≤ 20 + 21 * length words
length-joined word [] h hs = let one = plain-length word h in omega arith
length-joined word (next ∷ words) h hs =
    let parts = and_parts (is_plain next) (are_plain words) hs in
    let one = plain-length word h in
    let rest = length-joined next words parts.0 parts.1 in
    let many = length-append word (32 ∷ joined (next ∷ words)) in
    omega arith

no_feed : (b : ℕ) → is_shown_byte b ≡ true → not (eqb b 10) ≡ true
no_feed b h = grind (arith, nat_tests)

pub shown-line : (text : List ℕ) → is_printable text ≡ true → is_line text ≡ true
shown-line text h = list_all_weaker is_shown_byte (λ b. not (eqb b 10)) no_feed text h

no_return : (b : ℕ) → is_shown_byte b ≡ true → eqb b 13 ≡ false
no_return b h = grind (arith, nat_tests)

-- its last byte is no carriage return
pub shown-end : (text : List ℕ) → is_printable text ≡ true →
    eqb (get_or text (length text - 1) 0) 13 ≡ false
shown-end [] h = refl
shown-end (b ∷ bytes) h =
    no_return (get_or (b ∷ bytes) (length (b ∷ bytes) - 1) 0)
    (list_all_at is_shown_byte (b ∷ bytes) (length (b ∷ bytes) - 1) h (omega arith))
