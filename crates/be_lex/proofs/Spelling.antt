-- One word in front of a text, and which texts are one word.
use Rattle.std.proofs.Common.{◌≡◌, ℕ, zero, suc, ◌+◌, ◌<◌, Bool, true, false, not, ◌&&◌, eqb, List, [], ◌∷◌, ◌++◌, length, get_or, take, drop, refl, sym, ap, ◌∙◌, arith}
use Rattle.std.specs.List.{list_all, position_or_len}
use Rattle.std.specs.Prelude.{nat_le}
use Rattle.std.specs.Char.{is_ascii_lowercase}
use Rattle.std.specs.Str.{bytes_eq}
use Rattle.std.proofs.lemmas.Bool.{and_parts, ne_eqb}
use Rattle.std.proofs.lemmas.Bool.Decides.{nat_tests}
use Rattle.be_facts.proofs.Truths.{not_true, and_false}
use Rattle.be_facts.specs.Names.{is_name_byte}
use Rattle.be_lex.specs.Words.{words_of, is_word, is_space, is_empty, behind_word, ends_word}
use Rattle.be_lex.specs.Names.{is_name_within}
use Rattle.be_lex.proofs.WordLemmas.{no_space, words_of-word, words_of-behind}

-- ---- tests of each element

pub list_all_at : (test : ℕ → Bool) (xs : List ℕ) (i : ℕ) → list_all test xs ≡ true → i < length xs → test (get_or xs i 0) ≡ true
list_all_at test [] i h lt = absurd (omega arith)
list_all_at test (x ∷ xs) zero h lt = (and_parts (test x) (list_all test xs) h).0
list_all_at test (x ∷ xs) (suc i) h lt = list_all_at test xs i (and_parts (test x) (list_all test xs) h).1 (omega arith)

pub list_all_weaker : (test other : ℕ → Bool) → ((x : ℕ) → test x ≡ true → other x ≡ true) → (xs : List ℕ) → list_all test xs ≡ true → list_all other xs ≡ true
list_all_weaker test other weaker [] h = refl
list_all_weaker test other weaker (x ∷ xs) h =
    let parts = and_parts (test x) (list_all test xs) h in
    rw (weaker x parts.0, list_all_weaker test other weaker xs parts.1) refl

-- texts of different lengths are different
pub bytes_eq_lengths : (xs ys : List ℕ) → (length xs ≡ length ys → ⊥) → bytes_eq xs ys ≡ false
bytes_eq_lengths [] [] h = absurd (h refl)
bytes_eq_lengths [] (y ∷ ys) h = refl
bytes_eq_lengths (x ∷ xs) [] h = refl
bytes_eq_lengths (x ∷ xs) (y ∷ ys) h = rw (bytes_eq_lengths xs ys (λ e. h (ap suc e))) (and_false (eqb x y))

-- ---- a word in front

abbrev spaceless : List ℕ → Bool
spaceless word = list_all (λ b. not (is_space b)) word

-- the first that passes stands behind those that don't
pub first_behind : (test : ℕ → Bool) (front back : List ℕ) (none : list_all (λ b. not (test b)) front ≡ true) → position_or_len test back ≡ 0 → position_or_len test (front ++ back) ≡ length front
first_behind test [] back h e = e
first_behind test (c ∷ front) back h e =
    let parts = and_parts (not (test c)) (list_all (λ b. not (test b)) front) h in
    rw (not_true (test c) parts.0, first_behind test front back parts.1 e) (omega arith)

-- so that a space behind a word stands where the word ends
at_once : (rest : List ℕ) → ends_word rest ≡ true → position_or_len is_space rest ≡ 0
at_once [] e = refl
at_once (b ∷ rest) e = rw e refl

first_space : (word rest : List ℕ) → spaceless word ≡ true → ends_word rest ≡ true → position_or_len is_space (word ++ rest) ≡ length word
first_space word rest h e = first_behind is_space word rest h (at_once rest e)

pub take_front : (front back : List ℕ) → take (length front) (front ++ back) ≡ front
take_front [] back = refl
take_front (x ∷ front) back = ap (λ xs. x ∷ xs) (take_front front back)

pub drop_front : (front back : List ℕ) → drop (length front) (front ++ back) ≡ back
drop_front [] back = refl
drop_front (x ∷ front) back = drop_front front back

-- what follows a word that stands in front
pub behind_word-append : (word rest : List ℕ) → is_word word ≡ true → ends_word rest ≡ true → behind_word (word ++ rest) ≡ rest
unfolding is_word behind_word
behind_word-append [] rest h e = absurd cc
behind_word-append (c ∷ word) rest h e =
    let free = (and_parts (not (is_empty (c ∷ word))) (spaceless (c ∷ word)) h).1 in
    let first = (and_parts (not (is_space c)) (spaceless word) free).0 in
    rw (first, first_space (c ∷ word) rest free e) (drop_front (c ∷ word) rest)

pub words_of-append : (word rest : List ℕ) → is_word word ≡ true → ends_word rest ≡ true → words_of (word ++ rest) ≡ word ∷ words_of rest
unfolding is_word
words_of-append [] rest h e = absurd cc
words_of-append (c ∷ word) rest h e =
    let free = (and_parts (not (is_empty (c ∷ word))) (spaceless (c ∷ word)) h).1 in
    let first = not_true (is_space c) (and_parts (not (is_space c)) (spaceless word) free).0 in
    let n = length (c ∷ word) in
    let cut = words_of-word ((c ∷ word) ++ rest) n (λ s. grind (arith, nat_tests)) (ne_eqb (length ((c ∷ word) ++ rest)) 0 (λ none. absurd (omega arith))) (sym (first_space (c ∷ word) rest free e)) in
    cut ∙ rw (take_front (c ∷ word) rest, drop_front (c ∷ word) rest) refl

-- the same behind a space
pub behind_word-space : (rest : List ℕ) → behind_word (32 ∷ rest) ≡ behind_word rest
unfolding behind_word
behind_word-space rest =
    let e : 1 + position_or_len no_space rest ≡ suc (position_or_len no_space rest) = omega arith in
    rw e refl

pub words_of-space : (rest : List ℕ) → words_of (32 ∷ rest) ≡ words_of rest
words_of-space rest = words_of-behind 32 rest refl

-- ---- names

name_byte_no_space : (b : ℕ) → is_name_byte b ≡ true → not (is_space b) ≡ true
name_byte_no_space b h = grind (arith, nat_tests)

lower_no_space : (b : ℕ) → is_ascii_lowercase b ≡ true → not (is_space b) ≡ true
lower_no_space b h = grind (arith, nat_tests)

pub is_word-name : (most : ℕ) (word : List ℕ) → is_name_within most word ≡ true → is_word word ≡ true
unfolding is_word is_name_within
is_word-name most [] h = absurd cc
is_word-name most (b ∷ bytes) h =
    let form = (and_parts (is_ascii_lowercase b && list_all is_name_byte bytes) (nat_le (length (b ∷ bytes)) most) h).0 in
    let parts = and_parts (is_ascii_lowercase b) (list_all is_name_byte bytes) form in
    rw (lower_no_space b parts.0, list_all_weaker is_name_byte (λ x. not (is_space x)) name_byte_no_space bytes parts.1) refl
