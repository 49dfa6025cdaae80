-- The words of a text, from its front.
use Rattle.std.proofs.Common.{◌≡◌, ℕ, zero, suc, ◌≢◌, ◌+◌, ◌-◌, ◌<◌, ◌≤◌, length-drop, inl, inr, Bool, true, false, cond, not, eqb, List, [], ◌∷◌, length, get_or, take, drop, refl, sym, ap, ◌∙◌, arith}
use Rattle.std.specs.List.{slice_split, onto_first, position_or_len, filter}
use Rattle.std.proofs.lemmas.Bool.{ne_eqb}
use Rattle.std.proofs.lemmas.List.{take_all}
use Rattle.be_lex.specs.Words.{words_of, is_space, is_empty, from_first}
use Rattle.be_lex.proofs.Cuts.{split_cut}

abbrev words_in : List (List ℕ) → List (List ℕ)
words_in pieces = filter (λ piece. not (is_empty piece)) pieces

words_in-some : (piece : List ℕ) (pieces : List (List ℕ)) → is_empty piece ≡ false → words_in (piece ∷ pieces) ≡ piece ∷ words_in pieces
words_in-some piece pieces h = rw h refl

-- a space in front is passed over
pub words_of-behind : (b : ℕ) (text : List ℕ) → is_space b ≡ true → words_of (b ∷ text) ≡ words_of text
unfolding words_of
words_of-behind b text h = ap (λ v. words_in (cond v ([] ∷ slice_split is_space text) (onto_first b (slice_split is_space text)))) h

abbrev pub no_space : ℕ → Bool
no_space b = not (is_space b)

-- and so are all of them
without_space : (v : Bool) (b : ℕ) (text : List ℕ) → is_space b ≡ v → words_of (from_first no_space text) ≡ words_of text → words_of (drop (cond (not (not v)) (1 + position_or_len no_space text) 0) (b ∷ text)) ≡ words_of (b ∷ text)
without_space true b text h same =
    let n = position_or_len no_space text in
    let e : 1 + n ≡ suc n = omega arith in
    rw e (same ∙ sym (words_of-behind b text h))
without_space false b text h same = refl

pub words_of-from_first : (text : List ℕ) → words_of (from_first no_space text) ≡ words_of text
words_of-from_first [] = refl
words_of-from_first (b ∷ text) = without_space (is_space b) b text refl (words_of-from_first text)

-- what is left then begins with no space
head_without_space : (v : Bool) (b : ℕ) (text : List ℕ) → is_space b ≡ v → get_or (from_first no_space text) 0 0 ≢ 32 → get_or (drop (cond (not (not v)) (1 + position_or_len no_space text) 0) (b ∷ text)) 0 0 ≢ 32
head_without_space true b text h head =
    let n = position_or_len no_space text in
    let e : 1 + n ≡ suc n = omega arith in
    rw e head
head_without_space false b text h head = λ e. let same = rw e at h in absurd cc

pub from_first-head : (text : List ℕ) → get_or (from_first no_space text) 0 0 ≢ 32
from_first-head [] = λ e. absurd cc
from_first-head (b ∷ text) = head_without_space (is_space b) b text refl (from_first-head text)

-- a slice from a place on
pub from_here : (n : ℕ) (text : List ℕ) → take (length text - n) (drop n text) ≡ drop n text
from_here n text = take_all (length text - n) (drop n text) (rw (length-drop n text) (omega arith))

take_some : (c : ℕ) (text : List ℕ) (n : ℕ) → eqb c 32 ≡ false → n ≡ position_or_len is_space (c ∷ text) → is_empty (take n (c ∷ text)) ≡ false
take_some c text zero h e = let e' = rw h at e in absurd (omega arith)
take_some c text (suc n) h e = refl

-- a text that begins with no space begins with a word, which ends before the first space
pub words_of-word : (text : List ℕ) (n : ℕ) → get_or text 0 0 ≢ 32 → eqb (length text) 0 ≡ false → n ≡ position_or_len is_space text → words_of text ≡ take n text ∷ words_of (drop n text)
unfolding words_of
words_of-word [] n h some e = absurd cc
words_of-word (c ∷ text) n h some e =
    elim (split_cut is_space (c ∷ text) n e) [
      | inl w ↦ ap words_in w.2 ∙ rw (w.1, w.0) refl
      | inr w ↦ ap words_in w.4 ∙ (words_in-some (take n (c ∷ text)) (slice_split is_space w.1) (take_some c text n (ne_eqb c 32 h) e) ∙ ap (λ words. take n (c ∷ text) ∷ words) (sym (ap words_of w.2 ∙ words_of-behind w.0 w.1 w.3)))
    ]

pub words_of-none : (text : List ℕ) → length text ≡ 0 → words_of text ≡ []
unfolding words_of
words_of-none [] h = refl
words_of-none (b ∷ text) h = absurd (omega arith)

-- and isn't empty
pub first_word_some : (text : List ℕ) (n : ℕ) → get_or text 0 0 ≢ 32 → eqb (length text) 0 ≡ false → n ≡ position_or_len is_space text → 0 < n
first_word_some [] n h some e = absurd cc
first_word_some (c ∷ text) n h some e = let e' = rw (ne_eqb c 32 h) at e in omega arith

pub length-from_first : (text : List ℕ) → length (from_first no_space text) ≤ length text
length-from_first text = rw (length-drop (position_or_len no_space text) text) (omega arith)
