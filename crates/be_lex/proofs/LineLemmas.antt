-- The first line of some bytes.
use Rattle.std.proofs.Common.{◌≡◌, ℕ, Bool, true, false, eqb, ◌-◌, ◌<◌, ◌≤◌, List, [], ◌∷◌, ◌++◌, ◌≢◌, length, take, drop, refl, sym, ap, ◌∙◌, inl, inr, arith, get_or}
use Rattle.std.specs.List.{slice_split, position_or_len}
use Rattle.std.proofs.lemmas.Bool.{ne_eqb}
use Rattle.std.proofs.Math.Seq.{drop-length, take-length}
use Rattle.std.proofs.lemmas.List.{take_all, append-nil}
use Rattle.std.proofs.lemmas.Bool.Decides.{nat_tests}
use Rattle.be_lex.specs.Lines.{lines_from, lines_of, is_line}
use Rattle.be_lex.proofs.Cuts.{split_cut, split_pieces}
use Rattle.be_lex.proofs.Spelling.{first_behind, take_front, drop_front}
use Rattle.be_lex.specs.Words.{is_passed_over, words_of}

abbrev pub is_line_end : ℕ → Bool
is_line_end b = eqb b 10

-- where no line feed stands, all bytes are one line
pub lines_of-last : (bytes : List ℕ) (n : ℕ) → eqb (length bytes) 0 ≡ false → n ≡ position_or_len is_line_end bytes → drop n bytes ≡ [] → lines_of bytes ≡ record { bytes = take n bytes; ended = false } ∷ []
unfolding lines_of
lines_of-last [] n some e none = absurd cc
lines_of-last (b ∷ bytes) n some e none =
    elim (split_cut is_line_end (b ∷ bytes) n e) [
      | inl w ↦ ap lines_from w.2 ∙ rw w.1 refl
      | inr w ↦ let no = sym none ∙ w.2 in absurd cc
    ]

pub lines_from-more : (piece : List ℕ) (pieces : List (List ℕ)) → (next : List ℕ) × (others : List (List ℕ)) × (pieces ≡ next ∷ others) → lines_from (piece ∷ pieces) ≡ record { bytes = piece; ended = true } ∷ lines_from pieces
lines_from-more piece pieces h = rw h.2 refl

-- else the first line stands before it
pub lines_of-first : (bytes : List ℕ) (n : ℕ) → n ≡ position_or_len is_line_end bytes → (x : ℕ) (rest : List ℕ) → drop n bytes ≡ x ∷ rest → lines_of bytes ≡ record { bytes = take n bytes; ended = true } ∷ lines_of rest
unfolding lines_of
lines_of-first bytes n e x rest behind =
    elim (split_cut is_line_end bytes n e) [
      | inl w ↦ let no = sym behind ∙ w.0 in absurd cc
      | inr w ↦
          let same : w.1 ≡ rest = let two = sym w.2 ∙ behind in cc in
          ap lines_from w.4 ∙ (lines_from-more (take n bytes) (slice_split is_line_end w.1) (split_pieces is_line_end w.1) ∙ ap (λ (r : List ℕ). record { bytes = take n bytes; ended = true } ∷ lines_from (slice_split is_line_end r)) same)
    ]

-- the same, where what stands behind the line feed is cut out of the rest
pub lines_of-cut : (bytes : List ℕ) (n : ℕ) → n ≡ position_or_len is_line_end bytes → (line behind : List ℕ) → line ≡ take n bytes → behind ≡ drop n bytes → 1 ≤ length behind
    → lines_of bytes ≡ record { bytes = line; ended = true } ∷ lines_of (take (length behind - 1) (drop 1 behind))
lines_of-cut bytes n e line [] line-is behind-is le = absurd (omega arith)
lines_of-cut bytes n e line (x ∷ rest) line-is behind-is le =
    rw (line-is, take_all (length (x ∷ rest) - 1) rest (omega arith)) (lines_of-first bytes n e x rest (sym behind-is))

pub lines_of-none : (bytes : List ℕ) → length bytes ≡ 0 → lines_of bytes ≡ []
unfolding lines_of
lines_of-none [] h = refl
lines_of-none (b ∷ bytes) h = absurd (omega arith)

pub lines_of-whole : (bytes : List ℕ) (n : ℕ) → eqb (length bytes) 0 ≡ false → n ≡ position_or_len is_line_end bytes → (line behind : List ℕ) → line ≡ take n bytes → behind ≡ drop n bytes → length behind < 1
    → lines_of bytes ≡ record { bytes = line; ended = false } ∷ lines_of behind
lines_of-whole bytes n some e line [] line-is behind-is lt = rw (line-is, lines_of-none [] refl) (lines_of-last bytes n some e (sym behind-is))
lines_of-whole bytes n some e line (x ∷ rest) line-is behind-is lt = absurd (omega arith)

-- ---- a line in front

pub lines_of-ended : (line rest : List ℕ) → is_line line ≡ true → lines_of (line ++ 10 ∷ rest) ≡ record { bytes = line; ended = true } ∷ lines_of rest
lines_of-ended line rest h =
    lines_of-first (line ++ 10 ∷ rest) (length line) (sym (first_behind is_line_end line (10 ∷ rest) h refl)) 10 rest (drop_front line (10 ∷ rest)) ∙ rw (take_front line (10 ∷ rest)) refl

pub lines_of-last_line : (line : List ℕ) → is_line line ≡ true → line ≢ [] → lines_of line ≡ record { bytes = line; ended = false } ∷ []
lines_of-last_line [] h some = absurd (some refl)
lines_of-last_line (b ∷ line) h some =
    let place : length (b ∷ line) ≡ position_or_len is_line_end (b ∷ line) = sym (first_behind is_line_end (b ∷ line) [] h refl) ∙ ap (position_or_len is_line_end) (append-nil (b ∷ line)) in
    lines_of-last (b ∷ line) (length (b ∷ line)) (ne_eqb (length (b ∷ line)) 0 (λ z. absurd (omega arith))) place (drop-length (b ∷ line)) ∙ rw (take-length (b ∷ line)) refl

pub is_ten : (x : ℕ) → is_line_end x ≡ true → x ≡ 10
is_ten x e = grind (arith, nat_tests, e)

pub not_passed : (text word : List ℕ) (words : List (List ℕ)) → words_of text ≡ word ∷ words
    → eqb (get_or word 0 0) 35 ≡ false → is_passed_over text ≡ false
unfolding is_passed_over
not_passed text word words e h = rw e h
