-- Words that one space parts, and lines that a line feed ends.
use Rattle.std.proofs.Common.{◌≡◌, ℕ, Bool, true, false, not, ◌&&◌, eqb, nat_le, ◌==◌, List, [], ◌∷◌, ◌++◌, length, take, drop, refl, sym, ap, ◌∙◌, inl, inr, arith, All, append_assoc, take-append-drop}
use Rattle.std.specs.List.{list_all, join_with_byte, position_or_len}
use Rattle.std.proofs.lemmas.Bool.{and_parts, and_from, eqb-true, ne_eqb}
use Rattle.std.proofs.lemmas.Bool.Decides.{nat_tests}
use Rattle.std.proofs.lemmas.List.Elements.{All-nil, All-cons}
use Rattle.std.proofs.lemmas.List.Folds.{list_all-append}
use Rattle.std.proofs.lemmas.List.Splits.{slice_split_none, slice_split_at, join_with_byte-slice_split}
use Rattle.be_lex.specs.Lines.{Line, lines_of, is_line}
use Rattle.be_lex.specs.Words.{is_space}
use Rattle.be_lex.proofs.Cuts.{split_cut}
use Rattle.be_lex.proofs.LineLemmas.{lines_of-last, lines_of-first, lines_of-none, lines_of-ended}
use Rattle.be_lex.proofs.Spelling.{list_all_weaker}
use Rattle.be_report.specs.Lines.{is_plain, words_between}
use Rattle.be_written.specs.Lines.{line_of}

abbrev pub plain_byte : ℕ → Bool
plain_byte b = nat_le 33 b && nat_le b 126

no_space : (b : ℕ) → plain_byte b ≡ true → is_space b ≡ false
no_space b h = grind (arith, nat_tests)

no_feed : (b : ℕ) → plain_byte b ≡ true → not (b == 10) ≡ true
no_feed b h = grind (arith, nat_tests)

abbrev pub are_plain : List (List ℕ) → Bool
are_plain words = list_all is_plain words

-- ---- words

all_apart : (word : List ℕ) → is_plain word ≡ true → All (λ b. is_space b ≡ false) word
all_apart [] h = All-nil (λ (b : ℕ). is_space b ≡ false)
all_apart (b ∷ word) h =
    let parts = and_parts (plain_byte b) (is_plain word) h in
    All-cons (λ (c : ℕ). is_space c ≡ false) b word (no_space b parts.0) (all_apart word parts.1)

-- words that are put together are cut apart again
pub split_join : (w : List ℕ) (ws : List (List ℕ)) → is_plain w ≡ true → are_plain ws ≡ true → words_between (join_with_byte 32 (w ∷ ws)) ≡ w ∷ ws
split_join w [] h t = slice_split_none is_space w (all_apart w h)
split_join w (v ∷ vs) h t =
    let parts = and_parts (is_plain v) (are_plain vs) t in
    slice_split_at is_space w 32 (join_with_byte 32 (v ∷ vs)) (all_apart w h) refl ∙ ap (λ (words : List (List ℕ)). w ∷ words) (split_join v vs parts.0 parts.1)

-- and the words of a text make it
pub join_split : (text : List ℕ) → join_with_byte 32 (words_between text) ≡ text
join_split text = join_with_byte-slice_split 32 text

-- ---- lines

line-plain : (word : List ℕ) → is_plain word ≡ true → is_line word ≡ true
line-plain word h = list_all_weaker plain_byte (λ b. not (b == 10)) no_feed word h

line-join : (w : List ℕ) (ws : List (List ℕ)) → is_plain w ≡ true → are_plain ws ≡ true → is_line (join_with_byte 32 (w ∷ ws)) ≡ true
line-join w [] h t = line-plain w h
line-join w (v ∷ vs) h t =
    let parts = and_parts (is_plain v) (are_plain vs) t in
    list_all-append (λ b. not (b == 10)) w (32 ∷ join_with_byte 32 (v ∷ vs)) ∙ and_from (is_line w) (is_line (join_with_byte 32 (v ∷ vs))) (line-plain w h) (line-join v vs parts.0 parts.1)

-- a line in front of a text is its first
pub lines_of-line : (w : List ℕ) (ws : List (List ℕ)) (rest : List ℕ) → is_plain w ≡ true → are_plain ws ≡ true
    → lines_of (line_of (w ∷ ws) ++ rest) ≡ record { bytes = join_with_byte 32 (w ∷ ws); ended = true } ∷ lines_of rest
unfolding line_of
lines_of-line w ws rest h t =
    ap lines_of (append_assoc (join_with_byte 32 (w ∷ ws)) (10 ∷ []) rest) ∙ lines_of-ended (join_with_byte 32 (w ∷ ws)) rest (line-join w ws h t)

-- the first line of a text stands in front of it
pub record IsFirstLine (text : List ℕ) (line : Line) (lines : List Line) : Type 0 where
  pub rest : List ℕ
  pub is : text ≡ line.bytes ++ 10 ∷ rest
  pub others : lines ≡ lines_of rest

abbrev feed : ℕ → Bool
feed b = eqb b 10

heads : (x y : Line) (xs ys : List Line) → x ∷ xs ≡ y ∷ ys → (x ≡ y) × (xs ≡ ys)
heads x y xs ys e = ((cc), (cc))

unended : (text : List ℕ) (line : Line) (lines : List Line) → drop (position_or_len feed text) text ≡ [] → lines_of text ≡ line ∷ lines → line.ended ≡ true → IsFirstLine text line lines
unended [] line lines none e ended = let no : [] ≡ line ∷ lines = sym (lines_of-none [] refl) ∙ e in (cc)
unended (b ∷ text) line lines none e ended =
    let n = position_or_len feed (b ∷ text) in
    let last = lines_of-last (b ∷ text) n (ne_eqb (length (b ∷ text)) 0 (λ z. absurd (omega arith))) refl none in
    let parts = heads (record { bytes = take n (b ∷ text); ended = false }) line [] lines (sym last ∙ e) in
    let no : false ≡ true = ap (λ (l : Line). l.ended) parts.0 ∙ ended in
    (cc)

cut_line : (text : List ℕ) (line : Line) (lines : List Line) (n x : ℕ) (rest : List ℕ) → n ≡ position_or_len feed text → drop n text ≡ x ∷ rest → feed x ≡ true → lines_of text ≡ line ∷ lines → IsFirstLine text line lines
cut_line text line lines n x rest at behind is e =
    let first = lines_of-first text n at x rest behind in
    let parts = heads (record { bytes = take n text; ended = true }) line (lines_of rest) lines (sym first ∙ e) in
    let bytes : take n text ≡ line.bytes = ap (λ (l : Line). l.bytes) parts.0 in
    let feeds : x ≡ 10 = eqb-true x 10 is in
    record {
      rest = rest;
      is = sym (take-append-drop n text) ∙ ap (λ (back : List ℕ). take n text ++ back) (behind ∙ ap (λ (b : ℕ). b ∷ rest) feeds) ∙ ap (λ (front : List ℕ). front ++ 10 ∷ rest) bytes;
      others = sym parts.1;
    }

pub first_line : (text : List ℕ) (line : Line) (lines : List Line) → lines_of text ≡ line ∷ lines → line.ended ≡ true → IsFirstLine text line lines
first_line text line lines e ended =
    elim (split_cut feed text (position_or_len feed text) refl) [
      | inl w ↦ unended text line lines w.0 e ended
      | inr w ↦ cut_line text line lines (position_or_len feed text) w.0 w.1 refl w.2 w.3 e
    ]
