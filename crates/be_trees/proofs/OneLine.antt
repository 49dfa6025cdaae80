-- A text that is one line.
use Rattle.std.proofs.Common.{◌≡◌, ℕ, true, false, eqb, not, List, [], ◌∷◌, ◌++◌, length}
use Rattle.std.proofs.Common.{take, Option, Some, None, inl, inr, refl, sym, ap, ◌∙◌, arith}
use Rattle.std.specs.Prelude.{unwrap_or}
use Rattle.std.specs.List.{list_all, position_or_len}
use Rattle.std.proofs.lemmas.Bool.{ne_eqb}
use Rattle.std.proofs.lemmas.Bool.Decides.{nat_tests}
use Rattle.std.proofs.lemmas.List.{take-append-drop}
use Rattle.be_lex.specs.Hex.{is_hex_digit}
use Rattle.be_lex.specs.Lines.{Line, lines_of, is_line}
use Rattle.be_lex.proofs.Cuts.{split_cut}
use Rattle.be_lex.proofs.LineLemmas.{lines_of-ended, lines_of-first, lines_of-last, lines_of-none}
use Rattle.be_lex.proofs.Spelling.{list_all_weaker}
use Rattle.be_lex.proofs.LineLemmas.{is_ten, is_line_end}
use Rattle.be_trees.specs.Reading.{one_line}

-- a text that has bytes has a line
no_bytes : (text : List ℕ) → lines_of text ≡ [] → text ≡ []
no_bytes [] e = refl
no_bytes (b ∷ bytes) e =
    let all = b ∷ bytes in
    let n : ℕ = position_or_len is_line_end all in
    let some : eqb (length all) 0 ≡ false = ne_eqb (length all) 0 (λ z. absurd (omega arith)) in
    elim (split_cut is_line_end all n refl) [
      | inl w ↦ let is = sym e ∙ lines_of-last all n some refl w.0 in absurd cc
      | inr w ↦ let is = sym e ∙ lines_of-first all n refl w.0 w.1 w.2 in absurd cc
    ]

-- a line is the only one, with its line feed
no_other : (bytes digits : List ℕ) (lines : List Line)
    → one_line (record { bytes = bytes; ended = true } ∷ lines) ≡ Some digits
    → (bytes ≡ digits) × (lines ≡ [])
no_other bytes digits [] e = (ap (λ o. unwrap_or o []) e, refl)
no_other bytes digits (next ∷ lines) e = absurd cc

-- so that it and the line feed are the text
pub only_line : (text digits : List ℕ) → one_line (lines_of text) ≡ Some digits
    → text ≡ digits ++ 10 ∷ []
only_line [] digits e = let none = sym (ap one_line (lines_of-none [] refl)) ∙ e in absurd cc
only_line (b ∷ bytes) digits e =
    let all = b ∷ bytes in
    let n : ℕ = position_or_len is_line_end all in
    let some : eqb (length all) 0 ≡ false = ne_eqb (length all) 0 (λ z. absurd (omega arith)) in
    elim (split_cut is_line_end all n refl) [
      | inl w ↦
          let none = sym (ap one_line (lines_of-last all n some refl w.0)) ∙ e in
          absurd cc
      | inr w ↦
          let one = sym (ap one_line (lines_of-first all n refl w.0 w.1 w.2)) ∙ e in
          let parts = no_other (take n all) digits (lines_of w.1) one in
          sym (take-append-drop n all) ∙ ap (λ (l : List ℕ). take n all ++ l) w.2
          ∙ ap (λ (l : List ℕ). l ++ w.0 ∷ w.1) parts.0
          ∙ ap (λ (x : ℕ). digits ++ x ∷ w.1) (is_ten w.0 w.3)
          ∙ ap (λ (l : List ℕ). digits ++ 10 ∷ l) (no_bytes w.1 parts.1)
    ]

digit_in_line : (c : ℕ) → is_hex_digit c ≡ true → not (is_line_end c) ≡ true
digit_in_line c h = grind (arith, nat_tests)

-- digits and a line feed are one line
pub line_of_digits : (digits : List ℕ) → list_all is_hex_digit digits ≡ true
    → one_line (lines_of (digits ++ 10 ∷ [])) ≡ Some digits
line_of_digits digits h =
    let line : is_line digits ≡ true =
    list_all_weaker is_hex_digit (λ b. not (is_line_end b)) digit_in_line digits h in
    ap one_line (lines_of-ended digits [] line)
    ∙ ap (λ (ls : List Line). one_line (record { bytes = digits; ended = true } ∷ ls))
    (lines_of-none [] refl)

-- ---- a text without a line feed at its end is none

none_other : (o : Option (List ℕ)) (text : List ℕ)
    → ((digits : List ℕ) → text ≡ digits ++ 10 ∷ [] → ⊥) → one_line (lines_of text) ≡ o
    → one_line (lines_of text) ≡ None
none_other (Some digits) text other e = absurd (other digits (only_line text digits e))
none_other None text other e = e

pub no_line : (text : List ℕ) → ((digits : List ℕ) → text ≡ digits ++ 10 ∷ [] → ⊥)
    → one_line (lines_of text) ≡ None
no_line text other = none_other (one_line (lines_of text)) text other refl
