-- The rows of the code have the bits of the glyphs.
use Rattle.std.proofs.Common.{◌≡◌, ℕ, ◌+◌, ◌-◌, ◌*◌, ◌%◌, ◌<◌, ◌≤◌, Bool, true, false, [], get_or, length, Option, Some, None, MatchOption, refl, sym, ◌∙◌, subst, ⊎_elim, ◌⊎◌, arith}
use Rattle.std.proofs.Math.Bool.{and-false}
use Rattle.std.proofs.lemmas.Bool.{cases_lt, false≢true, le-ltb, lt-leb}
use Rattle.std.proofs.lemmas.Option.{slice_get_past}
use Rattle.be_font.specs.Glyphs.{glyphs, glyph_bit}
use Rattle.be_font.specs.Runs.{row_bit, IsFirstRun, HasNoBit}
use Rattle.be_font.specs.declared.rows.TheConstants.{ROWS}
use Rattle.be_font.proofs.TestLemmas.{all_below, all_below-at}
use Rattle.be_font.proofs.RunLemmas.{row_bit-past, row_bit-zero}

-- both or none
abbrev pub same : Bool → Bool → Bool
same true true = true
same true false = false
same false true = false
same false false = true

pub same-is : (a b : Bool) → same a b ≡ true → a ≡ b
same-is true true e = refl
same-is true false e = cc
same-is false true e = cc
same-is false false e = refl

-- a row as the code reads it
abbrev pub read_row : ℕ → ℕ → ℕ
read_row glyph row = get_or (get_or ROWS glyph []) row 0 * 8 % 256

abbrev pub agrees : ℕ → ℕ → ℕ → Bool
agrees glyph row column = same (glyph_bit (glyph + 32) column row) (row_bit (read_row glyph row) column)

pub all_agree : all_below 95 (λ glyph. all_below 7 (λ row. all_below 8 (agrees glyph row))) ≡ true
unfolding glyph_bit glyphs row_bit
all_agree = refl

pub glyph_bit-column_past : (code column row : ℕ) → 5 ≤ column → glyph_bit code column row ≡ false
unfolding glyph_bit
glyph_bit-column_past code column row h = rw (le-ltb column 5 h, and-false) refl

pub glyph_bit-row_past : (code column row : ℕ) → 7 ≤ row → glyph_bit code column row ≡ false
unfolding glyph_bit
glyph_bit-row_past code column row h = rw (le-ltb row 7 h, and-false) refl

pub glyph_bit-code_below : (code column row : ℕ) → code < 32 → glyph_bit code column row ≡ false
unfolding glyph_bit
glyph_bit-code_below code column row h = rw (lt-leb 32 code h) refl

pub glyph_bit-code_past : (code column row : ℕ) → 127 ≤ code → glyph_bit code column row ≡ false
unfolding glyph_bit glyphs
glyph_bit-code_past code column row h =
    let far : length glyphs ≤ code - 32 = omega arith in
    rw (slice_get_past glyphs (code - 32) far, and-false) refl

-- outside the table
pub glyph_bit-outside : (code column row : ℕ) → (code < 32) ⊎ (126 < code) ⊎ (6 < row) → glyph_bit code column row ≡ row_bit 0 column
glyph_bit-outside code column row h =
    rw (row_bit-zero column) (⊎_elim (glyph_bit-code_below code column row)
    (λ more. ⊎_elim (λ past. glyph_bit-code_past code column row (omega arith)) (λ low. glyph_bit-row_past code column row (omega arith)) more) h)

-- inside it the row that the code reads has the glyph's bits
pub glyph_bit-row : (code column row : ℕ) → 32 ≤ code → code ≤ 126 → row ≤ 6 →
    glyph_bit code column row ≡ row_bit (read_row (code - 32) row) column
glyph_bit-row code column row low high above =
    ⊎_elim
    (λ within.
    let glyph : (code - 32) + 32 ≡ code = omega arith in
    let rows = all_below-at 95 (λ g. all_below 7 (λ r. all_below 8 (agrees g r))) (code - 32) all_agree (omega arith) in
    let row_is = all_below-at 7 (λ r. all_below 8 (agrees (code - 32) r)) row rows (omega arith) in
    let bit_is = all_below-at 8 (agrees (code - 32) row) column row_is within in
    let found = same-is (glyph_bit ((code - 32) + 32) column row) (row_bit (read_row (code - 32) row) column) bit_is in
    let P : ℕ → Type 0 = λ k. glyph_bit k column row ≡ row_bit (read_row (code - 32) row) column in
    subst P glyph found)
    (λ past. rw (row_bit-past (read_row (code - 32) row) column past, glyph_bit-column_past code column row (omega arith)) refl)
    (cases_lt column 8)

-- a run of bits lies in the glyph's columns
pub run-within : (code row from : ℕ) (r : Option (ℕ × ℕ)) →
    MatchOption r (HasNoBit (λ column. glyph_bit code column row) from) (λ run. IsFirstRun (λ column. glyph_bit code column row) from run.0 run.1) →
    MatchOption r (Unit {0}) (λ run. run.1 < 5)
run-within code row from None h = tt
run-within code row from (Some run) h =
    ⊎_elim (λ within. within)
    (λ past. let there = h.all_inside run.1 h.ends (omega arith) in
    let gone = glyph_bit-column_past code run.1 row past in absurd (false≢true (sym gone ∙ there)))
    (cases_lt run.1 5)

-- the same, of a byte that has the row's bits
pub run-of_row : (code row from byte : ℕ) (r : Option (ℕ × ℕ)) → ((column : ℕ) → glyph_bit code column row ≡ row_bit byte column) →
    MatchOption r (HasNoBit (row_bit byte) from) (λ run. IsFirstRun (row_bit byte) from run.0 run.1) →
    MatchOption r (HasNoBit (λ column. glyph_bit code column row) from) (λ run. IsFirstRun (λ column. glyph_bit code column row) from run.0 run.1)
run-of_row code row from byte None same h = λ column low. same column ∙ h column low
run-of_row code row from byte (Some run) same h = record {
  begins = h.begins;
  ends = h.ends;
  none_before = λ column low high. same column ∙ h.none_before column low high;
  all_inside = λ column low high. same column ∙ h.all_inside column low high;
  none_after = same (run.1 + 1) ∙ h.none_after;
}
