-- The rows have the bits of the glyphs.
use Rattle.std.proofs.Common.{arith, inl, inr}
use Rattle.be_font.proofs.RowLemmas.{glyph_bit-outside, glyph_bit-row}
use Rattle.be_font.proofs.glyph.row.Goals as goal
use Rattle.be_font.proofs.glyph.row.Goals.{then-code-lt-FIRST_CODE-via-then-code-lt-FIRST_CODE, then-code-lt-FIRST_CODE-via-else-code-lt-FIRST_CODE+then-code-gt-LAST_CODE, then-code-lt-FIRST_CODE-via-else-code-lt-FIRST_CODE+else-code-gt-LAST_CODE+then-line-gt-LAST_ROW}

pub returns-then-code-lt-FIRST_CODE-clause-bits : goal.returns-then-code-lt-FIRST_CODE-clause-bits
returns-then-code-lt-FIRST_CODE-clause-bits c column =
    glyph_bit-outside c.args.code column c.args.line (elim c.then-code-lt-FIRST_CODE.branch [
      | then-code-lt-FIRST_CODE-via-then-code-lt-FIRST_CODE w ↦ inl (omega arith)
      | then-code-lt-FIRST_CODE-via-else-code-lt-FIRST_CODE+then-code-gt-LAST_CODE w ↦ inr (inl (omega arith))
      | then-code-lt-FIRST_CODE-via-else-code-lt-FIRST_CODE+else-code-gt-LAST_CODE+then-line-gt-LAST_ROW w ↦ inr (inr (omega arith))
    ])

pub returns-clause-bits : goal.returns-clause-bits
returns-clause-bits c column =
    rw (c.from.ensures, c.from-2.ensures) (glyph_bit-row c.args.code column c.args.line (omega arith) (omega arith) (omega arith))
