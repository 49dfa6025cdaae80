-- No bit lies outside a glyph's columns.
use Rattle.std.proofs.Common.{arith, sym, ◌∙◌}
use Rattle.std.proofs.lemmas.Bool.{le-ltb}
use Rattle.be_font.proofs.RowLemmas.{glyph_bit-column_past}
use Rattle.be_font.proofs.glyph.bit.Goals as goal

pub returns-else-column-lt8 : goal.returns-else-column-lt8
returns-else-column-lt8 c =
    le-ltb c.args.column 8 (omega arith) ∙ sym (glyph_bit-column_past c.args.code c.args.column c.args.row (omega arith))
