-- No bit lies outside a glyph's columns.
use Rattle.std.proofs.Common.{arith}
use Rattle.be_font.proofs.RowLemmas.{glyph_bit-column_past, run-within, run-of_row}
use Rattle.be_font.proofs.glyph.next_run.Goals as goal

pub returns-then-from-lt8-clause-run : goal.returns-then-from-lt8-clause-run
returns-then-from-lt8-clause-run c =
    run-of_row c.args.code c.args.row c.args.from c.row.result c.run_in.result c.row.ensures.bits c.run_in.ensures

pub returns-then-from-lt8-clause-within : goal.returns-then-from-lt8-clause-within
returns-then-from-lt8-clause-within c =
    run-within c.args.code c.args.row c.args.from c.run_in.result
    (run-of_row c.args.code c.args.row c.args.from c.row.result c.run_in.result c.row.ensures.bits c.run_in.ensures)

pub returns-else-from-lt8-clause-run : goal.returns-else-from-lt8-clause-run
returns-else-from-lt8-clause-run c column low = glyph_bit-column_past c.args.code column c.args.row (omega arith)
