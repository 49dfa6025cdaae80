use Rattle.std.proofs.Common.{sym}
use Rattle.be_shape.proofs.RowLemmas.{no_rows_no_pixel}
use Rattle.be_shape.proofs.row.row_of.Goals as goal

pub returns-in_default-clause-pixels : goal.returns-in_default-clause-pixels
returns-in_default-clause-pixels c x = sym (no_rows_no_pixel c.args.rect c.in_default.ensures.none x c.args.y)
