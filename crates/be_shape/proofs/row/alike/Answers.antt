use Rattle.std.proofs.Common.{sym, ◌∙◌}
use Rattle.be_shape.proofs.RowLemmas.{no_rows_no_pixel}
use Rattle.be_shape.proofs.row.alike.Goals as goal

pub returns-in-None-clause-same : goal.returns-in-None-clause-same
returns-in-None-clause-same c x z from to =
    let none = no_rows_no_pixel c.args.rect c.in-None.ensures.none in
    none x z ∙ sym (none x c.args.y)
