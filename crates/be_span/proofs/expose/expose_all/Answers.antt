-- One colour, or each its own.
use Rattle.std.proofs.Common.{rules, ◌∙◌}
use Rattle.be_span.proofs.ExposeLemmas.{all_colored}
use Rattle.be_span.proofs.expose.expose_all.Goals as goal

pub returns-in-Solid : goal.returns-in-Solid
returns-in-Solid c =
    rw c.in-Solid.is (c.fill.ensures.after (search rules) ∙ all_colored c.in-Solid.rgb c.args.cells.now)
