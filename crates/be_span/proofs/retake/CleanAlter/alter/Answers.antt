-- No cell has a mark then.
use Rattle.std.proofs.Common.{ap, ◌∙◌, count_by, arith}
use Rattle.be_span.specs.declared.Cell.{Cell}
use Rattle.be_span.proofs.MarkLemmas.{none_marked}
use Rattle.be_span.proofs.retake.CleanAlter.alter.Goals as goal

pub returns-clause-counted : goal.returns-clause-counted
returns-clause-counted c =
    let none = ap (count_by (λ (x : Cell). x.dirty)) c.unmark_all.ensures ∙ none_marked c.args.cells.now in
    let lost = c.dirty_of-lost.ensures in
    let among = c.requires.among in
    omega arith
