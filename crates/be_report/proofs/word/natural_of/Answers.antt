use Rattle.std.proofs.Common.{ap, ◌∙◌, Some, ne_eqb}
use Rattle.be_report.proofs.CodeLemmas.{numbers_are_some, natural_read}
use Rattle.be_report.proofs.word.natural_of.Goals as goal

pub bounds-word-0 : goal.bounds-word-0
bounds-word-0 c = numbers_are_some c.args.word.now (c.in_ok-number.ensures {u = tt}).0

pub returns : goal.returns
returns c =
    let is = c.in_ok-number.ensures {u = tt} in
    ap Some c.unwrap_or.ensures ∙ natural_read c.args.word.now c.in_ok-number.number c.up_to.result is.0 is.1 (ne_eqb _ 45 c.if-word-eq45.false) c.up_to.ensures
