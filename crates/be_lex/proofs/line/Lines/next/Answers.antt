use Rattle.std.proofs.Common.{refl, sym, ap, ◌∙◌}
use Rattle.std.proofs.lemmas.Bool.{eqb-true}
use Rattle.be_lex.specs.Lines.{lines_of}
use Rattle.be_lex.proofs.LineLemmas.{lines_of-none, lines_of-whole, lines_of-cut}
use Rattle.be_lex.proofs.line.Lines.next.Goals as goal

pub returns-then-is_empty-clause-lines : goal.returns-then-is_empty-clause-lines
returns-then-is_empty-clause-lines c =
    (ap lines_of (sym c.self.view_is) ∙ lines_of-none c.self.inside.rest.now (eqb-true _ 0 (sym c.is_empty.ensures ∙ c.if-is_empty.true)), refl)

pub returns-in-empty-clause-lines : goal.returns-in-empty-clause-lines
returns-in-empty-clause-lines c =
    ap lines_of (sym c.self.view_is)
    ∙ lines_of-whole c.self.inside.rest.now c.place_of.result (sym c.is_empty.ensures ∙ c.if-is_empty.false) c.place_of.ensures.place c.split_at.result.0.now c.split_at.result.1.now c.split_at.ensures.front c.split_at.ensures.back c.in-empty.len_below

pub returns-in-len1-up-clause-lines : goal.returns-in-len1-up-clause-lines
returns-in-len1-up-clause-lines c =
    ap lines_of (sym c.self.view_is)
    ∙ lines_of-cut c.self.inside.rest.now c.place_of.result c.place_of.ensures.place c.split_at.result.0.now c.split_at.result.1.now c.split_at.ensures.front c.split_at.ensures.back c.in-len1-up.len_at_least
