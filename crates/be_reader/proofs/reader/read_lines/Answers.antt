use Rattle.std.proofs.Common.{ℕ, List, ◌∷◌, Err, length, arith, ap, ap₂, sym, subst, ◌∙◌}
use Rattle.be_lex.specs.Lines.{lines_of}
use Rattle.be_reader.proofs.KeepsLemmas.{opening, routable, step}
use Rattle.be_reader.proofs.LineLemmas.{fault_is, goes_on}
use Rattle.be_reader.specs.Grammar.{read_lines}
use Rattle.be_said.specs.Keeps.{Keeps}
use Rattle.be_reader.specs.Outcomes.{IsRead}
use Rattle.be_reader.proofs.reader.read_lines.Goals as goal

pub loop-line-init : goal.loop-line-init
loop-line-init c = (
  ap₂ (λ said bytes. read_lines 1 said (lines_of bytes)) c.new-said.ensures c.of-lines.ensures,
  subst Keeps (sym c.new-said.ensures) opening,
  omega (arith, ap (λ (bytes : List ℕ). length bytes) c.of-lines.ensures),
)

pub returns-in-Err : goal.returns-in-Err
returns-in-Err c =
    subst (λ r. IsRead r (Err c.fault_at.result))
    (ap (read_lines c.loop-line.number c.loop-line.said) (sym c.in-Some.ensures.lines) ∙ c.loop-line.invariant.0)
    (subst (λ f. IsRead (read_lines c.loop-line.number c.loop-line.said (c.in-Some.line ∷ lines_of c.next.new.self)) (Err f)) (sym c.fault_at.ensures)
    (fault_is c.loop-line.number c.loop-line.said c.in-Some.line (lines_of c.next.new.self) c.in-Err.fault c.in-Err.ensures))

pub overflow_add-number : goal.overflow_add-number
overflow_add-number c = omega (arith, c.loop-line.invariant.2, c.requires)

pub loop-line-smaller : goal.loop-line-smaller
loop-line-smaller c = c.in-Some.ensures.shorter

pub loop-line-preserved : goal.loop-line-preserved
loop-line-preserved c = (
  sym (goes_on c.loop-line.number c.loop-line.said c.in-Ok.said c.in-Some.line (lines_of c.next.new.self) c.in-Ok.ensures)
      ∙ ap (read_lines c.loop-line.number c.loop-line.said) (sym c.in-Some.ensures.lines)
      ∙ c.loop-line.invariant.0,
  step c.loop-line.said c.in-Ok.said c.in-Some.line c.loop-line.invariant.1 c.in-Ok.ensures,
  omega (arith, c.loop-line.invariant.2, c.in-Some.ensures.shorter),
)

pub finish-requires : goal.finish-requires
finish-requires c = λ size screen closed. routable c.loop-line.said size c.loop-line.invariant.1 screen closed

pub returns : goal.returns
unfolding read_lines
returns c =
    subst (λ r. IsRead r c.finish.result)
    (ap (read_lines c.loop-line.number c.loop-line.said) (sym c.in_default.ensures.lines.0) ∙ c.loop-line.invariant.0)
    c.finish.ensures
