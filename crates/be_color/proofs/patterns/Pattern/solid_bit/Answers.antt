-- A pattern of ones, and one of zeros.
use Rattle.std.proofs.Common.{sym, ◌∙◌}
use Rattle.std.specs.Cmp.Lexicographic.{same_text}
use Rattle.be_color.proofs.PatternLemmas.{ones, zeros}
use Rattle.be_color.proofs.patterns.Pattern.solid_bit.Goals as goal

pub returns-then-eq-clause-each : goal.returns-then-eq-clause-each
returns-then-eq-clause-each c x y =
    ones c.args.self.rows x y (same_text c.args.self.rows _ (sym c.if-eq.true ∙ c.eq.ensures))

pub returns-then-eq-2-clause-each : goal.returns-then-eq-2-clause-each
returns-then-eq-2-clause-each c x y =
    zeros c.args.self.rows x y (same_text c.args.self.rows _ (sym c.if-eq-2.true ∙ c.eq-else-eq.ensures))
