use Rattle.std.proofs.Common.{rules}
use Rattle.be_pane.proofs.SameLemmas.{stacks_equal}
use Rattle.be_pane.proofs.pane.Pane.new.Goals as goal

pub returns-clause-first : goal.returns-clause-first
returns-clause-first c = λ cells. search (rules, stacks_equal)
