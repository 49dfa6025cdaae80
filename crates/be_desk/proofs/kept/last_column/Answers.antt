use Rattle.std.proofs.Common.{inr, arith}
use Rattle.std.proofs.lemmas.Int.{ints}
use Rattle.be_desk.proofs.kept.last_column.Goals as goal

pub returns-then-last-end-clause-one : goal.returns-then-last-end-clause-one
returns-then-last-end-clause-one c = inr (omega (arith, ints))
