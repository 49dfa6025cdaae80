use Rattle.std.proofs.Common.{[], refl}
use Rattle.be_lex.proofs.LineLemmas.{lines_of-ended, lines_of-last_line, lines_of-none}
use Rattle.be_lex.proofs.laws.a_line_in_front_is_read.Goals as goal

pub returns-clause-ended : goal.returns-clause-ended
returns-clause-ended c = lines_of-ended

pub returns-clause-last : goal.returns-clause-last
returns-clause-last c = lines_of-last_line

pub returns-clause-none : goal.returns-clause-none
returns-clause-none c = lines_of-none [] refl
