use Rattle.be_machine.proofs.NumbersSmall.{letters_small, commands_small, events_small}
use Rattle.be_machine.proofs.laws.counts.numbers_stay_small.Goals as goal

pub returns-clause-arrived : goal.returns-clause-arrived
returns-clause-arrived c = letters_small

pub returns-clause-made : goal.returns-clause-made
returns-clause-made c = commands_small

pub returns-clause-used : goal.returns-clause-used
returns-clause-used c = events_small
