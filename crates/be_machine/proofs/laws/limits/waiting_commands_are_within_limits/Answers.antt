use Rattle.be_machine.proofs.KeptCommands.{linked_within, buffered_within}
use Rattle.be_machine.proofs.laws.limits.waiting_commands_are_within_limits.Goals as goal

pub returns-clause-linked : goal.returns-clause-linked
returns-clause-linked c = linked_within

pub returns-clause-buffered : goal.returns-clause-buffered
returns-clause-buffered c = buffered_within
