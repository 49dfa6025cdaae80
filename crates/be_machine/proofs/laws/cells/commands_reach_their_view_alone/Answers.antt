use Rattle.be_machine.proofs.PixelReach.{reached_by_command, invalidated_by_command}
use Rattle.be_machine.proofs.laws.cells.commands_reach_their_view_alone.Goals as goal

pub returns-clause-reached : goal.returns-clause-reached
returns-clause-reached c = reached_by_command

pub returns-clause-inside : goal.returns-clause-inside
returns-clause-inside c = invalidated_by_command
