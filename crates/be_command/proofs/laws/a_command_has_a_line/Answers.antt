use Rattle.be_command.proofs.SpokenLemmas.{spoken-within}
use Rattle.be_command.proofs.laws.a_command_has_a_line.Goals as goal

pub returns : goal.returns
returns c = spoken-within c.args.names.now
