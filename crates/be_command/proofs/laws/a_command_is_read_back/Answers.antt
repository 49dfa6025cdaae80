use Rattle.be_command.proofs.LawLemmas.{command_of-spelling}
use Rattle.be_command.proofs.laws.a_command_is_read_back.Goals as goal

pub returns : goal.returns
returns c = λ d. command_of-spelling c.args.names.now d c.are_known.ensures
