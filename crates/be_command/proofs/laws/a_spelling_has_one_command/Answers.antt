use Rattle.be_command.proofs.LawLemmas.{same_spelling}
use Rattle.be_command.proofs.laws.a_spelling_has_one_command.Goals as goal

pub returns : goal.returns
returns c = λ d e. same_spelling c.args.names.now d e c.are_known.ensures
