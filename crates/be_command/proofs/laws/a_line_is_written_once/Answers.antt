use Rattle.be_command.proofs.LawLemmas.{command_of-spelling, spoken-command_of, spelling_is_canonical}
use Rattle.be_command.proofs.laws.a_line_is_written_once.Goals as goal

pub returns-clause-spoken : goal.returns-clause-spoken
returns-clause-spoken c = spoken-command_of c.args.names.now

pub returns-clause-canonical : goal.returns-clause-canonical
returns-clause-canonical c = λ line d. spelling_is_canonical c.args.names.now line d c.are_known.ensures

pub returns-clause-same : goal.returns-clause-same
returns-clause-same c = λ line d e. command_of-spelling c.args.names.now d c.are_known.ensures (spoken-command_of c.args.names.now line d e)
