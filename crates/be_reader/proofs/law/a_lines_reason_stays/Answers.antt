-- The lines in front, and then the others.
use Rattle.be_reader.proofs.FaultLemmas.{stays, was-there}
use Rattle.be_reader.proofs.law.a_lines_reason_stays.Goals as goal

pub returns-clause-stays : goal.returns-clause-stays
returns-clause-stays c = stays c.args.front.now c.args.rest.now

pub returns-clause-was_there : goal.returns-clause-was_there
returns-clause-was_there c = was-there c.args.front.now c.args.rest.now
