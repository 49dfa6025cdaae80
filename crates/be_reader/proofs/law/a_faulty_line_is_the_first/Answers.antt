-- The lines in front, and then the others.
use Rattle.be_reader.proofs.FaultLemmas.{is-first}
use Rattle.be_reader.proofs.law.a_faulty_line_is_the_first.Goals as goal

pub returns : goal.returns
returns c = is-first c.args.front.now c.args.rest.now
