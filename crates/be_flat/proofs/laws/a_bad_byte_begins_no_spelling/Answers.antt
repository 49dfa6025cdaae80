use Rattle.be_flat.proofs.Cuts.{bad_always, bad_begins_none}
use Rattle.be_flat.proofs.laws.a_bad_byte_begins_no_spelling.Goals as goal

pub returns-clause-stays : goal.returns-clause-stays
returns-clause-stays c = bad_always

pub returns-clause-none : goal.returns-clause-none
returns-clause-none c = bad_begins_none
