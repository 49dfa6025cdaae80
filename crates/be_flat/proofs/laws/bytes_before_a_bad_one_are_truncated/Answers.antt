use Rattle.be_flat.proofs.Cuts.{bad_there, bad_cut}
use Rattle.be_flat.proofs.laws.bytes_before_a_bad_one_are_truncated.Goals as goal

pub returns-clause-there : goal.returns-clause-there
returns-clause-there c = bad_there

pub returns-clause-cut : goal.returns-clause-cut
returns-clause-cut c = bad_cut
