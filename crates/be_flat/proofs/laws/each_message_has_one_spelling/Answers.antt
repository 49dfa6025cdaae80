use Rattle.be_flat.proofs.OneSpelling.{one_spelling}
use Rattle.be_flat.proofs.laws.each_message_has_one_spelling.Goals as goal

pub returns : goal.returns
returns c = one_spelling
