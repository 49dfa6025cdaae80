use Rattle.be_flat.proofs.Again.{one_form}
use Rattle.be_flat.proofs.laws.no_spelling_begins_another.Goals as goal

pub returns : goal.returns
returns c = one_form
