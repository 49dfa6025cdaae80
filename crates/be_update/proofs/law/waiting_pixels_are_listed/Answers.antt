use Rattle.be_update.proofs.ListLemmas.{listed_as_dirty}
use Rattle.be_update.proofs.law.waiting_pixels_are_listed.Goals as goal

pub returns : goal.returns
returns c = listed_as_dirty
