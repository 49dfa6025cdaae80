use Rattle.be_machine.proofs.TouchedEntries.{untouched}
use Rattle.be_machine.proofs.laws.touched.an_entry_leaves_what_it_does_not_touch.Goals as goal

pub returns : goal.returns
returns c = untouched
