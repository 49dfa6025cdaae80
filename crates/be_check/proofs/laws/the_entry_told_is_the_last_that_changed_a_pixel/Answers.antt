use Rattle.be_check.proofs.Changing.{it_changed, none_behind}
use Rattle.be_check.proofs.laws.the_entry_told_is_the_last_that_changed_a_pixel.Goals as goal

pub returns-clause-changed : goal.returns-clause-changed
returns-clause-changed c = it_changed

pub returns-clause-behind : goal.returns-clause-behind
returns-clause-behind c = none_behind
