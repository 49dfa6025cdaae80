use Rattle.be_machine.proofs.PixelColors.{kept_stay}
use Rattle.be_machine.proofs.PixelMarks.{exposed_marked}
use Rattle.be_machine.proofs.laws.cells.what_is_exposed_is_marked.Goals as goal

pub returns-clause-kept : goal.returns-clause-kept
returns-clause-kept c = kept_stay

pub returns-clause-marked : goal.returns-clause-marked
returns-clause-marked c = exposed_marked
