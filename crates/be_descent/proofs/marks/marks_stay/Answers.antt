use Rattle.be_descent.proofs.MarkLemmas.{marks_left}
use Rattle.be_descent.proofs.marks.marks_stay.Goals as goal

pub returns : goal.returns
returns c = marks_left
