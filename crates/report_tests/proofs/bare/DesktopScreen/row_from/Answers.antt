use Rattle.report_tests.proofs.BareLemmas.{one_cell}
use Rattle.report_tests.proofs.bare.DesktopScreen.row_from.Goals as goal

pub returns-clause-cells : goal.returns-clause-cells
returns-clause-cells c = λ k lt. one_cell c.args._row c.args._column k c.requires.row c.requires.column lt
