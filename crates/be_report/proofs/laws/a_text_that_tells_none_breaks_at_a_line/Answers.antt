use Rattle.be_report.proofs.Breaks.{breaks_at_a_line}
use Rattle.be_report.proofs.laws.a_text_that_tells_none_breaks_at_a_line.Goals as goal

pub returns : goal.returns
returns c = breaks_at_a_line
