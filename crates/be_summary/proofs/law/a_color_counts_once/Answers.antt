use Rattle.be_summary.proofs.Different.{counts_each_once}
use Rattle.be_summary.proofs.law.a_color_counts_once.Goals as goal

pub returns : goal.returns
returns c = counts_each_once
