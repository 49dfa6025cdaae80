use Rattle.be_trees.proofs.LinesBack.{line_comes_back}
use Rattle.be_trees.proofs.law.an_archive_line_comes_back.Goals as goal

pub returns : goal.returns
returns c = line_comes_back
