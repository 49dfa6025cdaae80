use Rattle.be_trees.proofs.OnlyLine.{only_its_line}
use Rattle.be_trees.proofs.law.nothing_else_is_an_archive_line.Goals as goal

pub returns : goal.returns
returns c = only_its_line
