use Rattle.be_archive.proofs.Back.{comes_back}
use Rattle.be_archive.proofs.law.a_tree_comes_back.Goals as goal

pub returns : goal.returns
returns c = comes_back
