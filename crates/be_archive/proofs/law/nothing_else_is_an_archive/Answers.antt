use Rattle.be_archive.proofs.Only.{only_its_archive}
use Rattle.be_archive.proofs.law.nothing_else_is_an_archive.Goals as goal

pub returns : goal.returns
returns c = only_its_archive
