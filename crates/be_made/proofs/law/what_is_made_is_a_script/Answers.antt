-- Line by line.
use Rattle.be_made.proofs.MadeScript.{made_is_script}
use Rattle.be_made.proofs.law.what_is_made_is_a_script.Goals as goal

pub returns : goal.returns
returns c = made_is_script
