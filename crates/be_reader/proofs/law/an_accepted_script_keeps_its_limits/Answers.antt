-- Line by line.
use Rattle.be_reader.proofs.KeepsLemmas.{script-keeps}
use Rattle.be_reader.proofs.law.an_accepted_script_keeps_its_limits.Goals as goal

pub returns : goal.returns
returns c = script-keeps c.args.bytes.now
