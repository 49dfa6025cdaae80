use Rattle.be_jotted.proofs.Homes.{parts_keep_traces}
use Rattle.be_jotted.proofs.laws.parts_keep_traces.Goals as goal

pub returns : goal.returns
returns c = parts_keep_traces
