use Rattle.be_flat.proofs.Cuts.{front_truncated}
use Rattle.be_flat.proofs.laws.every_front_is_truncated.Goals as goal

pub returns : goal.returns
returns c = front_truncated
