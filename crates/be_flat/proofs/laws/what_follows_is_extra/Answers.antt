use Rattle.be_flat.proofs.Cuts.{behind_extra}
use Rattle.be_flat.proofs.laws.what_follows_is_extra.Goals as goal

pub returns : goal.returns
returns c = behind_extra
