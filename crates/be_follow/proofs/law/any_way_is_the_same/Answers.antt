use Rattle.be_follow.proofs.WayLemmas.{any_way}
use Rattle.be_follow.proofs.law.any_way_is_the_same.Goals as goal

pub returns : goal.returns
returns c = any_way
