use Rattle.be_views.proofs.WayLemmas.{any_resizes}
use Rattle.be_views.proofs.law.any_way_is_the_same.Goals as goal

pub returns : goal.returns
returns c = any_resizes
