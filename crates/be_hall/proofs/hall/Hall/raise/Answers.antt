use Rattle.std.proofs.Common.{rules}
use Rattle.be_hall.proofs.KeepStop.{raises_keep}
use Rattle.be_hall.proofs.hall.Hall.raise.Goals as goal

pub store-requires : goal.store-requires
store-requires g c = (search rules, search rules, raises_keep _ _ _ _ _ _ _)
