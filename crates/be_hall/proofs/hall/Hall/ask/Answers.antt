use Rattle.std.proofs.Common.{rules}
use Rattle.be_hall.proofs.KeepStop.{asks_keep}
use Rattle.be_hall.proofs.hall.Hall.ask.Goals as goal

pub load-requires : goal.load-requires
load-requires g c = (search rules, search rules, asks_keep _ _ _ _ _ _ _)
