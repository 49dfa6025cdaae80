use Rattle.std.proofs.Common.{rules}
use Rattle.be_hall.proofs.KeepPlaces.{looks_keeps}
use Rattle.be_hall.proofs.hall.Hall.look.Goals as goal

pub load-requires : goal.load-requires
load-requires g c = (search rules, search rules, looks_keeps _ _ _ _ _ _ _)
