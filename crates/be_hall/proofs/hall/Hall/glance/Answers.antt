use Rattle.std.proofs.Common.{rules}
use Rattle.be_hall.proofs.KeepPlaces.{glances_keeps}
use Rattle.be_hall.proofs.hall.Hall.glance.Goals as goal

pub load-requires : goal.load-requires
load-requires g c = (search rules, search rules, glances_keeps _ _ _ _ _ _ _)
