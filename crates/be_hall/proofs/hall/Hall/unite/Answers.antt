use Rattle.std.proofs.Common.{rules}
use Rattle.be_hall.proofs.KeepPasses.{joins}
use Rattle.be_hall.proofs.hall.Hall.unite.Goals as goal

pub join_seat-requires : goal.join_seat-requires
join_seat-requires g c = (search rules, search rules, search rules, search rules, joins _ _ _ _ _ _ _ _ c.requires.empty.1)
