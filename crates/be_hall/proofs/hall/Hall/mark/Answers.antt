use Rattle.std.proofs.Common.{rules}
use Rattle.be_hall.proofs.KeepPlaces.{tries_keep_at, waits_keep_at}
use Rattle.be_hall.proofs.hall.Hall.mark.Goals as goal

pub compare_exchange-found-requires : goal.compare_exchange-found-requires
compare_exchange-found-requires g c = (search rules, search rules, tries_keep_at _ _ _ _ _ _ _ _ _ c.lock_of-word.ensures (search rules) c.requires.real c.requires.apart)

pub swap-found-requires : goal.swap-found-requires
swap-found-requires g c = (search rules, search rules, waits_keep_at _ _ _ _ _ _ _ _ _ c.lock_of-word.ensures (search rules) c.requires.real c.requires.apart)
