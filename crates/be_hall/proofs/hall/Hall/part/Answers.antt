use Rattle.std.proofs.Common.{rules}
use Rattle.be_hall.proofs.KeepPasses.{splits}
use Rattle.be_hall.proofs.hall.Hall.part.Goals as goal

pub split_seat-requires : goal.split_seat-requires
split_seat-requires g c = (search rules, search rules, splits _ _ _ _ _ _)
