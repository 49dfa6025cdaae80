use Rattle.std.proofs.Common.{[], ◌∷◌}
use Rattle.be_hall.proofs.hall.Hall.commit.Given as goal

abbrev pub ghosts-tick : goal.ghosts-tick
ghosts-tick g a = record { entries = g.P.Parts.entry_of a.ready.now ∷ [] }
