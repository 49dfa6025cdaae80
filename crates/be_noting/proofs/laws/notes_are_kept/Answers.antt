use Rattle.be_noting.proofs.NotedHistories.{tells_all}
use Rattle.be_noting.proofs.laws.notes_are_kept.Goals as goal

pub returns : goal.returns
returns g c = λ it told opening history sound legal. tells_all (g.P.Parts.machine it) told (g.met.P.Parts.lawful it) opening history sound legal
