use Rattle.be_noting.proofs.KeepTurns.{never_stuck_noted, turning_noted}
use Rattle.be_noting.proofs.laws.notes_keep_activities.Goals as goal

pub returns : goal.returns
returns g c = record {
  turns = λ it told. turning_noted (g.W.Parts.machine it) told (g.W.Turns.legal it) g.W.Turns.stops (g.W.Turns.activities it) (g.met.W.Turns.turning it);
  goes_on = λ it told. never_stuck_noted (g.W.Parts.machine it) told (g.W.Turns.legal it) g.W.Turns.stops (g.W.Turns.activities it) (g.W.Closing.closed it) (g.met.W.Closing.never_stuck it);
}
