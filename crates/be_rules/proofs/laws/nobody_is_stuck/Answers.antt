use Rattle.be_rules.proofs.Ending.{nobody_stuck, stop_stops, nothing_follows, last_stops}
use Rattle.be_rules.proofs.laws.nobody_is_stuck.Goals as goal

pub returns : goal.returns
returns c = record { stuck = nobody_stuck; stops = stop_stops; follows = nothing_follows; last = last_stops }
