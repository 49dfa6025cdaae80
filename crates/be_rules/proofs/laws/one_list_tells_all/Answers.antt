use Rattle.be_rules.proofs.Known.{ready_by, next_there, held_fits}
use Rattle.be_rules.proofs.laws.one_list_tells_all.Goals as goal

pub returns : goal.returns
returns c = record { ready = ready_by; next = next_there; fits = held_fits }
