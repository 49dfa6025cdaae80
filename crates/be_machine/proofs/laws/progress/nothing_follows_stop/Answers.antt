use Rattle.be_machine.proofs.ProgressFinished.{finished_ends, ends_finished, finished_none, stop_rests}
use Rattle.be_machine.proofs.laws.progress.nothing_follows_stop.Goals as goal

pub returns : goal.returns
returns c = record { ends_in_stop = finished_ends; is_finished = ends_finished; none_follows = finished_none; all_rest = stop_rests }
