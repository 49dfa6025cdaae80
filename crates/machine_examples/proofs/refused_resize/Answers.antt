use Rattle.std.specs.Prelude.{refl}
use Rattle.machine_examples.specs.Opened.{the_machine}
use Rattle.machine_examples.proofs.refused_resize.Goals as goal

pub returns : goal.returns
unfolding the_machine
returns c = record { entries = refl; screen = refl; work = refl; trace_0 = refl; trace_1 = refl }
