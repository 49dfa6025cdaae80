use Rattle.std.specs.Prelude.{refl}
use Rattle.machine_examples.specs.Opened.{the_machine}
use Rattle.machine_examples.proofs.views_and_lines.Goals as goal

pub returns : goal.returns
unfolding the_machine
returns c = record {
  views_at = (refl, refl, refl, refl, refl);
  places = (refl, refl, refl);
  grown = refl;
  line = refl;
  point = refl;
  letter_a = (refl, refl, refl, refl);
}
