use Rattle.std.specs.Prelude.{refl}
use Rattle.be_command.specs.Limits.{is_command, names_what_is}
use Rattle.machine_examples.specs.Opened.{the_machine}
use Rattle.machine_examples.proofs.kept_pixels.Goals as goal

pub returns : goal.returns
unfolding the_machine is_command names_what_is
returns c = record {
  entries = refl;
  child = refl;
  drawn = refl;
  cleared = refl;
  marked = refl;
  around = refl;
  before = refl;
  after = refl;
  same_color = refl;
  same_mark = refl;
  left = refl;
  passed = refl;
  exposed = refl;
  waiting = refl;
}
