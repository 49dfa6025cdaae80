use Rattle.std.specs.Prelude.{refl}
use Rattle.be_command.specs.Limits.{is_command, names_what_is}
use Rattle.machine_examples.specs.Opened.{the_machine}
use Rattle.machine_examples.proofs.laws_at_work.Goals as goal

pub returns : goal.returns
unfolding the_machine is_command names_what_is
returns c = record {
  entries = refl;
  nobody = refl;
  owner = refl;
  view = refl;
  color = refl;
  exposed = refl;
  mark = refl;
  painted = refl;
  kept = refl;
  unmarked = refl;
  same_color = refl;
  owed = refl;
  alone = refl;
  open_port = refl;
  linked = refl;
  notified = refl;
  closed = refl;
  idle = refl;
  idle_again = refl;
  waiting = refl;
  depth = refl;
}
