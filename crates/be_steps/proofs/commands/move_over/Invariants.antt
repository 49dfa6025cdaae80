use Rattle.be_steps.specs.Commands.{HasMovedFirst}
use Rattle.be_steps.proofs.commands.move_over.Given as goal

abbrev pub invariant-loop : goal.invariant-loop
invariant-loop l = HasMovedFirst l.counter l.looper l.link l.fn.held l.held
