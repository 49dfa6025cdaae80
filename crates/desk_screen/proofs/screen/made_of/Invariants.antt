use Rattle.desk_screen.specs.Making.{AreMade}
use Rattle.desk_screen.proofs.screen.made_of.Given as goal

abbrev pub invariant-loop-declared : goal.invariant-loop-declared
invariant-loop-declared l = AreMade l.made.stack l.made.trees.items l.made.panes.items
