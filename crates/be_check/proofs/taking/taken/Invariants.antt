use Rattle.std.proofs.Common.{◌≡◌, ◌≤◌, length}
use Rattle.be_check.proofs.Gathering.{Gathers}
use Rattle.be_check.proofs.taking.taken.Given as goal

abbrev pub invariant-loop-entry : goal.invariant-loop-entry
invariant-loop-entry l = record {
  counted : l.made ≡ l.entry-index;
  within : l.made ≤ length l.history;
  gathers : Gathers l.world l.history l.made l.held.parts l.letters.items;
}
