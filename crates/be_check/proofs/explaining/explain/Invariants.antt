use Rattle.std.proofs.Common.{◌≡◌, ◌≤◌, length}
use Rattle.be_check.proofs.Watched.{Watches}
use Rattle.be_check.proofs.explaining.explain.Given as goal

abbrev pub invariant-loop-entry : goal.invariant-loop-entry
invariant-loop-entry l = record {
  counted : l.made ≡ l.entry-index;
  within : l.made ≤ length l.history;
  watch : Watches l.world l.history l.x l.y l.made l.held.parts l.seen.color l.seen.last;
}
