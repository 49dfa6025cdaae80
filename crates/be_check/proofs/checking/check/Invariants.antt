use Rattle.std.proofs.Common.{◌≡◌, ◌≤◌, length}
use Rattle.be_check.proofs.Coming.{HasCome}
use Rattle.be_check.proofs.Noting.{IsLed}
use Rattle.be_check.proofs.checking.check.Given as goal

abbrev pub invariant-loop-entry : goal.invariant-loop-entry
invariant-loop-entry l = record {
  counted : l.made ≡ l.entry-index;
  within : l.made ≤ length l.entries;
  come : HasCome l.fn.world l.entries l.made l.held.parts;
  led : IsLed l.fn.world l.entries l.made l.held.parts;
}
