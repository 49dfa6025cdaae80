-- The bodies that are left, above the words so far.
use Rattle.std.proofs.Common.{◌≡◌, drop, length}
use Rattle.script_tests.specs.Plain.{are_plain_bodies}
use Rattle.script_tests.proofs.plain.are_plain_bodies.Given as goal

abbrev pub invariant-loop-line : goal.invariant-loop-line
invariant-loop-line l = are_plain_bodies l.windows 0 l.lines ≡ are_plain_bodies l.windows l.low (drop l.line-index l.lines)
