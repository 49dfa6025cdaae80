-- The cells so far.
use Rattle.std.specs.List.{range_with_len}
use Rattle.std.proofs.Common.{map}
use Rattle.be_machine.specs.Touched as part
use Rattle.be_script.specs.Script.{declared_by}
use Rattle.be_opening.specs.Opened.{HasMore}
use Rattle.be_opening.proofs.activities.push_cells.Given as goal

abbrev pub invariant-loop-app : goal.invariant-loop-app
invariant-loop-app l =
    HasMore (declared_by l.script) (map part.cell (range_with_len 0 l.app)) l.initial.parts.items l.parts.items
