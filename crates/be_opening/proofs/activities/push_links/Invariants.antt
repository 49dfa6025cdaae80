-- The links so far.
use Rattle.std.specs.List.{range_with_len}
use Rattle.std.proofs.Common.{map}
use Rattle.be_machine.specs.Touched as part
use Rattle.be_script.specs.Script.{declared_by}
use Rattle.be_opening.specs.Opened.{HasMore}
use Rattle.be_opening.proofs.activities.push_links.Given as goal

abbrev pub invariant-loop-w : goal.invariant-loop-w
invariant-loop-w l =
    HasMore (declared_by l.script) (map part.link (range_with_len 0 l.w)) l.initial.parts.items l.parts.items
