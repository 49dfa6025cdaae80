use Rattle.std.proofs.Common.{◌≡◌, map, take}
use Rattle.be_region.specs.Spans.{span_of}
use Rattle.be_region.proofs.line.copy_line.Given as goal

abbrev pub invariant-loop-rect : goal.invariant-loop-rect
invariant-loop-rect l = l.spans.items ≡ map span_of (take l.rect-index l.line)
