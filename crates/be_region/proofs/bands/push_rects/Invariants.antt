use Rattle.std.proofs.Common.{◌≡◌, ◌++◌, take}
use Rattle.be_region.specs.Spans.{rects_of}
use Rattle.be_region.proofs.bands.push_rects.Given as goal

abbrev pub invariant-loop-span : goal.invariant-loop-span
invariant-loop-span l = l.rects.items ≡ l.initial.rects.items ++ rects_of (take l.span-index l.spans) l.top l.bottom
