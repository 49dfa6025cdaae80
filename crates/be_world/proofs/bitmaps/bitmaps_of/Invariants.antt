-- The copies so far.
use Rattle.std.proofs.Common.{◌≡◌, map, take}
use Rattle.be_world.proofs.bitmaps.bitmaps_of.Given as goal

abbrev pub invariant-loop-line : goal.invariant-loop-line
invariant-loop-line l = l.copies.items ≡ map (λ line. line.bitmap) (take l.line-index l.lines)
