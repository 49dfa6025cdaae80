use Rattle.std.proofs.Common.{◌≡◌, map, take}
use Rattle.be_said.proofs.said.opening.add_bitmaps.Given as goal

abbrev pub invariant-loop-line : goal.invariant-loop-line
invariant-loop-line l = l.names ≡ record l.initial.names { bitmaps = take l.line-index (map (λ line. line.name) l.bitmaps) }
