-- The rows so far.
use Rattle.std.proofs.Common.{◌≡◌, ◌*◌, take}
use Rattle.be_world.proofs.bitmaps.copy_of.Given as goal

abbrev pub invariant-loop-row : goal.invariant-loop-row
invariant-loop-row l = l.pixels.items ≡ take (l.row * l.bitmap.width) l.bitmap.colors
