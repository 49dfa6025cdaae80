use Rattle.std.proofs.Common.{◌≡◌, ◌*◌, map, take}
use Rattle.be_picture.proofs.Rows.{color_of}
use Rattle.be_picture.proofs.off_screen.OffScreen.colors.Given as goal

-- the colours of the rows above
abbrev pub invariant-loop-y : goal.invariant-loop-y
invariant-loop-y l = l.colors.items ≡ map color_of (take (l.y * l.self.width) l.self.cells)
