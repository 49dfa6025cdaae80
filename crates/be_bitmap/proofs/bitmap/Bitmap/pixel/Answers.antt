-- Nothing is left of a bitmap or above it.
use Rattle.std.proofs.Common.{arith, sym, pos, ◌<ℤ◌}
use Rattle.std.proofs.lemmas.Int.{ints}
use Rattle.be_bitmap.proofs.PixelLemmas.{pixel_before, pixel_over}
use Rattle.be_bitmap.proofs.bitmap.Bitmap.pixel.Goals as goal
use Rattle.be_bitmap.proofs.bitmap.Bitmap.pixel.Goals.{then-x-lt0-via-then-x-lt0, then-x-lt0-via-else-x-lt0+then-y-lt0}

pub returns-then-x-lt0 : goal.returns-then-x-lt0
returns-then-x-lt0 c =
    elim c.then-x-lt0.branch [
      | then-x-lt0-via-then-x-lt0 w ↦
          let left : c.args.x <ℤ pos 0 = omega (arith, ints) in sym (pixel_before c.args.self.now c.args.x c.args.y left)
      | then-x-lt0-via-else-x-lt0+then-y-lt0 w ↦
          let above : c.args.y <ℤ pos 0 = omega (arith, ints) in sym (pixel_over c.args.self.now c.args.x c.args.y above)
    ]
