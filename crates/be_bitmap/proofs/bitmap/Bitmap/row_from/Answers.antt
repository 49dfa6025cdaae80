-- Parts of rows.
use Rattle.std.proofs.Common.{arith, sym, ◌+◌}
use Rattle.be_bitmap.proofs.PixelLemmas.{row_pixels, pixel_right, pixel_below}
use Rattle.be_bitmap.specs.Pictures.{Picture}
use Rattle.be_bitmap.proofs.bitmap.Bitmap.row_from.Goals as goal
use Rattle.be_bitmap.proofs.bitmap.Bitmap.row_from.Goals.{else-row-from-via-then-row-from+else-column-width, else-row-from-via-else-row-from}

pub returns-then-column-width-clause-pixels : goal.returns-then-column-width-clause-pixels
returns-then-column-width-clause-pixels c k =
    let p : Picture = record { width = c.self.inside.width; height = c.self.inside.height; colors = c.self.inside.pixels.items } in
    rw (c.from-width.ensures, c.deref.ensures.value, ← c.self.view_is)
    (row_pixels p c.args.row c.args.column k (omega arith) (omega arith))

pub returns-else-row-from-clause-pixels : goal.returns-else-row-from-clause-pixels
returns-else-row-from-clause-pixels c k =
    let p : Picture = record { width = c.self.inside.width; height = c.self.inside.height; colors = c.self.inside.pixels.items } in
    rw (← c.self.view_is) (elim c.else-row-from.branch [
      | else-row-from-via-then-row-from+else-column-width w ↦ sym (pixel_right p (c.args.column + k) c.args.row (omega arith))
      | else-row-from-via-else-row-from w ↦ sym (pixel_below p (c.args.column + k) c.args.row (omega arith))
    ])
