use Rattle.std.proofs.Common.{SFits, w32, ◌∙◌}
use Rattle.std.proofs.lemmas.Int.{to_z-of_z}
use Rattle.be_shape.proofs.RasterLemmas.{fill_is, frame_is, line_is}
use Rattle.be_shape.proofs.Raster.row.Goals as goal

pub returns-in-Fill-clause-pixels : goal.returns-in-Fill-clause-pixels
returns-in-Fill-clause-pixels c x =
    let f4 : SFits w32 c.args.y = c.ranges.y in
    (simp to_z-of_z at c.row_of.ensures.pixels) x ∙ fill_is c.args.self.now c.in-Fill.rect x c.args.y c.in-Fill.is

pub returns-in-Frame-clause-pixels : goal.returns-in-Frame-clause-pixels
returns-in-Frame-clause-pixels c x =
    let f4 : SFits w32 c.args.y = c.ranges.y in
    (simp to_z-of_z at c.row_of-in-Frame.ensures.pixels) x ∙ frame_is c.args.self.now c.in-Frame.rect c.in-Frame.pen x c.args.y c.in-Frame.is

pub returns-in-Line-clause-pixels : goal.returns-in-Line-clause-pixels
returns-in-Line-clause-pixels c x =
    let f4 : SFits w32 c.args.y = c.ranges.y in
    (simp to_z-of_z at c.row_of-in-Line.ensures.pixels) x ∙ line_is c.args.self.now c.in-Line.from c.in-Line.to c.in-Line.pen x c.args.y c.in-Line.is
