use Rattle.be_shape.proofs.RasterLemmas.{fill_none, fill_some, frame_none, frame_some, line_some}
use Rattle.be_shape.proofs.Raster.row_span.Goals as goal

pub returns-in-Fill-clause-none : goal.returns-in-Fill-clause-none
returns-in-Fill-clause-none c = fill_none c.args.self.now c.in-Fill.rect c.rows_of.result c.in-Fill.is c.rows_of.ensures.none

pub returns-in-Fill-clause-some : goal.returns-in-Fill-clause-some
returns-in-Fill-clause-some c = fill_some c.args.self.now c.in-Fill.rect c.rows_of.result c.in-Fill.is c.rows_of.ensures.some

pub returns-in-Frame-clause-none : goal.returns-in-Frame-clause-none
returns-in-Frame-clause-none c =
    frame_none c.args.self.now c.in-Frame.rect c.in-Frame.pen c.rows_of-in-Frame.result c.in-Frame.is c.rows_of-in-Frame.ensures.none

pub returns-in-Frame-clause-some : goal.returns-in-Frame-clause-some
returns-in-Frame-clause-some c =
    frame_some c.args.self.now c.in-Frame.rect c.in-Frame.pen c.rows_of-in-Frame.result c.in-Frame.is c.rows_of-in-Frame.ensures.some

pub returns-in-Line-clause-some : goal.returns-in-Line-clause-some
returns-in-Line-clause-some c =
    line_some c.args.self.now c.in-Line.from c.in-Line.to c.in-Line.pen c.rows_of-in-Line.result c.in-Line.is c.rows_of-in-Line.ensures.sound c.rows_of-in-Line.ensures.all
