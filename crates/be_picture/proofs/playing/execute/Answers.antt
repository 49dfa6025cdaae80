use Rattle.be_geom.specs.Rects.{rect_has}
use Rattle.be_span.specs.Screen.{cell_at}
use Rattle.be_state.specs.Stacks.{origin_point}
use Rattle.be_picture.specs.Playing.{bounds, tree_of}
use Rattle.be_picture.proofs.Drawing.{no_change, shows_drawn}
use Rattle.be_picture.proofs.Shown.{agrees, cell_of}
use Rattle.be_picture.proofs.playing.execute.Goals as goal

pub execute-outcome-requires-clause-no_change : goal.execute-outcome-requires-clause-no_change
execute-outcome-requires-clause-no_change c = no_change c.args.command c.requires.drawing

pub returns-clause-shows : goal.returns-clause-shows
returns-clause-shows c = λ off shows.
    shows_drawn c.args.bitmaps.now c.args.pane.now c.execute-outcome.new.pane off c.args.command
    c.requires.drawing shows
    (c.execute-outcome.ensures.executed 0 origin_point off.pane (tree_of off) (rect_has (bounds off))
    (cell_of off) (cell_at off.width off.cells) shows.stands (agrees c.args.pane.now off shows))
