-- What is kept of a cell, as the cell.
use Rattle.be_reply.specs.Cells.{Cell, idle, waiting, replied}
use Rattle.be_reply.specs.declared.stage.Stage.{Stage}
use Rattle.be_reply.specs.declared.stage.Stage.TheVariants.{Idle, Waiting, Replied}

abbrev pub seen : Stage → Cell
seen Idle = idle
seen Waiting = waiting
seen (Replied message) = replied message
