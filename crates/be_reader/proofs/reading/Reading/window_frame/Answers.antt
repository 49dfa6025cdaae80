use Rattle.std.proofs.Common.{sym}
use Rattle.be_reader.proofs.FrameLemmas.{takes_frame, takes_no_frame}
use Rattle.be_reader.proofs.reading.Reading.window_frame.Goals as goal

pub returns-then-is_frame : goal.returns-then-is_frame
returns-then-is_frame c =
    takes_frame c.args.self.now c.frame-frame.new.self c.frame-frame.result c.frame-frame.ensures (sym c.if-is_frame.ensures)

pub returns : goal.returns
returns c =
    takes_no_frame c.args.self.now c.frame-frame.new.self c.note_reason.new.self c.frame-frame.result c.frame-frame.ensures (sym c.if-is_frame.ensures) c.note_reason.ensures
