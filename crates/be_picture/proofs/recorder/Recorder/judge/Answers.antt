use Rattle.std.proofs.Common.{sym, ◌∙◌}
use Rattle.be_picture.proofs.Recorded.{not_drawn}
use Rattle.be_picture.proofs.recorder.Recorder.judge.Goals as goal

pub returns-in-None : goal.returns-in-None
returns-in-None c =
    not_drawn c.args.self.now c.args.command.now (sym c.sort_of.ensures ∙ c.in-None.is)

pub returns-in-Some : goal.returns-in-Some
returns-in-Some c =
    c.judge_sort.ensures c.args.command.now (sym c.sort_of.ensures ∙ c.in-Some.is)
