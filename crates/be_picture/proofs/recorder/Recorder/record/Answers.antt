use Rattle.std.proofs.Common.{[], ◌∷◌, ◌++◌, List, sym, ap, ◌∙◌, subst}
use Rattle.be_command.specs.declared.Command.{Command}
use Rattle.be_picture.specs.Faults.{IsJudged}
use Rattle.be_picture.specs.Recording.{IsRecorded, open_pushes}
use Rattle.be_picture.proofs.Recorded.{one_more}
use Rattle.be_picture.proofs.recorder.Recorder.record.Goals as goal

pub invariant_of-self : goal.invariant_of-self
invariant_of-self c =
    let cs = c.args.self.now in
    let judged = subst (IsJudged cs c.args.command) c.in-Recorded.is c.judge.ensures in
    let items = c.in-Ok.ensures.items
    ∙ ap (λ (l : List Command). l ++ c.args.command ∷ []) c.self.view_is in (
      subst IsRecorded (sym items)
          (one_more cs c.args.command (subst IsRecorded c.self.view_is c.self.invariant.0) judged.0),
      judged.1 ∙ ap open_pushes (sym items),
      judged.2,
    )
