use Rattle.std.proofs.Common.{List, refl, subst, sym, ◌∙◌}
use Rattle.app_server.specs.Headline.{turn}
use Rattle.app_server.specs.Runs.{IsAnswered}
use Rattle.app_server.specs.declared.command.CommandWords.TheVariants.{Replay}
use Rattle.app_server.proofs.Writing.{answers, illegal_answers}
use Rattle.be_check.specs.Checking.{IsIllegalAt}
use Rattle.be_machine.specs.History.{IsFinished}
use Rattle.be_machine.specs.declared.Entry.{Entry}
use Rattle.be_report.specs.Report.{report_of}
use Rattle.be_script.specs.Script.{Declared, declared_by}
use Rattle.app_server.proofs.replay.replay.Goals as goal

pub returns-in-Ok-check : goal.returns-in-Ok-check
returns-in-Ok-check g c =
    let source = turn g.S.Source.left g.S.Source.faults c.args.source.now c.told_from.new.source in
    let sink = turn g.K.Sink.held g.K.Sink.faults c.args.sink.now c.answer.new.sink in
    let told = c.in-Ok.told in
    let d = declared_by told.script in
    let h = told.history.items in
    let run = c.in-Ok-check.finished in
    let world = c.in-Ok-check.ensures.leaves.world ∙ c.in-Ok-new.ensures in
    let finished : IsFinished d h =
    subst (λ (w : Declared). IsFinished w h) c.in-Ok-new.ensures
    (subst (IsFinished c.in-Ok-new.world) c.in-Ok-check.ensures.history
    c.in-Ok-check.ensures.leaves.finished) in
    answers Replay source sink c.in-Ok.ensures.told.bytes (report_of d h)
    c.in-Ok.ensures.told.read
    (record {
      told = record { script = d; history = h };
      is_told = c.in-Ok.ensures.told.said;
      finished = finished;
      says = refl;
    })
    c.answer.result
    (subst (λ (w : Declared). IsAnswered (report_of w h) sink c.answer.result) world
    (subst (λ (l : List Entry). IsAnswered (report_of run.world l) sink c.answer.result)
    c.in-Ok-check.ensures.history c.answer.ensures))
