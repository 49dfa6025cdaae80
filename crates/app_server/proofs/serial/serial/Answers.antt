use Rattle.std.proofs.Common.{subst}
use Rattle.app_server.specs.Headline.{turn}
use Rattle.app_server.specs.Runs.{IsAnswered}
use Rattle.app_server.proofs.Writing.{serial_answers}
use Rattle.be_report.specs.Report.{report_of}
use Rattle.be_script.specs.Script.{Declared}
use Rattle.app_server.proofs.serial.serial.Goals as goal

pub returns-in-Ok-run : goal.returns-in-Ok-run
returns-in-Ok-run g c =
    let sink = turn g.K.Sink.held g.K.Sink.faults c.args.sink.now c.answer.new.sink in
    let h = c.in-Ok-run.run'.history.items in
    serial_answers
    (turn g.S.Source.left g.S.Source.faults c.args.source.now c.script_from.new.source) sink
    c.in-Ok.script c.in-Ok.ensures.limits c.in-Ok.ensures.script
    c.every_history_is_orderly.ensures c.a_report_tells_its_history.ensures.tells h
    c.in-Ok-run.ensures.leaves.finished c.args.seed c.in-Ok-run.ensures.scheduled c.answer.result
    (subst (λ (w : Declared). IsAnswered (report_of w h) sink c.answer.result) c.in-Ok-run.ensures.leaves.world
    c.answer.ensures)
