use Rattle.std.proofs.Common.{subst, sym}
use Rattle.app_server.specs.Headline.{turn}
use Rattle.app_server.specs.Runs.{IsAnswered}
use Rattle.app_server.proofs.Writing.{run_answers}
use Rattle.be_report.specs.Report.{report_of}
use Rattle.be_runs.specs.Runs.{Leaves}
use Rattle.be_script.specs.Script.{Declared}
use Rattle.app_server.proofs.run.run.Goals as goal

pub returns-in-Ok-run_script : goal.returns-in-Ok-run_script
returns-in-Ok-run_script g c =
    let sink = turn g.K.Sink.held g.K.Sink.faults c.args.sink.now c.answer.new.sink in
    let h = c.in-Ok-run_script.finished.history.items in
    run_answers
    (turn g.S.Source.left g.S.Source.faults c.args.source.now c.script_from.new.source) sink
    c.in-Ok.script c.in-Ok.ensures.limits c.in-Ok.ensures.script
    c.every_history_is_orderly.ensures c.a_report_tells_its_history.ensures.tells h
    c.in-Ok-run_script.ensures.finished c.answer.result
    (subst (λ (w : Declared). IsAnswered (report_of w h) sink c.answer.result) c.in-Ok-run_script.ensures.world
    c.answer.ensures)

pub answer-requires : goal.answer-requires
answer-requires g c =
    let leaves = c.in-Ok-run_script.ensures in
    subst (λ (w : Declared). Leaves w c.in-Ok-run_script.finished) (sym leaves.world) leaves
