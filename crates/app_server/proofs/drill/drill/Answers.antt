use Rattle.std.proofs.Common.{ℕ, [], refl, ap, subst, ◌∙◌}
use Rattle.app_server.specs.DrillText.{drill_text}
use Rattle.app_server.specs.Headline.{turn}
use Rattle.app_server.specs.Runs.{IsAnswered}
use Rattle.app_server.specs.declared.command.CommandWords.TheVariants.{Drill}
use Rattle.app_server.proofs.Writing.{answers}
use Rattle.be_machine.specs.Schedule.{IsScheduled}
use Rattle.be_script.specs.Script.{Declared, declared_by}
use Rattle.app_server.proofs.drill.drill.Goals as goal

pub returns-in-Ok-text : goal.returns-in-Ok-text
returns-in-Ok-text g c =
    let n = c.args.number in
    let source = turn g.S.Source.left g.S.Source.faults c.args.source.now c.args.source.now in
    let sink = turn g.K.Sink.held g.K.Sink.faults c.args.sink.now c.write.new.sink in
    let d = declared_by c.in-Ok.script in
    let h = c.in-Ok-run.finished.history.items in
    let leaves = c.in-Ok-run.ensures.leaves in
    answers (Drill n) source sink [] (drill_text d h) (refl, refl)
    (record {
      script = d;
      history = h;
      is_script = c.in-Ok.ensures.script;
      run = record {
        finished = leaves.finished;
        orderly = c.every_history_is_orderly.ensures d h c.in-Ok.ensures.limits
            leaves.finished.legal;
      };
      chosen = subst (λ (seed : ℕ). IsScheduled d seed h) c.from.ensures
          c.in-Ok-run.ensures.scheduled;
      summary = refl;
    })
    c.write.result
    (subst (λ text. IsAnswered text sink c.write.result)
    (c.as_slice.ensures.value ∙ c.in-Ok-text.ensures
    ∙ ap (λ (x : Declared). drill_text x h) leaves.world)
    c.write.ensures)
