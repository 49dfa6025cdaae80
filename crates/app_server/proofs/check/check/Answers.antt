use Rattle.std.proofs.Common.{refl, subst, ◌∙◌}
use Rattle.app_server.specs.CheckText.{check_text}
use Rattle.app_server.specs.Headline.{turn}
use Rattle.app_server.specs.Runs.{IsAnswered}
use Rattle.app_server.specs.declared.command.CommandWords.TheVariants.{Check}
use Rattle.app_server.proofs.Writing.{answers}
use Rattle.be_script.specs.Script.{declared_by}
use Rattle.app_server.proofs.check.check.Goals as goal

pub returns-in-Ok-text : goal.returns-in-Ok-text
returns-in-Ok-text g c =
    let source = turn g.S.Source.left g.S.Source.faults c.args.source.now c.script_from.new.source in
    let sink = turn g.K.Sink.held g.K.Sink.faults c.args.sink.now c.write.new.sink in
    let d = declared_by c.in-Ok.script in
    let tells = c.in-Ok.ensures.script in
    answers Check source sink tells.bytes (check_text d) tells.read
    (record { script = d; is_script = tells.said; says = refl }) c.write.result
    (subst (λ text. IsAnswered text sink c.write.result)
    (c.as_slice.ensures.value ∙ c.in-Ok-text.ensures) c.write.ensures)
