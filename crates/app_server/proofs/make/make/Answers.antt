use Rattle.std.proofs.Common.{[], refl, subst, ◌∙◌}
use Rattle.app_server.specs.Headline.{turn}
use Rattle.app_server.specs.Runs.{IsAnswered}
use Rattle.app_server.specs.declared.command.CommandWords.TheVariants.{Make}
use Rattle.app_server.proofs.Writing.{answers}
use Rattle.be_made.specs.Made.{made}
use Rattle.app_server.proofs.make.make.Goals as goal

pub returns-in-Ok : goal.returns-in-Ok
returns-in-Ok g c =
    let source = turn g.S.Source.left g.S.Source.faults c.args.source.now c.args.source.now in
    let sink = turn g.K.Sink.held g.K.Sink.faults c.args.sink.now c.write.new.sink in
    answers (Make c.args.number) source sink [] (made c.args.number) (refl, refl) refl c.write.result
    (subst (λ text. IsAnswered text sink c.write.result)
    (c.as_slice.ensures.value ∙ c.in-Ok.ensures) c.write.ensures)
