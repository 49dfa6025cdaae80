use Rattle.std.proofs.Common.{◌≡◌, [], refl, ap, subst, ◌∙◌}
use Rattle.app_server.specs.Headline.{turn}
use Rattle.app_server.specs.Runs.{IsAnswered}
use Rattle.app_server.specs.declared.command.CommandWords.TheVariants.{Buttons}
use Rattle.app_server.proofs.Writing.{answers}
use Rattle.be_machine.specs.History.{IsFinished}
use Rattle.be_pressed.specs.ButtonText.{buttons_text, letters_text}
use Rattle.be_pressed.specs.Taken.{letters_taken}
use Rattle.be_script.specs.Script.{Declared, declared_by}
use Rattle.app_server.proofs.buttons.buttons.Goals as goal

pub returns-in-Ok-pressed : goal.returns-in-Ok-pressed
returns-in-Ok-pressed g c =
    let source = turn g.S.Source.left g.S.Source.faults c.args.source.now c.told_from.new.source in
    let sink = turn g.K.Sink.held g.K.Sink.faults c.args.sink.now c.write.new.sink in
    let told = c.in-Ok.told in
    let d = declared_by told.script in
    let h = told.history.items in
    let world : c.in-Ok-new.world ≡ d = c.in-Ok-new.ensures in
    let script : declared_by c.script.result.now ≡ d = c.script.ensures.declared ∙ world in
    let entries : c.as_slice.result.now ≡ h = c.as_slice.ensures.value in
    let finished : IsFinished d h =
    subst (IsFinished d) entries
    (subst (λ (w : Declared). IsFinished w c.as_slice.result.now) world
    c.in-Ok-taken.ensures.finished) in
    let letters : c.as_slice-2.result.now ≡ letters_taken d h =
    c.as_slice-2.ensures.value ∙ c.in-Ok-taken.ensures.letters
    ∙ ap (λ (w : Declared). letters_taken w c.as_slice.result.now) world
    ∙ ap (letters_taken d) entries in
    answers Buttons source sink c.in-Ok.ensures.told.bytes (buttons_text d h)
    c.in-Ok.ensures.told.read
    (record {
      told = record { script = d; history = h };
      is_told = c.in-Ok.ensures.told.said;
      finished = finished;
      says = refl;
    })
    c.write.result
    (subst (λ text. IsAnswered text sink c.write.result)
    (c.as_slice-in-Ok-pressed.ensures.value ∙ c.in-Ok-pressed.ensures
    ∙ ap (λ (w : Declared). letters_text w [] c.as_slice-2.result.now) script
    ∙ ap (letters_text d []) letters)
    c.write.ensures)
