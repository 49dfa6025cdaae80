use Rattle.std.proofs.Common.{◌≡◌, List, pos, refl, sym, ap, subst, ◌∙◌}
use Rattle.app_server.specs.ExplainText.{explain_text, pixel_line}
use Rattle.app_server.specs.Headline.{turn}
use Rattle.app_server.specs.Runs.{IsAnswered}
use Rattle.app_server.specs.declared.command.CommandWords.TheVariants.{Explain}
use Rattle.app_server.proofs.Writing.{answers}
use Rattle.be_check.specs.Explaining.{explained}
use Rattle.be_machine.specs.History.{IsFinished}
use Rattle.be_machine.specs.declared.Entry.{Entry}
use Rattle.be_script.specs.Script.{Declared, declared_by}
use Rattle.app_server.proofs.explain.explain.Goals as goal

pub returns-in-Ok-text : goal.returns-in-Ok-text
returns-in-Ok-text g c =
    let x = c.args.x in
    let y = c.args.y in
    let source = turn g.S.Source.left g.S.Source.faults c.args.source.now c.told_from.new.source in
    let sink = turn g.K.Sink.held g.K.Sink.faults c.args.sink.now c.write.new.sink in
    let told = c.in-Ok.told in
    let d = declared_by told.script in
    let h = told.history.items in
    let world : c.in-Ok-new.world ≡ d = c.in-Ok-new.ensures in
    let entries : c.as_slice.result.now ≡ h = c.as_slice.ensures.value in
    let finished : IsFinished d h =
    subst (IsFinished d) entries
    (subst (λ (w : Declared). IsFinished w c.as_slice.result.now) world
    c.in-Ok-explain_pixel.ensures.finished) in
    let found : c.in-Ok-explain_pixel.found ≡ explained d h (pos x) (pos y) =
    c.in-Ok-explain_pixel.ensures.explained
    ∙ ap (λ (w : Declared). explained w c.as_slice.result.now (pos x) (pos y)) world
    ∙ ap (λ (l : List Entry). explained d l (pos x) (pos y)) entries in
    answers (Explain x y) source sink c.in-Ok.ensures.told.bytes (explain_text d h x y)
    c.in-Ok.ensures.told.read
    (record {
      told = record { script = d; history = h };
      is_told = c.in-Ok.ensures.told.said;
      finished = finished;
      says = refl;
    })
    c.write.result
    (subst (λ text. IsAnswered text sink c.write.result)
    (c.as_slice-in-Ok-text.ensures.value ∙ c.in-Ok-text.ensures ∙ ap (pixel_line x y) found)
    c.write.ensures)
