use Rattle.std.proofs.Common.{map, ap, ◌∙◌}
use Rattle.std.proofs.lemmas.List.{take_all}
use Rattle.be_parts.specs.Parts.{notes_of}
use Rattle.be_script.specs.Script.{declared_by}
use Rattle.be_shown.proofs.TraceLemmas.{told_are}
use Rattle.be_shown.proofs.traces.Traces.new.Goals as goal

pub returns : goal.returns
returns c =
    let parts = c.args.parts.now in
    told_are (declared_by c.args.script.now)
    record { apps = c.len.result; notes = map (λ text. text.items) c.loop-part.texts.items }
    parts (c.len.ensures ∙ c.args.script.now.apps.ok.0)
    (c.loop-part.invariant
    ∙ ap (map notes_of) (take_all c.loop-part.part-index parts c.loop-part-test.false))
