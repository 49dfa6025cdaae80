use Rattle.std.proofs.Common.{◌≡◌, List, map, ap, subst, sym, ◌∙◌}
use Rattle.be_machine.specs.History.{IsLegalHistory, state_after}
use Rattle.be_machine.specs.declared.Entry.{Entry}
use Rattle.be_parts.specs.Parts.{meaning_of}
use Rattle.be_parts.specs.declared.part.Part.{Part}
use Rattle.be_rules.specs.Slices.{slices}
use Rattle.be_runs.specs.Runs.{told_in}
use Rattle.be_script.specs.Script.{Declared, declared_by}
use Rattle.be_written.specs.Notings.{AreTold}
use Rattle.app_server.proofs.answer.answer.Goals as goal

pub report-requires-clause-cells : goal.report-requires-clause-cells
report-requires-clause-cells g c =
    let d = declared_by c.script-script.result.now in
    let run = c.args.run.now in
    let h = c.as_slice.result.now in
    let same : d ≡ run.world = c.script-script.ensures.declared in
    let all : h ≡ run.history.items = c.as_slice.ensures.value in
    let legal : IsLegalHistory d h =
    subst (IsLegalHistory d) (sym all)
    (subst (λ (x : Declared). IsLegalHistory x run.history.items) (sym same)
    c.requires.finished.legal) in
    let parts : map meaning_of c.as_slice-parts.result.now ≡ slices d (state_after d h) =
    ap (map meaning_of) c.as_slice-parts.ensures.value ∙ c.requires.parts
    ∙ ap (λ (x : Declared). slices x (state_after x run.history.items)) (sym same)
    ∙ ap (λ (x : List Entry). slices d (state_after d x)) (sym all) in
    c.in-Ok-new.ensures.after h legal parts

pub report-requires-clause-told : goal.report-requires-clause-told
report-requires-clause-told g c =
    let d = declared_by c.script-script.result.now in
    let run = c.args.run.now in
    let h = c.as_slice.result.now in
    let same : d ≡ run.world = c.script-script.ensures.declared in
    let all : h ≡ run.history.items = c.as_slice.ensures.value in
    let told : AreTold d h (told_in d run.parts.items) =
    subst (λ (l : List Entry). AreTold d l (told_in d run.parts.items)) (sym all)
    (subst (λ (x : Declared). AreTold x run.history.items (told_in x run.parts.items)) (sym same)
    c.requires.traces) in
    λ who there.
    c.in-Ok.ensures who
    ∙ ap (λ (l : List Part). told_in d l who) c.as_slice-parts.ensures.value
    ∙ told who there
