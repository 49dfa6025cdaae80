use Rattle.std.proofs.Common.{◌≡◌, ℕ, List, map, IfOk, ap, subst, sym, ◌∙◌}
use Rattle.be_machine.specs.History.{IsLegalHistory, state_after}
use Rattle.be_machine.specs.declared.Entry.{Entry}
use Rattle.be_parts.specs.Parts.{meaning_of}
use Rattle.be_rules.specs.Slices.{slices}
use Rattle.be_script.specs.Limits.{IsWithinLimits}
use Rattle.be_script.specs.Script.{Declared, declared_by}
use Rattle.be_shown.specs.Desktop.{desktop_count}
use Rattle.be_span.specs.declared.Cell.{Cell}
use Rattle.be_summary.specs.Summary.{summary}
use Rattle.app_server.proofs.drill.text.Goals as goal

pub desktop_pixels-desktop-requires : goal.desktop_pixels-desktop-requires
desktop_pixels-desktop-requires c =
    let d = declared_by c.script-script.result.now in
    let run = c.args.run.now in
    let h = run.history.items in
    let same : d ≡ run.world = c.script-script.ensures.declared in
    record {
      limits = subst IsWithinLimits (sym same) c.script-script.ensures.limits;
      history = h;
      legal = subst (λ (x : Declared). IsLegalHistory x h) (sym same) c.requires.finished.legal;
      is = ap (map meaning_of) c.as_slice-parts.ensures.value ∙ c.requires.parts
          ∙ ap (λ (x : Declared). slices x (state_after x h)) (sym same);
    }

pub returns : goal.returns
returns c =
    let d = declared_by c.script-script.result.now in
    let run = c.args.run.now in
    let h = run.history.items in
    let same : d ≡ run.world = c.script-script.ensures.declared in
    let legal : IsLegalHistory d h =
    subst (λ (x : Declared). IsLegalHistory x h) (sym same) c.requires.finished.legal in
    let parts : map meaning_of c.as_slice-parts.result.now ≡ slices d (state_after d h) =
    ap (map meaning_of) c.as_slice-parts.ensures.value ∙ c.requires.parts
    ∙ ap (λ (x : Declared). slices x (state_after x h)) (sym same) in
    let all : c.as_slice.result.now ≡ h = c.as_slice.ensures.value in
    let count = c.desktop_pixels-desktop.result in
    let cells = c.in_ok-screen.screen.cells in
    let s = state_after d h in
    subst (λ (due : List ℕ). IfOk c.summary.result (λ text. text.items ≡ due))
    (ap (λ (l : List Entry). summary l count cells) all
    ∙ ap (λ (n : ℕ). summary h n cells) (c.desktop_pixels-desktop.ensures.after h legal parts)
    ∙ ap (λ (cs : List Cell). summary h (desktop_count d s) cs)
    (c.in_ok-screen.ensures.after h legal parts)
    ∙ ap (λ (x : Declared). summary h (desktop_count x (state_after x h)) (state_after x h).screen)
    same)
    c.summary.ensures
