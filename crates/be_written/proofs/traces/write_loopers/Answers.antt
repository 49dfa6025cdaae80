use Rattle.std.proofs.Common.{◌≡◌, codes, [], ◌∷◌, ℕ, ◌<◌, ◌≤◌, List, ◌++◌, length, get_or, ap, subst, ◌∙◌}
use Rattle.be_script.specs.Script.{declared_by}
use Rattle.be_script.specs.declared.WindowLine.{WindowLine}
use Rattle.be_written.specs.Lines.{line_of}
use Rattle.be_written.proofs.RunnerTexts.{loopers_begin, loopers_go_on, loopers_ended}
use Rattle.be_written.proofs.traces.write_loopers.Goals as goal

pub loop-place-init : goal.loop-place-init
loop-place-init g c = λ h noted. loopers_begin (declared_by c.args.script.now) h c.args.page.now

pub loop-place-preserved : goal.loop-place-preserved
loop-place-preserved g c = λ h noted.
    let k = c.loop-place.place in
    let line = c.window-item.result in
    let lines = c.deref-window-items.ensures.value in
    loopers_go_on (declared_by c.args.script.now) h (g.N.Notes.told c.args.notes.now) k line c.told.result.now c.loop-place.page c.write_line.new.page c.text.new.self
    noted
    (subst (λ (ls : List WindowLine). k < length ls) lines c.loop-place-test.true)
    (subst (λ (ls : List WindowLine). line ≡ get_or ls k line) lines c.window-item.is)
    c.told.ensures
    (c.in_ok-write_line.ensures ∙ ap (λ (name : List ℕ). c.loop-place.page ++ line_of (codes "loop" ∷ name ∷ [])) c.as_slice.ensures)
    c.in_ok-text.ensures
    ∙ c.loop-place.invariant h noted

pub returns : goal.returns
returns g c = λ h noted.
    loopers_ended (declared_by c.args.script.now) h c.loop-place.place c.loop-place.page _ (c.loop-place.invariant h noted)
    (subst (λ (ls : List WindowLine). length ls ≤ c.loop-place.place) c.deref-window-items.ensures.value c.loop-place-test.false)
