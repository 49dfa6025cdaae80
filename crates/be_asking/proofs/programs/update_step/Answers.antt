use Rattle.std.proofs.Common.{◌≡◌, ◌+◌, ◌<◌, ◌≤◌, length, sym, ap, ◌∙◌, subst}
use Rattle.std.specs.Prelude.{◌-◌, slice_get}
use lib.ListN.{get_or}
use Rattle.be_asking.proofs.Locks.{get_there}
use Rattle.be_asking.proofs.Updates.{from, step_here, step_past}
use Rattle.be_script.specs.Script.{declared_by}
use Rattle.be_script.specs.Windows.{draw_program}
use Rattle.be_asking.proofs.programs.update_step.Goals as goal

pub returns-then-left-len : goal.returns-then-left-len
returns-then-left-len c =
    let long : c.len.result ≡ length c.in-Some.program.now = c.len.ensures ∙ c.program.inside.steps.ok.0 ∙ ap length c.program.view_is in
    let inside : c.loop-view.left < length c.in-Some.program.now = subst (λ n. c.loop-view.left < n) long c.if-left-len.true in
    let at : c.index.result.now ≡ get_or c.in-Some.program.now c.loop-view.left c.index.result.now = c.index.ensures ∙ ap (λ l. get_or l c.loop-view.left c.index.result.now) c.program.view_is in
    sym (get_there c.in-Some.program.now c.loop-view.left c.index.result.now inside at)
    ∙ sym (step_here (draw_program (declared_by c.args.script.now) c.args.window) c.args.views.now c.loop-view.view-index c.loop-view.left _ c.in-Some.program.now c.loop-view-test.true c.in-Some.ensures inside)
    ∙ c.loop-view.invariant

pub loop-view-preserved : goal.loop-view-preserved
loop-view-preserved c =
    let long : c.len.result ≡ length c.in-Some.program.now = c.len.ensures ∙ c.program.inside.steps.ok.0 ∙ ap length c.program.view_is in
    let again : c.len-left.result ≡ length c.in-Some.program.now = c.len-left.ensures ∙ c.program.inside.steps.ok.0 ∙ ap length c.program.view_is in
    let past : length c.in-Some.program.now ≤ c.loop-view.left = subst (λ n. n ≤ c.loop-view.left) long c.if-left-len.false in
    ap (λ n. slice_get (from (draw_program (declared_by c.args.script.now) c.args.window) c.args.views.now (c.loop-view.view-index + 1)) (c.loop-view.left - n)) again
    ∙ step_past (draw_program (declared_by c.args.script.now) c.args.window) c.args.views.now c.loop-view.view-index c.loop-view.left _ c.in-Some.program.now c.loop-view-test.true c.in-Some.ensures past
    ∙ c.loop-view.invariant
