use Rattle.std.proofs.Common.{ℕ, ◌+◌, ◌*◌, ◌<◌, ◌≤◌, length, arith}
use Rattle.be_world.specs.Marks.{IsTwin}
use Rattle.be_world.proofs.Marking.{fewer, one_more, twin_more, unmarked}
use Rattle.be_world.proofs.marks.mark_twins.Goals as goal

pub loop-window-init : goal.loop-window-init
loop-window-init c =
    unmarked (IsTwin c.args.apps 0) c.args.marks.now (λ a is. absurd (omega (arith, is.1)))

pub loop-window-preserved : goal.loop-window-preserved
loop-window-preserved c =
    let apps = c.args.apps in
    let w = c.loop-window.window in
    let there : apps + 2 * w + 1 < length c.loop-window.marks =
    omega (arith, c.requires, c.loop-window.auto.marks, c.loop-window-test.true) in
    one_more c.args.marks.now c.loop-window.marks (apps + 2 * w + 1) there (IsTwin apps w)
    (IsTwin apps (w + 1)) c.loop-window.invariant (twin_more apps w)

pub returns : goal.returns
returns c =
    fewer (IsTwin c.args.apps c.loop-window.window) (IsTwin c.args.apps c.args.windows)
    c.args.marks.now c.loop-window.marks c.loop-window.invariant
    (λ a is. (is.0, omega (arith, is.1, c.loop-window-test.false), is.2))
