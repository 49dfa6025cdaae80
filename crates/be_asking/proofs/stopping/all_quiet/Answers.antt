use Rattle.std.proofs.Common.{◌≡◌, ◌<◌, ◌≤◌, length, true, false, ◌∙◌, subst, arith, below_more}
use Rattle.be_script.specs.Script.{declared_by}
use Rattle.be_asking.specs.Stopping.{HasWindow, Tells, is_quiet}
use Rattle.be_asking.proofs.Rests.{busy_told, quiet_told}
use Rattle.be_asking.proofs.stopping.all_quiet.Goals as goal

pub returns-then-not-branch-clause-told : goal.returns-then-not-branch-clause-told
returns-then-not-branch-clause-told c =
    let long : c.len-window-end.result ≡ length (declared_by c.args.script.now).windows = c.len-window-end.ensures ∙ c.args.script.now.windows.ok.0 in
    let inside : c.loop-window.window < length (declared_by c.args.script.now).windows = omega (arith, long, c.loop-window-test.true) in
    let is : c.in_ok-is_quiet.field-0 ≡ false = c.if-not-branch.true in
    busy_told (declared_by c.args.script.now) c.args.held.now.parts c.loop-window.window inside
    (subst (Tells (declared_by c.args.script.now) c.args.held.now.parts (is_quiet c.loop-window.window)) is c.in_ok-is_quiet.ensures.told)

pub loop-window-preserved : goal.loop-window-preserved
loop-window-preserved c =
    let is : c.in_ok-is_quiet.field-0 ≡ true = c.if-not-branch.false in
    below_more (λ w. Tells (declared_by c.args.script.now) c.args.held.now.parts (is_quiet w) true × HasWindow (declared_by c.args.script.now) c.args.held.now.parts w) c.loop-window.window c.loop-window.invariant
    (subst (Tells (declared_by c.args.script.now) c.args.held.now.parts (is_quiet c.loop-window.window)) is c.in_ok-is_quiet.ensures.told, c.in_ok-is_quiet.ensures.there)

pub returns-clause-told : goal.returns-clause-told
returns-clause-told c =
    let long : c.len-window-end.result ≡ length (declared_by c.args.script.now).windows = c.len-window-end.ensures ∙ c.args.script.now.windows.ok.0 in
    let past : length (declared_by c.args.script.now).windows ≤ c.loop-window.window = omega (arith, long, c.loop-window-test.false) in
    quiet_told (declared_by c.args.script.now) c.args.held.now.parts (λ w lt. (c.loop-window.invariant w (omega (arith, past, lt))).0)

pub returns-clause-there : goal.returns-clause-there
returns-clause-there c =
    let long : c.len-window-end.result ≡ length (declared_by c.args.script.now).windows = c.len-window-end.ensures ∙ c.args.script.now.windows.ok.0 in
    let past : length (declared_by c.args.script.now).windows ≤ c.loop-window.window = omega (arith, long, c.loop-window-test.false) in
    λ quiet w lt. (c.loop-window.invariant w (omega (arith, past, lt))).1
