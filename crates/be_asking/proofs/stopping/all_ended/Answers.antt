use Rattle.std.proofs.Common.{◌≡◌, ◌<◌, ◌≤◌, length, true, false, ◌∙◌, subst, arith, below_more}
use Rattle.std.proofs.lemmas.Result.{err_from_is_err_and}
use Rattle.be_script.specs.Script.{declared_by}
use Rattle.be_machine.specs.Program.{has_ended}
use Rattle.be_machine.specs.Touched as part
use Rattle.be_asking.specs.Finding.{IsInHand}
use Rattle.be_asking.specs.Stopping.{Tells}
use Rattle.be_asking.proofs.Rests.{ended_told, going_told}
use Rattle.be_asking.proofs.stopping.all_ended.Goals as goal

pub returns-in_err-has_ended-clause-lost : goal.returns-in_err-has_ended-clause-lost
returns-in_err-has_ended-clause-lost c =
    let p = err_from_is_err_and c.from_residual.result c.from_residual.ensures.1 in
    let long : c.len-app-end.result ≡ length (declared_by c.args.script.now).apps = c.len-app-end.ensures ∙ c.args.script.now.apps.ok.0 in
    let inside : c.loop-app.app < length (declared_by c.args.script.now).apps = omega (arith, long, c.loop-app-test.true) in
    rw (p.1, p.2) (record { of = part.cell c.loop-app.app; there = inside; missing = c.in_err-has_ended.ensures.missing })

pub returns-then-not-branch-clause-told : goal.returns-then-not-branch-clause-told
returns-then-not-branch-clause-told c =
    let long : c.len-app-end.result ≡ length (declared_by c.args.script.now).apps = c.len-app-end.ensures ∙ c.args.script.now.apps.ok.0 in
    let inside : c.loop-app.app < length (declared_by c.args.script.now).apps = omega (arith, long, c.loop-app-test.true) in
    let is : c.in_ok-has_ended.field-0 ≡ false = c.if-not-branch.true in
    going_told (declared_by c.args.script.now) c.args.held.now.parts c.loop-app.app inside
    (subst (Tells (declared_by c.args.script.now) c.args.held.now.parts (λ s. has_ended (declared_by c.args.script.now) s c.loop-app.app)) is c.in_ok-has_ended.ensures.told)

pub loop-app-preserved : goal.loop-app-preserved
loop-app-preserved c =
    let is : c.in_ok-has_ended.field-0 ≡ true = c.if-not-branch.false in
    below_more (λ m. Tells (declared_by c.args.script.now) c.args.held.now.parts (λ s. has_ended (declared_by c.args.script.now) s m) true × IsInHand (declared_by c.args.script.now) c.args.held.now.parts (part.cell m)) c.loop-app.app c.loop-app.invariant
    (subst (Tells (declared_by c.args.script.now) c.args.held.now.parts (λ s. has_ended (declared_by c.args.script.now) s c.loop-app.app)) is c.in_ok-has_ended.ensures.told, c.in_ok-has_ended.ensures.there)

pub returns-clause-told : goal.returns-clause-told
returns-clause-told c =
    let long : c.len-app-end.result ≡ length (declared_by c.args.script.now).apps = c.len-app-end.ensures ∙ c.args.script.now.apps.ok.0 in
    let past : length (declared_by c.args.script.now).apps ≤ c.loop-app.app = omega (arith, long, c.loop-app-test.false) in
    ended_told (declared_by c.args.script.now) c.args.held.now.parts (λ m lt. (c.loop-app.invariant m (omega (arith, past, lt))).0)

pub returns-clause-there : goal.returns-clause-there
returns-clause-there c =
    let long : c.len-app-end.result ≡ length (declared_by c.args.script.now).apps = c.len-app-end.ensures ∙ c.args.script.now.apps.ok.0 in
    let past : length (declared_by c.args.script.now).apps ≤ c.loop-app.app = omega (arith, long, c.loop-app-test.false) in
    λ ended m lt. (c.loop-app.invariant m (omega (arith, past, lt))).1
