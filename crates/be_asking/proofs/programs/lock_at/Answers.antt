use Rattle.std.proofs.Common.{◌≡◌, ◌≤◌, length, None, sym, ap, ◌∙◌, subst, arith}
use Rattle.std.specs.Prelude.{◌-◌, min}
use lib.ListN.{get_or}
use Rattle.be_machine.specs.Program.{lock_before}
use Rattle.be_script.specs.Programs.{lock_behind}
use Rattle.be_asking.proofs.Locks.{lock_first, lock_back, lock_kept, no_lock}
use Rattle.be_asking.proofs.programs.lock_at.Goals as goal

pub loop-behind-init : goal.loop-behind-init
loop-behind-init c =
    let long : c.len.result ≡ length c.args.program.now = c.len.ensures ∙ c.program.inside.steps.ok.0 ∙ ap length c.program.view_is in
    let is : c.min-behind.result ≡ min (length c.args.program.now) c.args.step = c.min-behind.ensures ∙ ap (λ n. min n c.args.step) long in
    subst (λ n. (n ≤ length c.args.program.now) × (lock_before None c.args.program.now c.args.step ≡ lock_before None c.args.program.now n)) (sym is) (lock_first c.args.program.now c.args.step)

pub returns-in-Lock : goal.returns-in-Lock
returns-in-Lock c =
    let at : c.index.result.now ≡ get_or c.args.program.now (c.loop-behind.behind - 1) c.index.result.now = c.index.ensures ∙ ap (λ l. get_or l (c.loop-behind.behind - 1) c.index.result.now) c.program.view_is in
    sym (lock_back c.args.program.now c.args.step c.loop-behind.behind c.index.result.now c.loop-behind-test.true c.loop-behind.invariant at ∙ ap (lock_behind (lock_before None c.args.program.now (c.loop-behind.behind - 1))) c.in-Lock.is)

pub returns-in-Unlock : goal.returns-in-Unlock
returns-in-Unlock c =
    let at : c.index.result.now ≡ get_or c.args.program.now (c.loop-behind.behind - 1) c.index.result.now = c.index.ensures ∙ ap (λ l. get_or l (c.loop-behind.behind - 1) c.index.result.now) c.program.view_is in
    sym (lock_back c.args.program.now c.args.step c.loop-behind.behind c.index.result.now c.loop-behind-test.true c.loop-behind.invariant at ∙ ap (lock_behind (lock_before None c.args.program.now (c.loop-behind.behind - 1))) c.in-Unlock.is)

pub loop-behind-preserved : goal.loop-behind-preserved
loop-behind-preserved c =
    let at : c.index.result.now ≡ get_or c.args.program.now (c.loop-behind.behind - 1) c.index.result.now = c.index.ensures ∙ ap (λ l. get_or l (c.loop-behind.behind - 1) c.index.result.now) c.program.view_is in
    (omega (arith, c.loop-behind.invariant.0), lock_back c.args.program.now c.args.step c.loop-behind.behind c.index.result.now c.loop-behind-test.true c.loop-behind.invariant at ∙ lock_kept (lock_before None c.args.program.now (c.loop-behind.behind - 1)) c.index.result.now c.in_default.not-Lock c.in_default.not-Unlock)

pub returns : goal.returns
returns c = no_lock c.args.program.now c.args.step c.loop-behind.behind c.loop-behind-test.false c.loop-behind.invariant.1
