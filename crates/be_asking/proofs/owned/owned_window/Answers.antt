use Rattle.std.proofs.Common.{None, sym, ap, ◌∙◌, subst}
use Rattle.be_machine.specs.Program.{lock_before}
use Rattle.be_machine.specs.Touched.{own_part}
use Rattle.be_script.specs.Script.{declared_by}
use Rattle.be_asking.specs.Acts.{OwnsWindow}
use Rattle.be_asking.specs.Finding.{IsReachable}
use Rattle.be_asking.specs.Wants.{runner_in}
use Rattle.be_asking.proofs.OwnedWindows.{app_owns}
use Rattle.be_asking.proofs.owned.owned_window.Goals as goal

pub returns-in_ok-cell-in-App-clause-owns : goal.returns-in_ok-cell-in-App-clause-owns
returns-in_ok-cell-in-App-clause-owns c =
    subst (λ r. OwnsWindow (declared_by c.args.script.now) c.args.held.now.parts r c.lock_at.result) (sym c.in-App.is)
    (app_owns (declared_by c.args.script.now) c.args.held.now.parts c.in-App.m c.in_ok-cell-in-App.cell.now
    (subst (λ r. IsReachable (declared_by c.args.script.now) c.args.held.now.parts (own_part (runner_in r))) c.in-App.is c.requires)
    c.in_ok-cell-in-App.ensures.there c.place.result c.place.ensures c.lock_at.result
    (c.lock_at.ensures ∙ ap (λ p. lock_before None p c.place.result.step) c.app_steps.ensures))
