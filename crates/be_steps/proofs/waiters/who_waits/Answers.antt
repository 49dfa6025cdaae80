use Rattle.std.proofs.Common.{Some, sym, ap, ◌∙◌}
use Rattle.std.specs.Prelude.{option_and_then}
use Rattle.be_looper.specs.Duties.{waiter}
use Rattle.be_port.specs.declared.Duty.{Duty}
use Rattle.be_script.specs.Script.{declared_by}
use Rattle.be_steps.proofs.Waited.{waiter_at}
use Rattle.be_steps.proofs.waiters.who_waits.Goals as goal

pub cell_is_there-requires : goal.cell_is_there-requires
cell_is_there-requires c =
    c.requires.cells c.in-Owed.m
    (waiter_at (declared_by c.args.script.now) c.args.held.now.parts c.args.w c.looper_place.result c.looper_place.ensures c.looper_at-looper.result.now c.looper_at-looper.ensures (Some c.in-Owed.m)
    (ap (option_and_then waiter) (sym c.in_ok-letter.ensures.duty ∙ ap (λ (duty : Duty). Some duty) c.in-Owed.is)))
