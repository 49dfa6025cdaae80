use Rattle.std.proofs.Common.{◌≡◌, [], replicate, sym, subst}
use Rattle.be_machine.specs.History.{IsLegalHistory, state_after}
use Rattle.be_script.specs.Limits.{IsWithinLimits}
use Rattle.be_script.specs.Script.{Declared}
use Rattle.be_span.specs.Cells.{desktop_cell}
use Rattle.be_written.specs.Notings.{AreTold}
use Rattle.report_tests.specs.Bare.{bare_history}
use Rattle.report_tests.proofs.BareLemmas.{bare_limits, bare_legal, last_screen, told_none}
use Rattle.report_tests.proofs.whole.reported.Goals as goal

pub report-requires-clause-limits : goal.report-requires-clause-limits
report-requires-clause-limits c = subst IsWithinLimits (sym c.script-script.ensures) bare_limits

pub report-requires-clause-legal : goal.report-requires-clause-legal
report-requires-clause-legal c = subst (λ (d : Declared). IsLegalHistory d bare_history) (sym c.script-script.ensures) bare_legal

pub report-requires-clause-told : goal.report-requires-clause-told
report-requires-clause-told c = subst (λ (d : Declared). AreTold d bare_history (λ who. [])) (sym c.script-script.ensures) told_none

pub report-requires-clause-cells : goal.report-requires-clause-cells
report-requires-clause-cells c =
    subst (λ (d : Declared). replicate 12 desktop_cell ≡ (state_after d bare_history).screen) (sym c.script-script.ensures) last_screen
