-- One window more is in front of the others.
use Rattle.std.proofs.Common.{◌≡◌, List, length, ap, ◌∙◌, arith}
use Rattle.std.proofs.lemmas.List.{take_all}
use Rattle.be_script.specs.declared.WindowLine.{WindowLine}
use Rattle.be_opening.proofs.Windows.{next_window, windows_of}
use Rattle.be_opening.proofs.desk.stack_of.Goals as goal

pub loop-line-preserved : goal.loop-line-preserved
loop-line-preserved c =
    next_window c.args.script.now.screen.0 c.args.script.now.screen.1 c.args.script.now.windows.items c.deref-line-items.result.now c.loop-line.line-index c.line-item.result c.in-Ok.field-0 c.flags_of.result c.loop-line.stack c.add.new.self
    c.deref-line-items.ensures.value c.loop-line-test.true c.line-item.is c.loop-line.invariant c.in-Ok.ensures.number c.flags_of.ensures c.in-Ok.ensures.added

pub returns : goal.returns
returns c =
    let count : length c.deref-line-items.result.now ≡ length c.args.script.now.windows.items = ap length c.deref-line-items.ensures.value in
    c.loop-line.invariant
    ∙ ap (λ (l : List WindowLine). windows_of c.args.script.now.screen.0 c.args.script.now.screen.1 l) (take_all c.loop-line.line-index c.args.script.now.windows.items (omega arith))
