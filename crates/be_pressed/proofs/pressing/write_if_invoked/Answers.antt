-- The letter's window hears it, if there is one.
use Rattle.std.proofs.Common.{◌≤◌, ℕ, length, subst, arith}
use Rattle.be_facts.proofs.Lists.{on_ok_map}
use Rattle.be_pressed.proofs.Windows.{heard_at, line_at, no_line_at, none_heard}
use Rattle.be_pressed.proofs.Windows.{nothing_written, on_any}
use Rattle.be_pressed.proofs.pressing.write_if_invoked.Goals as goal
use Rattle.be_script.specs.Script.{declared_by}

pub returns-then-window-windows-clause-heard : goal.returns-then-window-windows-clause-heard
returns-then-window-windows-clause-heard c = λ before was.
    none_heard (declared_by c.args.script.now) before c.args.letter.now c.args.windows.now was
    (subst (λ (n : ℕ). length c.args.windows.now ≤ n) c.from-window.ensures
    c.if-window-windows.true)

pub returns-then-window-windows-clause-text : goal.returns-then-window-windows-clause-text
returns-then-window-windows-clause-text c = λ before was.
    nothing_written (declared_by c.args.script.now) before c.args.letter.now c.args.windows.now was
    (subst (λ (n : ℕ). length c.args.windows.now ≤ n) c.from-window.ensures
    c.if-window-windows.true) c.args.text.now.items

pub returns-in_default-clause-heard : goal.returns-in_default-clause-heard
returns-in_default-clause-heard c = λ before was.
    heard_at (declared_by c.args.script.now) before c.args.letter.now c.args.windows.now was
    c.from-window.result c.from-window.ensures c.index-windows-window.result (omega arith)
    c.hear-invoked.new.self c.hear-invoked.ensures.bounds c.hear-invoked.ensures.heard

pub returns-in_default-clause-text : goal.returns-in_default-clause-text
returns-in_default-clause-text c = λ before was.
    no_line_at (declared_by c.args.script.now) before c.args.letter.now c.args.windows.now was
    c.from-window.result c.from-window.ensures c.index-windows-window.result (omega arith)
    c.hear-invoked.result c.hear-invoked.ensures.invoked
    (λ v to. absurd (c.in_default.not-View v to)) c.args.text.now.items

pub returns-then-invoked-clause-heard : goal.returns-then-invoked-clause-heard
returns-then-invoked-clause-heard c =
    on_any c.write_invoked.result _ (λ before was.
    heard_at (declared_by c.args.script.now) before c.args.letter.now c.args.windows.now was
    c.from-window.result c.from-window.ensures c.index-windows-window.result (omega arith)
    c.hear-invoked.new.self c.hear-invoked.ensures.bounds c.hear-invoked.ensures.heard)

pub returns-then-invoked-clause-text : goal.returns-then-invoked-clause-text
returns-then-invoked-clause-text c =
    on_ok_map c.write_invoked.result _ _ c.write_invoked.ensures (λ added. λ before was.
    line_at (declared_by c.args.script.now) before c.args.letter.now c.args.windows.now was
    c.from-window.result c.from-window.ensures c.index-windows-window.result (omega arith)
    c.hear-invoked.result c.hear-invoked.ensures.invoked c.in-View.view c.in-View.is
    c.if-invoked.true c.args.text.now.items c.write_invoked.new.text.items added)

pub returns-else-invoked-clause-heard : goal.returns-else-invoked-clause-heard
returns-else-invoked-clause-heard c = λ before was.
    heard_at (declared_by c.args.script.now) before c.args.letter.now c.args.windows.now was
    c.from-window.result c.from-window.ensures c.index-windows-window.result (omega arith)
    c.hear-invoked.new.self c.hear-invoked.ensures.bounds c.hear-invoked.ensures.heard

pub returns-else-invoked-clause-text : goal.returns-else-invoked-clause-text
returns-else-invoked-clause-text c = λ before was.
    no_line_at (declared_by c.args.script.now) before c.args.letter.now c.args.windows.now was
    c.from-window.result c.from-window.ensures c.index-windows-window.result (omega arith)
    c.hear-invoked.result c.hear-invoked.ensures.invoked (λ v to. c.if-invoked.false)
    c.args.text.now.items
