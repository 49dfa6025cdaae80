-- A window more.
use Rattle.std.proofs.Common.{◌<◌, List, length, get_or, ap, sym, subst, ◌∙◌, arith}
use Rattle.be_control.specs.Buttons.{Button}
use Rattle.be_pressed.proofs.Opened.{AreOpened, all_opened, none_opened, one_opened}
use Rattle.be_pressed.proofs.opening.opened.Goals as goal
use Rattle.be_script.specs.Script.{declared_by}
use Rattle.be_script.specs.declared.WindowLine.{WindowLine}

pub loop-w-init : goal.loop-w-init
loop-w-init c =
    subst (λ (l : List (List Button)). AreOpened (declared_by c.args.script.now) 0 l)
    (sym c.new-windows.ensures.items) (none_opened (declared_by c.args.script.now))

pub loop-w-preserved : goal.loop-w-preserved
loop-w-preserved c =
    let w = c.loop-w.w in
    let line = c.line-item.result in
    let value = c.deref-line-items.ensures.value in
    let less = subst (λ (l : List WindowLine). w < length l) value c.loop-w-test.true in
    let is = c.line-item.is ∙ ap (λ (l : List WindowLine). get_or l w line) value in
    one_opened (declared_by c.args.script.now) w line c.loop-w.windows.items
    c.push.new.self.items c.in_ok-opened_in.field-0 less is c.loop-w.invariant
    c.in_ok-opened_in.ensures c.in_ok-push.ensures.items

pub returns : goal.returns
returns c =
    let long = ap length c.deref-line-items.ensures.value in
    all_opened (declared_by c.args.script.now) c.loop-w.w c.loop-w.windows.items (omega arith)
    c.loop-w.invariant
