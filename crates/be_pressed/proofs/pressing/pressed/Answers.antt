-- A letter more was heard, and its line stands.
use Rattle.std.proofs.Common.{◌+◌, List, take, sym, subst, arith}
use Rattle.be_control.specs.Buttons.{Button}
use Rattle.be_pressed.proofs.Windows.{IsWritten, all_written, none_written_yet, one_written}
use Rattle.be_pressed.proofs.Windows.{whole_back}
use Rattle.be_pressed.proofs.pressing.pressed.Goals as goal
use Rattle.be_pressed.specs.Hearing.{AreWindows}
use Rattle.be_script.specs.Script.{declared_by}

pub loop-letter-init : goal.loop-letter-init
loop-letter-init c =
    none_written_yet (declared_by c.args.script.now) c.args.letters.now
    c.in_ok-windows.windows.items c.new-text.result.items c.in_ok-windows.ensures
    c.new-text.ensures.items

pub loop-letter-preserved : goal.loop-letter-preserved
loop-letter-preserved c =
    let d = declared_by c.args.script.now in
    let letters = c.args.letters.now in
    let k = c.loop-letter.letter-index in
    let was = c.loop-letter.invariant in
    let new = c.write_if_invoked.new.windows in
    let before = subst (AreWindows d (take k letters)) (sym c.deref_mut.ensures.value) was.heard in
    subst (λ (l : List (List Button)). IsWritten d letters (k + 1) l c.write_if_invoked.new.text.items)
    (sym (whole_back c.loop-letter.windows.len new c.loop-letter.windows.items (omega arith)
    (omega arith)))
    (one_written d letters k c.letter-item.result c.loop-letter.windows.items new
    c.loop-letter.text.items c.write_if_invoked.new.text.items c.loop-letter-test.true
    c.letter-item.is was (c.in_ok-write_if_invoked.ensures.heard (take k letters) before)
    (c.in_ok-write_if_invoked.ensures.text (take k letters) before))

pub returns : goal.returns
returns c =
    all_written (declared_by c.args.script.now) c.args.letters.now c.loop-letter.letter-index
    c.loop-letter.windows.items c.loop-letter.text.items c.loop-letter-test.false
    c.loop-letter.invariant
