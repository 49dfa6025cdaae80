use Rattle.std.proofs.Common.{◌∙◌, sym}
use Rattle.be_asking.specs.Wants.{activity_in}
use Rattle.be_script.specs.Script.{declared_by}
use Rattle.be_world.proofs.Marked.{all_marked}
use Rattle.be_world.proofs.stirring.mark_stirred.Goals as goal

pub returns : goal.returns
returns c =
    all_marked (declared_by c.args.script.now) c.args.entry.now (activity_in c.in-Some.who)
    (sym c.in-Some.ensures) (sym c.may_touch_all.ensures ∙ c.if-may_touch_all.false)
    c.len-apps.result c.len-windows.result
    (c.len-apps.ensures ∙ c.args.script.now.apps.ok.0)
    (c.len-windows.ensures ∙ c.args.script.now.windows.ok.0)
    c.own_window.result c.act_window.result c.own_window.ensures c.act_window.ensures
    c.args.marks.now c.mark_first-2.new.marks c.mark_one.new.marks c.mark_one-2.new.marks
    c.mark_window.new.marks c.mark_window-2.new.marks c.mark_commanded.new.marks
    c.mark_first-2.ensures c.mark_one.ensures c.mark_one-2.ensures c.mark_window.ensures
    c.mark_window-2.ensures c.mark_commanded.ensures
