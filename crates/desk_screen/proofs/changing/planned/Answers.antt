use Rattle.std.proofs.Common.{◌≡◌, List, sym, ap, ◌∙◌, subst}
use Rattle.std.specs.Prelude.{map}
use Rattle.be_pane.specs.declared.pane.Pane.{Pane}
use Rattle.be_desk.specs.Affected.{HasAltered}
use Rattle.be_desk.specs.Desks.{desk_of}
use Rattle.be_desk.specs.Plans.{AreAscending, ArePanesOf, lent}
use Rattle.desk_screen.proofs.ScreenLemmas.{all_named, ascending}
use Rattle.desk_screen.proofs.changing.planned.Goals as goal

pub plan-requires-clause-panes : goal.plan-requires-clause-panes
plan-requires-clause-panes c =
    let same : lent c.deref.result.now ≡ c.args.panes.now = ap lent c.deref.ensures.value ∙ c.in_ok-all.ensures in
    subst (ArePanesOf (desk_of c.args.desk.now)) (sym same) c.requires.screen.panes_of

pub plan-requires-clause-ascending : goal.plan-requires-clause-ascending
plan-requires-clause-ascending c =
    let same : lent c.deref.result.now ≡ c.args.panes.now = ap lent c.deref.ensures.value ∙ c.in_ok-all.ensures in
    subst AreAscending (sym same) (ascending (desk_of c.args.desk.now) c.args.panes.now c.requires.screen)

pub plan-requires-clause-named : goal.plan-requires-clause-named
plan-requires-clause-named c after taken =
    let same : lent c.deref.result.now ≡ c.args.panes.now = ap lent c.deref.ensures.value ∙ c.in_ok-all.ensures in
    subst (λ (panes : List Pane). HasAltered c.args.desk.now.stack after.windows (map (λ pane. pane.window) panes)) (sym same)
    (all_named (desk_of c.args.desk.now) after c.args.panes.now c.args.w c.args.change.now c.requires.screen taken)
