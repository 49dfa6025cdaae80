use Rattle.std.proofs.Common.{ℕ, List, map, ap, ◌∙◌, subst}
use Rattle.std.specs.List.{Contains}
use Rattle.be_desk.specs.Desks.{desk_of}
use Rattle.be_desk.specs.Plans.{lent}
use Rattle.be_machine.specs.Touched as part
use Rattle.be_rules.specs.Places.{place_of}
use Rattle.be_script.specs.Script.{declared_by}
use Rattle.be_ready.proofs.LentPanes.{lent_as}
use Rattle.be_ready.proofs.PlanReady.{ascending, each_there, has_altered, panes_of, planned_in}
use Rattle.be_ready.proofs.plans.plan_for.Goals as goal

pub panes_of-requires : goal.panes_of-requires
panes_of-requires c u there =
    each_there (declared_by c.args.script.now) c.args.held.now.parts (desk_of c.args.desk.now) c.args.w c.args.change.now c.requires
    c.in_ok-names.names.items c.in_ok-names.ensures.taken c.in_ok-names.ensures.names
    u (subst (λ (l : List ℕ). Contains l u) c.deref.ensures.value there)

pub plan-requires-clause-panes : goal.plan-requires-clause-panes
plan-requires-clause-panes c =
    panes_of (declared_by c.args.script.now) c.args.held.now.parts (desk_of c.args.desk.now) c.args.w c.args.change.now c.requires
    c.in_ok-names.names.items c.in_ok-names.ensures.taken c.in_ok-names.ensures.names
    (lent c.deref-3.result.now) (lent_as (declared_by c.args.script.now) c.args.held.now.parts c.deref.result.now c.in_ok-names.names.items c.deref-3.result.now c.in_ok-panes.panes.items c.deref.ensures.value c.deref-3.ensures.value c.in_ok-panes.ensures)

pub plan-requires-clause-ascending : goal.plan-requires-clause-ascending
plan-requires-clause-ascending c =
    ascending (declared_by c.args.script.now) c.args.held.now.parts (desk_of c.args.desk.now) c.args.w c.args.change.now c.requires
    c.in_ok-names.names.items c.in_ok-names.ensures.taken c.in_ok-names.ensures.names
    (lent c.deref-3.result.now) (lent_as (declared_by c.args.script.now) c.args.held.now.parts c.deref.result.now c.in_ok-names.names.items c.deref-3.result.now c.in_ok-panes.panes.items c.deref.ensures.value c.deref-3.ensures.value c.in_ok-panes.ensures)

pub plan-requires-clause-named : goal.plan-requires-clause-named
plan-requires-clause-named c =
    has_altered (declared_by c.args.script.now) c.args.held.now.parts (desk_of c.args.desk.now) c.args.w c.args.change.now c.requires
    c.in_ok-names.names.items c.in_ok-names.ensures.taken c.in_ok-names.ensures.names
    (lent c.deref-3.result.now) (lent_as (declared_by c.args.script.now) c.args.held.now.parts c.deref.result.now c.in_ok-names.names.items c.deref-3.result.now c.in_ok-panes.panes.items c.deref.ensures.value c.deref-3.ensures.value c.in_ok-panes.ensures)

pub returns-clause-planned : goal.returns-clause-planned
returns-clause-planned c = (
  c.in_ok-plan.ensures.window,
  c.in_ok-plan.ensures.change,
  planned_in (declared_by c.args.script.now) c.args.held.now.parts (desk_of c.args.desk.now) c.args.w c.args.change.now c.requires
      c.in_ok-names.names.items c.in_ok-names.ensures.taken c.in_ok-names.ensures.names
      (lent c.deref-3.result.now) (lent_as (declared_by c.args.script.now) c.args.held.now.parts c.deref.result.now c.in_ok-names.names.items c.deref-3.result.now c.in_ok-panes.panes.items c.deref.ensures.value c.deref-3.ensures.value c.in_ok-panes.ensures)
      c.in_ok-plan.plan c.in_ok-places.places.items c.in_ok-plan.ensures.window c.in_ok-plan.ensures.change c.in_ok-plan.ensures.plan
      (c.in_ok-places.ensures ∙ ap (map (λ u. place_of (declared_by c.args.script.now) (part.pane u))) c.deref-2.ensures.value),
)
