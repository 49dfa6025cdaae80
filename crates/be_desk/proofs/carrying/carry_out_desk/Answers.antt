use Rattle.std.proofs.Common.{◌≡◌, Ok, sym, subst}
use Rattle.be_desk.specs.Changes.{desk_after}
use Rattle.be_desk.specs.Desks.{desk_of}
use Rattle.be_desk.specs.Plans.{IsDeskPlan, Planned}
use Rattle.be_desk.proofs.CarryLemmas.{desk_by, desk_carried, taken_by_views}
use Rattle.be_desk.proofs.carrying.carry_out_desk.Goals as goal

pub point-requires-clause-taken : goal.point-requires-clause-taken
point-requires-clause-taken c s =
    let desk = desk_of c.args.desk.now in
    let plan = subst (λ (p : Planned). IsDeskPlan p desk) (sym c.plan.view_is) c.requires in
    taken_by_views desk c.plan.inside.window c.plan.inside.change plan.taken s

pub returns-clause-desk : goal.returns-clause-desk
returns-clause-desk c =
    let desk = desk_of c.args.desk.now in
    let p : Planned = record { window = c.plan.inside.window; change = c.plan.inside.change; windows = c.plan.inside.stack; spans = c.plan.inside.spans.items } in
    let plan : IsDeskPlan p desk = subst (λ (r : Planned). IsDeskPlan r desk) (sym c.plan.view_is) c.requires in
    subst (λ (r : Planned). desk_after desk r.window r.change ≡ Ok (desk_by p.windows c.point.new.pointing)) c.plan.view_is (desk_carried p desk c.point.new.pointing plan c.point.ensures).0

pub returns-clause-paired : goal.returns-clause-paired
returns-clause-paired c =
    let desk = desk_of c.args.desk.now in
    let p : Planned = record { window = c.plan.inside.window; change = c.plan.inside.change; windows = c.plan.inside.stack; spans = c.plan.inside.spans.items } in
    let plan : IsDeskPlan p desk = subst (λ (r : Planned). IsDeskPlan r desk) (sym c.plan.view_is) c.requires in
    (desk_carried p desk c.point.new.pointing plan c.point.ensures).1
