use Rattle.std.proofs.Common.{refl, ap, ◌∙◌}
use Rattle.be_asking.specs.declared.activity.Runner.TheVariants as by
use Rattle.be_asking.specs.declared.want.Request.TheVariants as request
use Rattle.be_parts.specs.Effects.{app_at, app_told}
use Rattle.be_reply.specs.Cells as reply
use Rattle.be_script.specs.Script.{declared_by}
use Rattle.be_steps.proofs.Gone.{own_there}
use Rattle.be_steps.proofs.Locked.{claimed}
use Rattle.be_steps.proofs.Owned.{gone_cell, own_cell}
use Rattle.be_steps.proofs.locking.claim.Goals as goal

pub cell_is_there-requires : goal.cell_is_there-requires
cell_is_there-requires c = own_there (declared_by c.args.script.now) c.args.held.now.parts (by.App c.args.m) request.Claim c.requires

pub place_past-place-requires-clause-there : goal.place_past-place-requires-clause-there
place_past-place-requires-clause-there c = (own_there (declared_by c.args.script.now) c.args.held.now.parts (by.App c.args.m) request.Claim c.requires).reachable.there

pub cell_to_change-cell-requires : goal.cell_to_change-cell-requires
cell_to_change-cell-requires c =
    own_cell (declared_by c.args.script.now) (by.App c.args.m) c.args.m c.cell_place.result c.args.held.now.parts refl (c.cell_place.ensures (declared_by c.args.script.now)) c.cell_is_there.ensures

pub returns : goal.returns
returns c =
    claimed (declared_by c.args.script.now) c.args.held.now c.args.m c.requires c.place_past-place.result c.place_past-place.ensures _
    (gone_cell (declared_by c.args.script.now) (by.App c.args.m) c.args.m c.cell_place.result (λ r. app_told reply.claimed) c.place_past-place.result c.args.held.now c.cell_to_change-cell.result.now c.go_to.new.self
    refl (c.cell_place.ensures (declared_by c.args.script.now)) c.cell_to_change-cell.ensures.value (c.go_to.ensures.slice ∙ ap (app_at c.place_past-place.result) c.claim-reply.ensures.slice) (c.go_to.ensures.log ∙ c.claim-reply.ensures.log))
