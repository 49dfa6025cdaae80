use Rattle.std.proofs.Common.{refl, ◌∙◌, subst}
use Rattle.be_asking.specs.Acts.{OwnsWindow}
use Rattle.be_asking.specs.declared.activity.Runner.TheVariants as by
use Rattle.be_asking.specs.declared.want.Request.TheVariants as request
use Rattle.be_script.specs.Script.{declared_by}
use Rattle.be_steps.proofs.Gone.{own_there}
use Rattle.be_steps.proofs.Locked.{unlock_cell, unlock_locked, unlock_owns, unlock_step, unlock_there}
use Rattle.be_steps.proofs.Owned.{gone_cell, own_cell}
use Rattle.be_steps.proofs.locking.unlock.Goals as goal

pub cell_is_there-requires : goal.cell_is_there-requires
cell_is_there-requires c = own_there (declared_by c.args.script.now) c.args.held.now.parts (by.App c.args.m) request.Unlock c.requires

pub owned_window-requires : goal.owned_window-requires
owned_window-requires c = (own_there (declared_by c.args.script.now) c.args.held.now.parts (by.App c.args.m) request.Unlock c.requires).reachable

pub unreachable-requires-in-None : goal.unreachable-requires-in-None
unreachable-requires-in-None c =
    unlock_owns (declared_by c.args.script.now) c.args.held.now c.args.m c.requires
    (subst (OwnsWindow (declared_by c.args.script.now) c.args.held.now.parts (by.App c.args.m)) c.in-None.is c.in-Ok.ensures.owns)

pub looper_is_there-requires : goal.looper_is_there-requires
looper_is_there-requires c =
    unlock_there (declared_by c.args.script.now) c.args.held.now c.args.m c.requires c.in-Some.w
    (subst (OwnsWindow (declared_by c.args.script.now) c.args.held.now.parts (by.App c.args.m)) c.in-Some.is c.in-Ok.ensures.owns)

pub place_past-place-requires-clause-there : goal.place_past-place-requires-clause-there
place_past-place-requires-clause-there c = (own_there (declared_by c.args.script.now) c.args.held.now.parts (by.App c.args.m) request.Unlock c.requires).reachable.there

pub unlock-requires : goal.unlock-requires
unlock-requires c =
    unlock_locked (declared_by c.args.script.now) c.args.held.now c.args.m c.requires c.in-Some.w
    (subst (OwnsWindow (declared_by c.args.script.now) c.args.held.now.parts (by.App c.args.m)) c.in-Some.is c.in-Ok.ensures.owns)
    c.looper_place.result c.looper_to_change.result.now c.looper_place.ensures c.looper_to_change.ensures.value

pub cell_to_change-requires : goal.cell_to_change-requires
cell_to_change-requires c =
    own_cell (declared_by c.args.script.now) (by.App c.args.m) c.args.m c.cell_place.result _ refl (c.cell_place.ensures (declared_by c.args.script.now)) (
      c.cell_is_there.ensures.0,
      unlock_cell (declared_by c.args.script.now) c.args.held.now c.args.m c.requires c.in-Some.w
          (subst (OwnsWindow (declared_by c.args.script.now) c.args.held.now.parts (by.App c.args.m)) c.in-Some.is c.in-Ok.ensures.owns)
          c.looper_place.result c.looper_place.ensures c.unlock.new.self ∙ c.cell_is_there.ensures.1,
    )

pub returns : goal.returns
returns c =
    unlock_step (declared_by c.args.script.now) c.args.held.now c.args.m c.requires c.in-Some.w
    (subst (OwnsWindow (declared_by c.args.script.now) c.args.held.now.parts (by.App c.args.m)) c.in-Some.is c.in-Ok.ensures.owns)
    c.looper_place.result c.looper_place.ensures c.looper_to_change.result.now c.unlock.new.self c.place_past-place.result _
    c.looper_to_change.ensures.value c.unlock.ensures.slice c.unlock.ensures.log c.place_past-place.ensures
    (gone_cell (declared_by c.args.script.now) (by.App c.args.m) c.args.m c.cell_place.result (λ r slice. slice) c.place_past-place.result _ c.cell_to_change.result.now c.go_to.new.self
    refl (c.cell_place.ensures (declared_by c.args.script.now)) c.cell_to_change.ensures.value c.go_to.ensures.slice c.go_to.ensures.log)
