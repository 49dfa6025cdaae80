use Rattle.std.proofs.Common.{refl, ◌∙◌}
use Rattle.be_asking.specs.declared.activity.Runner.TheVariants as by
use Rattle.be_asking.specs.declared.want.Request.TheVariants as request
use Rattle.be_script.specs.Script.{declared_by}
use Rattle.be_steps.proofs.Gone.{own_there}
use Rattle.be_steps.proofs.Locked.{lock_cell, lock_free, lock_step, lock_there}
use Rattle.be_steps.proofs.Owned.{gone_cell, own_cell}
use Rattle.be_steps.proofs.locking.lock.Goals as goal

pub cell_is_there-requires : goal.cell_is_there-requires
cell_is_there-requires c = own_there (declared_by c.args.script.now) c.args.held.now.parts (by.App c.args.m) (request.Lock c.args.w) c.requires

pub looper_is_there-requires : goal.looper_is_there-requires
looper_is_there-requires c = lock_there (declared_by c.args.script.now) c.args.held.now c.args.m c.args.w c.requires

pub place_past-place-requires-clause-there : goal.place_past-place-requires-clause-there
place_past-place-requires-clause-there c = (own_there (declared_by c.args.script.now) c.args.held.now.parts (by.App c.args.m) (request.Lock c.args.w) c.requires).reachable.there

pub lock-requires : goal.lock-requires
lock-requires c = lock_free (declared_by c.args.script.now) c.args.held.now c.args.m c.args.w c.requires c.looper_place.result c.looper_to_change.result.now c.looper_place.ensures c.looper_to_change.ensures.value

pub cell_to_change-requires : goal.cell_to_change-requires
cell_to_change-requires c =
    own_cell (declared_by c.args.script.now) (by.App c.args.m) c.args.m c.cell_place.result _ refl (c.cell_place.ensures (declared_by c.args.script.now))
    (c.cell_is_there.ensures.0, lock_cell (declared_by c.args.script.now) c.args.held.now c.args.m c.args.w c.requires c.looper_place.result c.looper_place.ensures c.lock.new.self ∙ c.cell_is_there.ensures.1)

pub returns : goal.returns
returns c =
    lock_step (declared_by c.args.script.now) c.args.held.now c.args.m c.args.w c.requires c.looper_place.result c.looper_place.ensures c.looper_to_change.result.now c.lock.new.self c.place_past-place.result _
    c.looper_to_change.ensures.value c.lock.ensures.slice c.lock.ensures.log c.place_past-place.ensures
    (gone_cell (declared_by c.args.script.now) (by.App c.args.m) c.args.m c.cell_place.result (λ r slice. slice) c.place_past-place.result _ c.cell_to_change.result.now c.go_to.new.self
    refl (c.cell_place.ensures (declared_by c.args.script.now)) c.cell_to_change.ensures.value c.go_to.ensures.slice c.go_to.ensures.log)
