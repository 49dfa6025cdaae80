use Rattle.be_script.specs.Script.{declared_by}
use Rattle.be_asking.proofs.LocksAnswered.{lock_waits, locks, needs_looper, reach_looper}
use Rattle.be_asking.proofs.Takes.{owned}
use Rattle.be_asking.proofs.locking.may_lock.Goals as goal

pub find_looper-requires : goal.find_looper-requires
find_looper-requires c = reach_looper (declared_by c.args.script.now) c.args.held.now.parts c.args.number c.args.runner c.args.w c.requires

pub returns-in-Err : goal.returns-in-Err
returns-in-Err c = needs_looper (declared_by c.args.script.now) c.args.held.now.parts c.args.number c.args.runner c.args.w c.requires c.in-Err.place c.in-Err.ensures.missing

pub returns-in-Free : goal.returns-in-Free
returns-in-Free c = locks (declared_by c.args.script.now) c.args.held.now.parts c.args.number c.args.runner c.args.w c.requires c.in-Ok.looper.now c.in-Ok.ensures.there c.in-Free.ensures

pub returns-in-Own : goal.returns-in-Own
returns-in-Own c =
    lock_waits (declared_by c.args.script.now) c.args.held.now.parts c.args.number c.args.runner c.args.w c.requires c.in-Ok.looper.now c.in-Ok.ensures.there c.owner.result c.owner.ensures
    (owned c.owner.result c.in-Own.is)
