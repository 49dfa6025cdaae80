use Rattle.be_script.specs.Script.{declared_by}
use Rattle.be_asking.proofs.OwnersAnswered.{unlock_needs_looper, unlock_reach_looper, unlocks}
use Rattle.be_asking.proofs.owning.may_unlock.Goals as goal

pub find_looper-requires : goal.find_looper-requires
find_looper-requires c = unlock_reach_looper (declared_by c.args.script.now) c.args.held.now.parts c.args.number c.args.runner c.args.w c.requires.asked c.requires.owns

pub returns-in-Err : goal.returns-in-Err
returns-in-Err c = unlock_needs_looper (declared_by c.args.script.now) c.args.held.now.parts c.args.number c.args.runner c.args.w c.requires.asked c.requires.owns c.in-Err.place c.in-Err.ensures.missing

pub returns-in-Ok : goal.returns-in-Ok
returns-in-Ok c = unlocks (declared_by c.args.script.now) c.args.held.now.parts c.args.number c.args.runner c.args.w c.requires.asked c.requires.owns c.in-Ok.field-0.now c.in-Ok.ensures.there
