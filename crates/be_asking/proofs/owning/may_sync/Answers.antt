use Rattle.std.proofs.Common.{sym}
use Rattle.be_script.specs.Script.{declared_by}
use Rattle.be_asking.proofs.OwnersAnswered.{sync_needs_link, sync_reach_link, sync_waits, syncs}
use Rattle.be_asking.proofs.owning.may_sync.Goals as goal

pub find_link-requires : goal.find_link-requires
find_link-requires c = sync_reach_link (declared_by c.args.script.now) c.args.held.now.parts c.args.number c.args.runner c.args.w c.requires.asked c.requires.owns

pub returns-in-Err : goal.returns-in-Err
returns-in-Err c = sync_needs_link (declared_by c.args.script.now) c.args.held.now.parts c.args.number c.args.runner c.args.w c.requires.asked c.requires.owns c.in-Err.place c.in-Err.ensures.missing

pub returns-in-None : goal.returns-in-None
returns-in-None c = sync_waits (declared_by c.args.script.now) c.args.held.now.parts c.args.number c.args.runner c.args.w c.requires.asked c.requires.owns c.in-Ok.link.now c.in-Ok.ensures.there (sym c.in-None.ensures)

pub returns-in-Some : goal.returns-in-Some
returns-in-Some c = syncs (declared_by c.args.script.now) c.args.held.now.parts c.args.number c.args.runner c.args.w c.requires.asked c.requires.owns c.in-Ok.link.now c.in-Ok.ensures.there c.in-Some.act (sym c.in-Some.ensures)
