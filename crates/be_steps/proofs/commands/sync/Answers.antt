use Rattle.be_asking.specs.declared.want.Request.TheVariants as request
use Rattle.be_script.specs.Script.{declared_by}
use Rattle.be_steps.proofs.Gone.{own_there}
use Rattle.be_steps.proofs.Synced.{synced}
use Rattle.be_steps.proofs.commands.sync.Goals as goal

pub own_is_there-requires : goal.own_is_there-requires
own_is_there-requires c = own_there (declared_by c.args.script.now) c.args.held.now.parts c.args.runner request.SyncDone c.requires

pub place_past-next-requires-clause-there : goal.place_past-next-requires-clause-there
place_past-next-requires-clause-there c = (own_there (declared_by c.args.script.now) c.args.held.now.parts c.args.runner request.SyncDone c.requires).reachable.there

pub returns : goal.returns
returns c = synced (declared_by c.args.script.now) c.args.held.now c.args.runner c.requires c.place_past-next.result c.place_past-next.ensures c.go_to.new.held c.go_to.ensures
