use Rattle.be_asking.specs.declared.want.Request.TheVariants as request
use Rattle.be_script.specs.Script.{declared_by}
use Rattle.be_steps.proofs.Gone.{own_there}
use Rattle.be_steps.proofs.Noted.{noted}
use Rattle.be_steps.proofs.noting.note.Goals as goal

pub own_is_there-requires : goal.own_is_there-requires
own_is_there-requires c = own_there (declared_by c.args.script.now) c.args.held.now.parts c.args.runner (request.Note c.args.text) c.requires

pub place_past-place-requires-clause-limits : goal.place_past-place-requires-clause-limits
place_past-place-requires-clause-limits c = c.requires.asked.limits

pub place_past-place-requires-clause-there : goal.place_past-place-requires-clause-there
place_past-place-requires-clause-there c = (own_there (declared_by c.args.script.now) c.args.held.now.parts c.args.runner (request.Note c.args.text) c.requires).reachable.there

pub go_to-requires-clause-limits : goal.go_to-requires-clause-limits
go_to-requires-clause-limits c = c.requires.asked.limits

pub returns : goal.returns
returns c = noted (declared_by c.args.script.now) c.args.held.now c.args.runner c.args.text c.requires c.place_past-place.result c.place_past-place.ensures c.go_to.new.held c.go_to.ensures
