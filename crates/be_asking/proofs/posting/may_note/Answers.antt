use Rattle.be_script.specs.Script.{declared_by}
use Rattle.be_asking.proofs.PostsAnswered.{notes}
use Rattle.be_asking.proofs.posting.may_note.Goals as goal

pub returns : goal.returns
returns c = notes (declared_by c.args.script.now) c.args.held.now.parts c.args.number c.args.runner c.args.text c.requires
