use Rattle.be_script.specs.Script.{declared_by}
use Rattle.be_world.proofs.WorkMade.{not_wanted}
use Rattle.be_world.proofs.judging.judge.Goals as goal

pub returns-in-Nothing : goal.returns-in-Nothing
returns-in-Nothing c =
    not_wanted (declared_by c.args.script.now) c.args.held.now.parts c.args.entry.now c.args.who
    c.requires.is c.in-Nothing.ensures
