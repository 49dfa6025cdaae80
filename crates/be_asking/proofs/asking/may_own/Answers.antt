use Rattle.std.proofs.Common.{subst}
use Rattle.be_asking.specs.Acts.{OwnsWindow}
use Rattle.be_script.specs.Script.{declared_by}
use Rattle.be_asking.proofs.OwnersAnswered.{needs_runner, owns_none, reach_runner}
use Rattle.be_asking.proofs.asking.may_own.Goals as goal

pub owned_window-requires : goal.owned_window-requires
owned_window-requires c = reach_runner (declared_by c.args.script.now) c.args.held.now.parts c.args.number c.args.runner c.args.request c.requires.asked

pub returns-in-Err : goal.returns-in-Err
returns-in-Err c = needs_runner (declared_by c.args.script.now) c.args.held.now.parts c.args.number c.args.runner c.args.request c.requires.asked c.in-Err.place c.in-Err.ensures.missing

pub returns-in-None : goal.returns-in-None
returns-in-None c =
    owns_none (declared_by c.args.script.now) c.args.held.now.parts c.args.number c.args.runner c.args.request c.requires.asked
    (subst (OwnsWindow (declared_by c.args.script.now) c.args.held.now.parts c.args.runner) c.in-None.is c.in-Ok.ensures.owns) c.requires.own
