use Rattle.be_script.specs.Script.{declared_by}
use Rattle.be_asking.proofs.ExecutesAnswered.{executes, needs_pane, reach_pane}
use Rattle.be_asking.proofs.executing.may_do.Goals as goal

pub find_pane-requires : goal.find_pane-requires
find_pane-requires c =
    reach_pane (declared_by c.args.script.now) c.args.held.now.parts c.args.number c.args.w c.requires.asked c.args.front c.args.command.now c.requires.oldest c.requires.no_change

pub returns-in-Err : goal.returns-in-Err
returns-in-Err c =
    needs_pane (declared_by c.args.script.now) c.args.held.now.parts c.args.number c.args.w c.requires.asked c.args.front c.args.command.now c.requires.oldest c.requires.no_change c.in-Err.place
    c.in-Err.ensures.missing

pub returns : goal.returns
returns c =
    executes (declared_by c.args.script.now) c.args.held.now.parts c.args.number c.args.w c.requires.asked c.args.front c.args.command.now c.requires.oldest c.requires.no_change c.in-Ok.pane.now
    c.in-Ok.ensures.there c.pane.result.now c.pane.ensures c.waiting_commands_are_within_limits.ensures.linked c.outcome_of-outcome.result c.outcome_of-outcome.ensures
