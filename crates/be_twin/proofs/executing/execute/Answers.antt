use Rattle.be_command.specs.Effects.{effect_of}
use Rattle.be_twin.specs.declared.Outcome.TheVariants.{Done}
use Rattle.be_twin.proofs.JudgedLemmas.{judged_as}
use Rattle.be_twin.proofs.ExecutedLemmas.{executed_stands, refused_stands, whole_after}
use Rattle.be_twin.proofs.executing.execute.Goals as goal

pub returns-in-Done-clause-whole : goal.returns-in-Done-clause-whole
returns-in-Done-clause-whole c = whole_after c.args.bitmaps.now (effect_of c.args.command) c.args.pane.now c.perform.new.pane c.requires.whole c.requires.no_change c.in-Done.ensures c.perform.ensures

pub returns-in-Done-clause-outcome : goal.returns-in-Done-clause-outcome
returns-in-Done-clause-outcome c = judged_as c.args.bitmaps.now (effect_of c.args.command) Done c.args.pane.now c.requires.whole c.in-Done.ensures

pub returns-in-Done-clause-executed : goal.returns-in-Done-clause-executed
returns-in-Done-clause-executed c = executed_stands c.args.bitmaps.now (effect_of c.args.command) c.args.pane.now c.perform.new.pane c.requires.whole c.in-Done.ensures c.perform.ensures

pub returns-in_default : goal.returns-in_default
returns-in_default c = record {
  whole = c.requires.whole;
  outcome = judged_as c.args.bitmaps.now (effect_of c.args.command) c.judged.result c.args.pane.now c.requires.whole c.judged.ensures;
  executed = refused_stands c.args.bitmaps.now (effect_of c.args.command) c.judged.result c.args.pane.now c.requires.whole c.judged.ensures c.in_default.not-Done;
}
