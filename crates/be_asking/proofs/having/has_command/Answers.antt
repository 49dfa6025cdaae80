use Rattle.be_script.specs.Script.{declared_by}
use Rattle.be_asking.specs.declared.activity.Activity.TheVariants as who
use Rattle.be_asking.specs.declared.want.Want.TheVariants as want
use Rattle.be_asking.proofs.AllHeld.{change_told, told}
use Rattle.be_asking.proofs.having.has_command.Goals as goal

pub returns-in-Answered : goal.returns-in-Answered
returns-in-Answered c =
    told (declared_by c.args.script.now) c.args.held.now.parts c.args.number (who.Twin c.args.w) (want.Executes c.args.w) c.requires.asked c.requires.all c.in-Answered.answer c.in-Answered.ensures c.is_may.result c.is_may.ensures

pub returns-in-Changes : goal.returns-in-Changes
returns-in-Changes c = change_told (declared_by c.args.script.now) c.args.held.now.parts c.args.number c.args.w c.requires.asked c.in-Changes.field-0 c.in-Changes.field-1.now c.in-Changes.ensures c.requires.all
