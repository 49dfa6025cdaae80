use Rattle.std.proofs.lemmas.Result.{IfOk-weaker}
use Rattle.be_asking.specs.declared.activity.Activity.TheVariants as who
use Rattle.be_asking.specs.declared.want.Want.TheVariants as want
use Rattle.be_script.specs.Script.{declared_by}
use Rattle.be_world.specs.Suits.{IsSuited}
use Rattle.be_world.proofs.Allowed.{allowed_by, suited_back}
use Rattle.be_world.proofs.making.make.Goals as goal

pub make_asked-requires : goal.make_asked-requires
make_asked-requires c =
    allowed_by (declared_by c.args.script.now) c.args.held.now.parts c.args.who c.args.want
    c.requires.allowed (want.Asks c.in-Asks.runner c.in-Asks.request) c.in-Asks.is

pub message_in_front-requires-clause-allowed : goal.message_in_front-requires-clause-allowed
message_in_front-requires-clause-allowed c =
    allowed_by (declared_by c.args.script.now) c.args.held.now.parts c.args.who c.args.want
    c.requires.allowed (want.Takes c.in-Takes.w) c.in-Takes.is

pub surveyed-requires : goal.surveyed-requires
surveyed-requires c =
    allowed_by (declared_by c.args.script.now) c.args.held.now.parts c.args.who c.args.want
    c.requires.allowed (want.Begins c.in-Begins.w) c.in-Begins.is

pub make_command-requires : goal.make_command-requires
make_command-requires c =
    allowed_by (declared_by c.args.script.now) c.args.held.now.parts c.args.who c.args.want
    c.requires.allowed (want.Executes c.in-Executes.w) c.in-Executes.is

pub make_line-requires : goal.make_line-requires
make_line-requires c =
    allowed_by (declared_by c.args.script.now) c.args.held.now.parts c.args.who c.args.want
    c.requires.allowed (want.Uses c.in-Uses.line) c.in-Uses.is

pub returns-in-Asks : goal.returns-in-Asks
returns-in-Asks c =
    let d = declared_by c.args.script.now in
    let parts = c.args.held.now.parts in
    let asks = want.Asks c.in-Asks.runner c.in-Asks.request in
    IfOk-weaker c.make_asked.result (IsSuited d parts (who.Runner c.in-Asks.runner) asks)
    (IsSuited d parts c.args.who c.args.want)
    (λ made suits. suited_back d parts c.args.who c.args.want c.requires.allowed asks c.in-Asks.is
    made
    suits) c.make_asked.ensures
