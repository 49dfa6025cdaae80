use Rattle.std.proofs.Common.{sym}
use Rattle.be_script.specs.Script.{declared_by}
use Rattle.be_world.proofs.WorkMade.{event_suits, waits_suit}
use Rattle.be_world.specs.declared.work.Work.TheVariants as work
use Rattle.be_world.proofs.making.make_line.Goals as goal

pub returns-in-None : goal.returns-in-None
returns-in-None c =
    λ all sound fits. waits_suit (declared_by c.args.script.now) c.args.held.now.parts
    c.args.line.now work.Nothing c.in-None.ensures

pub delivered-requires : goal.delivered-requires
delivered-requires c =
    record { line = c.args.line; is = sym c.in-Some.ensures; allowed = c.requires }

pub returns-in_ok-delivered-in-Some : goal.returns-in_ok-delivered-in-Some
returns-in_ok-delivered-in-Some c =
    λ all sound fits. event_suits (declared_by c.args.script.now) c.args.held.now.parts
    c.args.line.now c.in-Some.event c.in_ok-delivered-in-Some.field-0 c.in-Some.ensures
    c.in_ok-delivered-in-Some.ensures
