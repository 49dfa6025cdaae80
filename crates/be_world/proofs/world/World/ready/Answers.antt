use Rattle.std.proofs.Common.{IfOk, subst}
use Rattle.be_script.specs.Script.{Declared}
use Rattle.be_world.specs.Preparing.{IsVerdict}
use Rattle.be_world.proofs.world.World.ready.Goals as goal

pub returns-clause-answer : goal.returns-clause-answer
returns-clause-answer c =
    subst (λ (d : Declared). IfOk c.prepare_entry.result (IsVerdict d c.prepare_entry.new.held.parts
    c.args.entry.now)) c.self.view_is c.prepare_entry.ensures.answer
