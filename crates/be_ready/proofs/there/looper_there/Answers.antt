use Rattle.be_machine.specs.Touched as part
use Rattle.be_script.specs.Script.{declared_by}
use Rattle.be_steps.proofs.Owned.{not_missing}
use Rattle.be_ready.proofs.there.looper_there.Goals as goal

pub unreachable-requires : goal.unreachable-requires
unreachable-requires c = not_missing (declared_by c.args.script.now) c.args.held.now.parts (part.looper c.args.w) c.in-Err.field-0 c.requires c.in-Err.ensures.missing
