use Rattle.std.proofs.Common.{arith}
use Rattle.be_script.specs.Script.{declared_by}
use Rattle.be_world.proofs.Places.{many_parts}
use Rattle.be_world.proofs.owning.places.Goals as goal

pub returns : goal.returns
returns c = omega (arith, many_parts (declared_by c.args.script.now))
