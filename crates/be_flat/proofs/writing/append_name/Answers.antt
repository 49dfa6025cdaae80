use Rattle.std.proofs.Common.{arith}
use Rattle.be_flat.proofs.Spelling.{length-name}
use Rattle.be_flat.proofs.writing.append_name.Goals as goal

pub overflow_cast-name : goal.overflow_cast-name
overflow_cast-name c = omega (arith, length-name c.args.name.now c.requires)
