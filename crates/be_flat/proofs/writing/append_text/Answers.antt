use Rattle.std.proofs.Common.{arith}
use Rattle.be_flat.proofs.Spelling.{length-text}
use Rattle.be_flat.proofs.writing.append_text.Goals as goal

pub overflow_cast-text : goal.overflow_cast-text
overflow_cast-text c = omega (arith, length-text c.args.text.now c.requires)
