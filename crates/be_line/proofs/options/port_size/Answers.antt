use Rattle.std.proofs.Common.{arith}
use Rattle.std.proofs.lemmas.Int.{ints, to_z-of_z}
use Rattle.be_geom.proofs.Between.{between_tells}
use Rattle.be_line.proofs.options.port_size.Goals as goal

pub overflow_cast-result : goal.overflow_cast-result
overflow_cast-result c = grind (arith, ints, to_z-of_z, between_tells, c.in_ok-size.ensures)

pub returns-in_err-size : goal.returns-in_err-size
returns-in_err-size c = rw c.from_residual.ensures c.in_err-size.ensures

pub returns : goal.returns
returns c = grind (arith, ints, to_z-of_z, between_tells, c.in_ok-size.ensures)
