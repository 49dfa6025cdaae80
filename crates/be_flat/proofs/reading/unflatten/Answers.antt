use Rattle.std.proofs.Common.{subst, arith}
use Rattle.be_flat.specs.Reading.{Gives}
use Rattle.be_flat.proofs.Found.{is_found}
use Rattle.be_flat.proofs.Again.{is_read}
use Rattle.be_flat.proofs.reading.unflatten.Goals as goal

pub returns-clause-found : goal.returns-clause-found
returns-clause-found c = is_found c.args.bytes.now c.read_all.result (λ i. omega (arith, c.type_inv.bytes i)) c.read_all.ensures

pub returns-clause-only : goal.returns-clause-only
returns-clause-only c = λ m spells. subst (λ r. Gives (λ message. message) c.read_all.result r) (is_read c.args.bytes.now m spells) c.read_all.ensures
