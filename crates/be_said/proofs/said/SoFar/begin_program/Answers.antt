use Rattle.std.proofs.Common.{sym, subst, arith}
use Rattle.be_said.specs.Fits.{Fits}
use Rattle.be_said.specs.Deeds.{begins_program}
use Rattle.be_said.specs.Said.{seen_said}
use Rattle.be_said.proofs.DueLemmas.{program-done, program-many}
use Rattle.be_said.proofs.ProgramKept.{program-kept}
use Rattle.be_said.proofs.said.SoFar.begin_program.Goals as goal

pub returns-then-len-ge-APPS : goal.returns-then-len-ge-APPS
returns-then-len-ge-APPS c = rw (← c.self.view_is) (program-many _ _ (omega arith))

pub invariant_of-self : goal.invariant_of-self
invariant_of-self c =
    let fits : Fits (seen_said c.self.inside) (begins_program c.args.name) = subst (λ s. Fits s (begins_program c.args.name)) (sym c.self.view_is) c.requires in
    rw c.new.ensures.items (program-kept _ _ _ c.self.invariant fits.0 (omega arith) fits.1)

pub returns : goal.returns
returns c = rw (← c.self.view_is, c.new.ensures.items) (program-done _ _ (omega arith))
