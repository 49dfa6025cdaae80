-- Why a hall stays open.
use Rattle.std.specs.Prelude.{ℕ}
use Rattle.be_hall.specs.declared.hall.Hall.{Hall}
use Rattle.be_hall.specs.declared.pass.Pass.{Pass}
use Rattle.be_hall.specs.declared.fault.CloseFault.{CloseFault}
use Rattle.be_hall.specs.declared.fault.CloseFault.TheVariants.{Unjoined, NoMemory}

abbrev pub MatchFault : {P T E R M : Type 0} {g : _} → CloseFault P T E R M g
    → (ℕ → ℕ → Hall P T E R M g → Pass P T E R M g → Type 0)
    → (Hall P T E R M g → Pass P T E R M g → Type 0) → Type 0
MatchFault (Unjoined clock gathered hall pass) u n = u clock gathered hall pass
MatchFault (NoMemory hall pass) u n = n hall pass
