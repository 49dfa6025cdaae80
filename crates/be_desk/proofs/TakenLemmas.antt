-- Changes that are taken.
use Rattle.std.proofs.Common.{◌≡◌, Result, Ok, Err, refl}
use Rattle.be_stack.specs.declared.fault.ChangeFault.{ChangeFault}
use Rattle.be_desk.specs.Changes.{Desk}
use Rattle.be_desk.specs.Desks.{IsTaken}

pub taken_as : (r : Result Desk ChangeFault) → IsTaken r → (after : Desk) × (r ≡ Ok after)
taken_as (Ok after) taken = (after, refl)
taken_as (Err fault) taken = absurd taken
