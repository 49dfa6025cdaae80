-- What the reading of a line gives beside what is due (this project's own).
use Rattle.std.specs.Prelude.{◌≡◌, Result, Ok, Err}
use Rattle.be_command.specs.declared.fault.Reason.{Reason}
use Rattle.be_command.specs.declared.fault.Reason.TheVariants.{TooMany}
use Rattle.be_handler.specs.declared.fault.ChainFault.{ChainFault}
use Rattle.be_handler.specs.declared.fault.ChainFault.TheVariants as chain
use Rattle.be_said.specs.declared.fault.LineFault.{LineFault}
use Rattle.be_said.specs.declared.fault.LineFault.TheVariants as fault

-- what is due was given, or its reason; there may be no memory for either
abbrev pub IsDue : {A : Type 0} → Result A Reason → Result A LineFault → Type 0
IsDue due (Ok given) = due ≡ Ok given
IsDue due (Err (fault.Bad reason)) = due ≡ Err reason
IsDue due (Err fault.NoMemory) = Unit {0}

-- what a chain took, or why it didn't; the handlers that a line names are there
abbrev pub chain_due : Result (Unit {0}) ChainFault → Result (Unit {0}) LineFault
chain_due (Ok done) = Ok done
chain_due (Err chain.TooMany) = Err (fault.Bad TooMany)
chain_due (Err chain.NoMemory) = Err fault.NoMemory
chain_due (Err chain.NoTarget) = Err fault.NoMemory
