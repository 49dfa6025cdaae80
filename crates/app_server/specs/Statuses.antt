use Rattle.std.specs.Prelude.{ℕ}
use Rattle.app_server.specs.declared.status.Status.{Status}
use Rattle.app_server.specs.declared.status.Status.TheVariants.{Finished, Illegal, Usage}
use Rattle.app_server.specs.declared.status.Status.TheVariants.{BadScript, ReadFault, WriteFault}
use Rattle.app_server.specs.declared.status.Status.TheVariants.{NoMemory}

-- the exit status of the program
abbrev pub number_of : Status → ℕ
number_of Finished = 0
number_of (Illegal entry) = 1
number_of Usage = 2
number_of (BadScript line reason) = 3
number_of ReadFault = 4
number_of WriteFault = 5
number_of NoMemory = 7
