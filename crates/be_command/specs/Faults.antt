-- What is wrong with a line (this project's own).
use Rattle.std.specs.Prelude.{ℕ, nat_lt, if◌then◌else◌, Option, Some, None, Result, Ok, Err}
use Rattle.be_command.specs.declared.fault.Fault.{Fault}
use Rattle.be_command.specs.declared.fault.Reason.{Reason}
use Rattle.be_command.specs.declared.fault.Reason.TheVariants.{TooLong, LongLine, BadByte}
use Rattle.be_command.specs.declared.fault.Reason.TheVariants.{UnknownWord, Place, NotHere, Shape}
use Rattle.be_command.specs.declared.fault.Reason.TheVariants.{Range, NameTaken, UnknownName}
use Rattle.be_command.specs.declared.fault.Reason.TheVariants.{TooMany, BadEntry, Unfinished}
use Rattle.be_command.specs.declared.fault.Reason.TheVariants.{TooMuchWork}

-- the place of a reason in the order in which reasons are looked for
abbrev pub rank_of : Reason → ℕ
rank_of TooLong = 0
rank_of LongLine = 1
rank_of BadByte = 2
rank_of UnknownWord = 3
rank_of Place = 4
rank_of NotHere = 5
rank_of Shape = 6
rank_of Range = 7
rank_of NameTaken = 8
rank_of UnknownName = 9
rank_of TooMany = 10
rank_of BadEntry = 11
rank_of Unfinished = 12
rank_of TooMuchWork = 13

-- of two faults of a line the one that counts: the one whose reason comes first, and for the same
-- reason that of the earlier word
abbrev pub first_of : Fault → Fault → Fault
first_of earlier later =
    if nat_lt (rank_of later.reason) (rank_of earlier.reason) then later else earlier

-- the same where there may be none
abbrev pub first_fault : Option Fault → Option Fault → Option Fault
first_fault None later = later
first_fault (Some earlier) None = Some earlier
first_fault (Some earlier) (Some later) = Some (first_of earlier later)

-- what two parts of a line say that stand one behind the other
abbrev pub both : {A B : Type 0} → Result A Fault → Result B Fault → Result (A × B) Fault
both (Ok a) (Ok b) = Ok (a, b)
both (Ok a) (Err later) = Err later
both (Err earlier) (Ok b) = Err earlier
both (Err earlier) (Err later) = Err (first_of earlier later)

-- what a part says, as something else
abbrev pub said_as : {A B : Type 0} → (A → B) → Result A Fault → Result B Fault
said_as f (Ok a) = Ok (f a)
said_as f (Err fault) = Err fault
