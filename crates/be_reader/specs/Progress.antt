-- How far a line is read, and what the reading of a part of it adds (this project's own).
use Rattle.std.specs.Prelude.{◌≡◌, Option, Some, None, Result, Ok}
use Rattle.std.specs.Result.{result_err}
use Rattle.be_command.specs.declared.fault.Reason.{Reason}
use Rattle.be_line.specs.Kinds.{first_of}
use Rattle.be_reader.specs.Kinds.{At}

-- what is left, and the reason that counts of the words that were read
pub record Progress : Type 0 where
  pub at : At
  pub reason : Option Reason

-- of two reasons, where there may be none, the one that is looked for first
abbrev pub first_reason : Option Reason → Option Reason → Option Reason
first_reason None later = later
first_reason (Some earlier) None = Some earlier
first_reason (Some earlier) (Some later) = Some (first_of earlier later)

-- a part that says this, and leaves so much, was read: its reason counts beside the earlier ones,
-- and where it has none its value was given
pub record Takes {A : Type 0} (said : Result A Reason) (left : At) (old new : Progress)
    (value : A) : Type 0 where
  pub at : new.at ≡ left
  pub reason : new.reason ≡ first_reason old.reason (result_err said)
  pub value_is : (x : A) → said ≡ Ok x → value ≡ x
