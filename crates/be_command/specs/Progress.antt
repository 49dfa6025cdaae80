-- How far a line is read, and what the reading of a part of it adds (this project's own).
use Rattle.std.specs.Prelude.{◌≡◌, List, ◌++◌, Option, Result, Ok}
use Rattle.std.specs.Result.{result_err}
use Rattle.be_command.specs.declared.fault.Fault.{Fault}
use Rattle.be_command.specs.Faults.{first_fault}
use Rattle.be_command.specs.Places.{At}

-- what is left, and the fault that counts of the words that were read
pub record Progress : Type 0 where
  pub at : At
  pub fault : Option Fault

-- a part that says this, and leaves so much, was read: its fault counts beside the earlier ones,
-- and where it has none its value was given
pub record Takes {A : Type 0} (said : Result A Fault) (left : At) (old new : Progress)
    (value : A) : Type 0 where
  pub at : new.at ≡ left
  pub fault : new.fault ≡ first_fault old.fault (result_err said)
  pub value_is : (x : A) → said ≡ Ok x → value ≡ x

-- the same of a list, which is added to another
pub record TakesMore {A : Type 0} (said : Result (List A) Fault) (left : At) (old new : Progress)
    (before after : List A) : Type 0 where
  pub at : new.at ≡ left
  pub fault : new.fault ≡ first_fault old.fault (result_err said)
  pub value_is : (xs : List A) → said ≡ Ok xs → after ≡ before ++ xs
