-- Where a history that was told stops to be legal (this project's own).
use Rattle.std.specs.Prelude.{◌≡◌, ℕ, ◌+◌, ◌≤◌, false, List, length, take, slice_get}
use Rattle.std.specs.Prelude.{Option, Some, None}
use Rattle.be_machine.specs.History.{IsLegalHistory, state_after}
use Rattle.be_machine.specs.Legal.{IsLegal}
use Rattle.be_machine.specs.State.{State}
use Rattle.be_machine.specs.declared.Entry.{Entry}
use Rattle.be_script.specs.Script.{Declared}
use Rattle.be_check.specs.declared.fault.CheckFault.{CheckFault}
use Rattle.be_check.specs.declared.fault.CheckFault.TheVariants.{Illegal, NoMemory}

-- the entry isn't legal; where there is none, the history ended too early
abbrev pub IsBad : Declared → State → Option Entry → Type 0
IsBad d s (Some e) = ¬ IsLegal d s e
IsBad d s None = s.stopped ≡ false

-- the entries before the one with this number, counted from 1, are legal, and it isn't, or it is
-- missing
pub record IsIllegalAt (d : Declared) (h : List Entry) (number : ℕ) : Type 0 where
  pub before : ℕ
  pub counted : number ≡ before + 1
  pub within : before ≤ length h
  pub legal : IsLegalHistory d (take before h)
  pub bad : IsBad d (state_after d (take before h)) (slice_get h before)

-- why a history isn't said to be finished; want of memory tells nothing of it
abbrev pub IsFaultOf : Declared → List Entry → CheckFault → Type 0
IsFaultOf d h (Illegal number) = IsIllegalAt d h number
IsFaultOf d h NoMemory = Unit {0}
