-- Entries that can be written down: their numbers fit the types of the code, and what they name is
-- declared (this project's own).
use Rattle.std.specs.Prelude.{◌≡◌, true, ℕ, ◌^◌, ◌<◌, List, Option, Some, None, All, length}
use Rattle.be_port.specs.declared.Posted.{Posted}
use Rattle.be_port.specs.declared.Posted.TheVariants.{Accepted, WouldBlock, BadPort, TooDeep}
use Rattle.be_script.specs.Programs.{is_note}
use Rattle.be_script.specs.Script.{Declared}
use Rattle.be_machine.specs.Activities.{activities}
use Rattle.be_machine.specs.declared.Act.{Act}
use Rattle.be_machine.specs.declared.Act.TheVariants as act
use Rattle.be_machine.specs.declared.Entry.{Entry}

-- a number that the machine can count to, one of a queue's length, and a window
abbrev pub IsCount : ℕ → Type 0
IsCount n = n < 2 ^ 64

abbrev pub IsShare : ℕ → Type 0
IsShare n = n < 2 ^ 32

abbrev pub IsWindow : Declared → ℕ → Type 0
IsWindow d w = w < length d.windows

abbrev pub IsAnswer : Posted → Type 0
IsAnswer (Accepted n) = IsCount n
IsAnswer (WouldBlock count) = IsShare count
IsAnswer BadPort = Unit {0}
IsAnswer TooDeep = Unit {0}

abbrev pub IsPost : Declared → ℕ × Posted → Type 0
IsPost d p = IsWindow d p.0 × IsAnswer p.1

-- a sole delivery is the first
abbrev pub AreDeliveries : Declared → Option (ℕ × Posted) → Option (ℕ × Posted) → Type 0
AreDeliveries d (Some first) (Some second) = IsPost d first × IsPost d second
AreDeliveries d (Some first) None = IsPost d first
AreDeliveries d None None = Unit {0}
AreDeliveries d None (Some second) = ⊥

unfoldable pub IsActOf : Declared → Act → Type 0
IsActOf d (act.Post w answer) = IsWindow d w × IsAnswer answer
IsActOf d (act.Take n) = IsCount n
IsActOf d (act.Note word) = is_note word ≡ true
IsActOf d (act.Reply answer) = Unit {0}
IsActOf d (act.Claim answer) = Unit {0}
IsActOf d (act.Lock w) = IsWindow d w
IsActOf d (act.Unlock w) = IsWindow d w
IsActOf d (act.Draw w n) = IsWindow d w × IsCount n
IsActOf d (act.Flush w count) = IsWindow d w × IsShare count
IsActOf d (act.SyncDone w) = IsWindow d w
IsActOf d (act.Exec n outcome) = IsCount n
IsActOf d (act.Notify n) = IsCount n
IsActOf d (act.Begin opens) = Unit {0}
IsActOf d (act.Event k first second) = IsCount k × AreDeliveries d first second
IsActOf d (act.End answer) = Unit {0}
IsActOf d act.Stop = Unit {0}

-- an activity that there is made it
pub record IsPossible (d : Declared) (e : Entry) : Type 0 where
  pub maker : e.actor < activities d
  pub act : IsActOf d e.act

-- each entry of a list is such, and so is the number of them
pub record ArePossible (d : Declared) (h : List Entry) : Type 0 where
  pub each : All (IsPossible d) h
  pub counted : IsCount (length h)
