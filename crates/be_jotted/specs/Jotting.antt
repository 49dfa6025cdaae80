-- The rules of the world's parts, where the part that keeps a runner's entries keeps its notes too.
use Rattle.std.specs.Prelude.{◌≡◌, ℕ, List, Some}
use Rattle.be_hall.specs.Machine.{Machine}
use Rattle.be_machine.specs.Activities.{Runner, runner}
use Rattle.be_machine.specs.History.{IsLegalHistory}
use Rattle.be_machine.specs.State.{opening_state}
use Rattle.be_machine.specs.Traces.{traces_of}
use Rattle.be_machine.specs.declared.Entry.{Entry}
use Rattle.be_noting.specs.Noting.{Noted, noted_from, noting}
use Rattle.be_rules.specs.Rules.{kept_at, world_machine}
use Rattle.be_rules.specs.Slices.{Slice, slices, state_of}
use Rattle.be_script.specs.Limits.{IsWithinLimits}
use Rattle.be_script.specs.Script.{Declared}
use Rattle.be_written.specs.Notings.{entry_text}
use Rattle.be_written.specs.Runners.{IsRunner}
use Rattle.be_written.specs.TraceText.{noted_text}

-- what is noted of an entry over the parts
abbrev pub told_of : Declared → List Slice → Entry → List ℕ
told_of d all e = entry_text d (state_of d all) e

abbrev pub noted_machine : Declared → Machine (Noted Slice ℕ) Entry
noted_machine d = noting (world_machine d) (told_of d)

-- the place of the part that keeps what a runner notes
abbrev pub home_of : Declared → Runner → ℕ
home_of d who = kept_at d (Some (runner who))

-- there a legal history notes the text of the runner's whole trace
abbrev pub PartsKeepTraces : Type 0
PartsKeepTraces =
    (d : Declared) (h : List Entry) (who : Runner)
    → IsWithinLimits d → IsLegalHistory d h → IsRunner d who
    → noted_from (world_machine d) (told_of d) (home_of d who) (slices d (opening_state d)) h
    ≡ noted_text d who (traces_of d who h)
