-- Which entry an activity may make, which parts a turn of it wants at first, and which entry is the
-- last.
use Rattle.std.specs.Prelude.{◌≡◌, ℕ, ◌==◌, ◌||◌, Bool, true, false, List}
use Rattle.std.specs.Prelude.{Option, Some, None, option_map}
use Rattle.be_hall.specs.Machine.{Fits}
use Rattle.be_machine.specs.Activities.{Activity, runner, twin, input, closing, activity_of}
use Rattle.be_machine.specs.declared.Act.{Act}
use Rattle.be_machine.specs.declared.Act.TheVariants.{Post, Take, Note, Reply, Claim, Lock}
use Rattle.be_machine.specs.declared.Act.TheVariants.{Unlock, Draw, Flush, SyncDone, Exec}
use Rattle.be_machine.specs.declared.Act.TheVariants.{Notify, Begin, Event, End, Stop}
use Rattle.be_machine.specs.declared.Entry.{Entry}
use Rattle.be_machine.specs.Legal.{legal_act}
use Rattle.be_machine.specs.Touched.{own_part}
use Rattle.be_machine.specs.Touched as part
use Rattle.be_rules.specs.Places.{place_of}
use Rattle.be_rules.specs.Rules.{IsSound}
use Rattle.be_rules.specs.Slices.{Slice, state_of}
use Rattle.be_script.specs.Script.{Declared}
use Rattle.be_turns.specs.Turning.{is_some}

-- the activity of this number did this
abbrev pub entry_by : ℕ → Act → Entry
entry_by number act = record { actor = number; act = act }

-- the one entry that the activity may make over these parts, if it has one
abbrev pub legal_entry : Declared → List Slice → ℕ → Option Entry
legal_entry d all number = option_map (entry_by number) (legal_act d (state_of d all) number)

-- whether the activity has one, in every sound list with these parts
abbrev pub HasEntry : Declared → List (ℕ × Slice) → ℕ → Bool → Type 0
HasEntry d held number has =
    (all : List Slice) → IsSound d all → Fits all held → has ≡ is_some (legal_entry d all number)

-- the last entry was made
abbrev pub has_stopped : Declared → List Slice → Bool
has_stopped d all = (state_of d all).stopped

-- a new turn of an activity wants the part at this place: an application's its cell, a looper's its
-- looper, a twin's its link and its pane, that of the input its part, and the closing one's all
abbrev pub wants_place : Declared → Option Activity → ℕ → Bool
wants_place d (Some (runner who)) place = place == place_of d (own_part who)
wants_place d (Some (twin w)) place =
    place == place_of d (part.link w) || place == place_of d (part.pane w)
wants_place d (Some input) place = place == place_of d part.input
wants_place d (Some closing) place = true
wants_place d None place = false

-- the same by the activity's number
abbrev pub is_own : Declared → ℕ → ℕ → Bool
is_own d number place = wants_place d (activity_of d number) place

-- nothing follows this act
abbrev pub is_last : Act → Bool
is_last Stop = true
is_last (Post w answer) = false
is_last (Take number) = false
is_last (Note word) = false
is_last (Reply answer) = false
is_last (Claim answer) = false
is_last (Lock w) = false
is_last (Unlock w) = false
is_last (Draw w number) = false
is_last (Flush w count) = false
is_last (SyncDone w) = false
is_last (Exec number outcome) = false
is_last (Notify number) = false
is_last (Begin opened) = false
is_last (Event number first second) = false
is_last (End answer) = false
