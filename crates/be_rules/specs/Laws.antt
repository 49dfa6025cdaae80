-- What is proved of the rules. Each statement is the contract of a function in src/laws.rt.
use Rattle.std.specs.Prelude.{◌≡◌, ◌+◌, ◌<◌, ◌≤◌, ℕ, true, List, length, Some, None, slice_get}
use Rattle.std.specs.Prelude.{option_and_then}
use Rattle.be_command.specs.Effects.{changes, effect_of}
use Rattle.be_geom.specs.declared.change.Change.{Change}
use Rattle.be_geom.specs.declared.change.Change.TheVariants.{Activate}
use Rattle.be_hall.specs.Machine.{Fits, HeldFit, IsHeld, IsReady}
use Rattle.be_hall.specs.Numbers.{total}
use Rattle.be_input.specs.declared.Event.{Event}
use Rattle.be_link.specs.Queues.{Numbered}
use Rattle.be_script.specs.declared.InputLine.{InputLine}
use Rattle.be_script.specs.Limits.{IsWithinLimits}
use Rattle.be_script.specs.Script.{Declared}
use Rattle.be_script.specs.Work.{work_of}
use Rattle.be_machine.specs.Activities.{Activity, activities, activity_of, input, twin}
use Rattle.be_machine.specs.declared.Act.{Act}
use Rattle.be_machine.specs.declared.Act.TheVariants.{Stop}
use Rattle.be_machine.specs.declared.Entry.{Entry}
use Rattle.be_machine.specs.History.{IsLegalHistory, state_after}
use Rattle.be_machine.specs.Input.{delivery_of}
use Rattle.be_machine.specs.Legal.{IsLegal, legal_act, want_act}
use Rattle.be_machine.specs.State.{opening_state}
use Rattle.be_machine.specs.Step.{step}
use Rattle.be_machine.specs.Touched.{Part}
use Rattle.be_machine.specs.Touched as part
use Rattle.be_machine.specs.Wants.{Want, executes, stops, uses, want_of}
use Rattle.be_rules.specs.Far.{IsAltered, event_in}
use Rattle.be_rules.specs.Found.{CannotAct, NeedsPart, OwnHeld}
use Rattle.be_rules.specs.Places.{IsPart, place_of}
use Rattle.be_rules.specs.Rules.{IsSound, IsNext, SliceFits, TouchesAt, world_machine}
use Rattle.be_rules.specs.Shares.{share}
use Rattle.be_rules.specs.Slices.{Slice, all_parts, slices, state_of}
use Rattle.be_rules.specs.Sure.{IsAmong, in_hand, parts_by, seen_in}

-- ---- cutting a state

-- the slices of a state after a legal history are put together to that state again
abbrev pub SlicesAreTheState : Type 0
SlicesAreTheState =
    (d : Declared) (h : List Entry) → IsWithinLimits d → IsLegalHistory d h
    → state_of d (slices d (state_after d h)) ≡ state_after d h

-- those of the opening are sound, and can bring no more entries than the script's work
abbrev pub OpeningIsSound : Type 0
OpeningIsSound = (d : Declared) → IsWithinLimits d → IsSound d (slices d (opening_state d))

abbrev pub OpeningIsWithinWork : Type 0
OpeningIsWithinWork =
    (d : Declared) → IsWithinLimits d → total (share d) (slices d (opening_state d)) ≤ work_of d

-- ---- with some parts in hand

-- an entry that is legal in one sound list with these parts, and touches none but them there, is so
-- in each
abbrev pub OneListTellsAll : Type 0
OneListTellsAll =
    (d : Declared) (e : Entry) (held : List (ℕ × Slice)) (all : List Slice) → IsSound d all
    → Fits all held
    → IsLegal d (state_of d all) e → ((p : ℕ) → TouchesAt d (state_of d all) e p → IsHeld held p)
    → IsReady (world_machine d) held e

-- then there is what it makes of them, whatever the other parts are
abbrev pub NextIsKnown : Type 0
NextIsKnown =
    (d : Declared) (e : Entry) (held : List (ℕ × Slice)) (all : List Slice) → IsSound d all
    → Fits all held
    → IsReady (world_machine d) held e → (next : List (ℕ × Slice)) × IsNext d held e next

-- and it has grown by one entry at most
abbrev pub NextFits : Type 0
NextFits =
    (d : Declared) (n : ℕ) (e : Entry) (held next : List (ℕ × Slice)) (all : List Slice)
    → IsSound d all → Fits all held → IsReady (world_machine d) held e → IsNext d held e next
    → HeldFit SliceFits n held → HeldFit SliceFits (n + 1) next

-- ---- with an activity's own parts in hand

-- it wants the same in every sound list with these parts
abbrev pub WantsAreKnown : Type 0
WantsAreKnown =
    (d : Declared) (held : List (ℕ × Slice)) (all other : List Slice) (who : Activity)
    → IsSound d all → IsSound d other → Fits all held → Fits other held → OwnHeld d held all who
    → want_of d (state_of d other) who ≡ want_of d (state_of d all) who

-- each part that it names is one of the script's
abbrev pub PartsAreTheScripts : Type 0
PartsAreTheScripts =
    (d : Declared) (all : List Slice) (a : ℕ) (who : Activity) (want : Want) (p : Part)
    → IsSound d all
    → activity_of d a ≡ Some who → want_of d (state_of d all) who ≡ Some want
    → IsAmong p (parts_by (seen_in (state_of d all)) want) → IsPart d p

-- a part that is told by the parts in hand, and isn't among them, is touched in every such list
abbrev pub PartsAreNeeded : Type 0
PartsAreNeeded =
    (d : Declared) (held : List (ℕ × Slice)) (all : List Slice) (a : ℕ) (who : Activity)
    (want : Want) (p : Part)
    → IsSound d all → Fits all held → activity_of d a ≡ Some who → OwnHeld d held all who
    → want_of d (state_of d all) who ≡ Some want → IsPart d p
    → IsAmong p (parts_by (in_hand d held) want)
    → (IsHeld held (place_of d p) → ⊥) → NeedsPart d held a (place_of d p)

-- where all that it touches for sure is in hand, and it has no legal entry in one list, it has none
-- in any
abbrev pub WaitingIsKnown : Type 0
WaitingIsKnown =
    (d : Declared) (held : List (ℕ × Slice)) (all : List Slice) (a : ℕ) (who : Activity)
    (want : Want)
    → IsSound d all → Fits all held → activity_of d a ≡ Some who → OwnHeld d held all who
    → want_of d (state_of d all) who ≡ Some want → (want ≡ stops → ⊥)
    → ((p : Part) → IsAmong p (parts_by (seen_in (state_of d all)) want)
    → IsHeld held (place_of d p))
    → want_act d (state_of d all) want ≡ None → CannotAct d held a

-- and where it wants nothing in one list it has no legal entry in any
abbrev pub EndingIsKnown : Type 0
EndingIsKnown =
    (d : Declared) (held : List (ℕ × Slice)) (all : List Slice) (a : ℕ) (who : Activity)
    → IsSound d all → Fits all held → activity_of d a ≡ Some who → OwnHeld d held all who
    → want_of d (state_of d all) who ≡ None → CannotAct d held a

-- with all parts in hand an activity that has no legal entry in one list has none in any
abbrev pub AllPartsTell : Type 0
AllPartsTell =
    (d : Declared) (held : List (ℕ × Slice)) (all : List Slice) (a : ℕ) → IsSound d all
    → Fits all held
    → ((p : ℕ) → p < length (all_parts d) → IsHeld held p) → legal_act d (state_of d all) a ≡ None
    → CannotAct d held a

-- ---- panes that a change alters

-- the twin needs the pane of each window that the change at the front of its link alters
abbrev pub AlteredAreNeeded : Type 0
AlteredAreNeeded =
    (d : Declared) (held : List (ℕ × Slice)) (all : List Slice) (a w u : ℕ) (c : Numbered)
    (change : Change)
    → IsSound d all → Fits all held → activity_of d a ≡ Some (twin w) → OwnHeld d held all (twin w)
    → IsHeld held (place_of d part.desk) → IsHeld held (place_of d (part.link w))
    → want_of d (state_of d all) (twin w) ≡ Some (executes w)
    → option_and_then (λ l. slice_get l 0) (slice_get (state_of d all).links w) ≡ Some c
    → effect_of c.command ≡ changes change → IsAltered (state_of d all).desk w change u
    → IsPart d (part.pane u)
    → (IsHeld held (place_of d (part.pane u)) → ⊥) → NeedsPart d held a (place_of d (part.pane u))

-- and input that of each window that is altered where an event activates a window
abbrev pub ActivatedAreNeeded : Type 0
ActivatedAreNeeded =
    (d : Declared) (held : List (ℕ × Slice)) (all : List Slice) (a w u : ℕ) (it : InputLine)
    (ev : Event)
    → IsSound d all → Fits all held → event_in it ≡ Some ev → activity_of d a ≡ Some input
    → OwnHeld d held all input → IsHeld held (place_of d part.desk)
    → want_of d (state_of d all) input ≡ Some (uses it)
    → (delivery_of (state_of d all) ev).activate ≡ Some w
    → IsAltered (state_of d all).desk w Activate u → IsPart d (part.pane u)
    → (IsHeld held (place_of d (part.pane u)) → ⊥) → NeedsPart d held a (place_of d (part.pane u))

-- ---- the end

-- where nobody has a legal entry the run has stopped
abbrev pub NobodyIsStuck : Type 0
NobodyIsStuck =
    (d : Declared) (all : List Slice) → IsSound d all
    → ((e : Entry) → IsLegal d (state_of d all) e → ⊥) → (state_of d all).stopped ≡ true

-- Stop alone stops it
abbrev pub StopStops : Type 0
StopStops =
    (d : Declared) (all : List Slice) (e : Entry) → IsSound d all → IsLegal d (state_of d all) e
    → (state_of d (slices d (step d (state_of d all) e))).stopped ≡ true → e.act ≡ Stop

-- nothing is legal after it
abbrev pub NothingFollows : Type 0
NothingFollows =
    (d : Declared) (all : List Slice) (s e : Entry) → IsSound d all → IsLegal d (state_of d all) s
    → s.act ≡ Stop
    → IsLegal d (state_of d (slices d (step d (state_of d all) s))) e → ⊥

-- the last activity makes no other entry
abbrev pub LastOneStops : Type 0
LastOneStops =
    (d : Declared) (all : List Slice) (a : ℕ) (act : Act) → a + 1 ≡ activities d
    → legal_act d (state_of d all) a ≡ Some act → act ≡ Stop
