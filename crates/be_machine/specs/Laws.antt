-- What is proved of all legal histories, whoever steps. Each statement is the contract of a
-- function in src/laws. Two files go on from here: PixelLaws on single pixels, KeptLimits on what
-- stays within limits.
use Rattle.std.specs.Prelude.{◌≡◌, ◌↔◌, ◌≤◌, ◌*◌, ℕ, ℤ, true, false, List, length, Some, None}
use Rattle.std.specs.Prelude.{slice_get, option_map, option_and_then}
use Rattle.be_command.specs.Effects.{Deed, at_view, effect_of}
use Rattle.be_command.specs.Limits.{is_drawing}
use Rattle.be_link.specs.Queues.{Buffer, Numbered}
use Rattle.be_message.specs.Messages.{Message}
use Rattle.be_port.specs.Ports.{Port}
use Rattle.be_script.specs.Limits.{IsWithinLimits}
use Rattle.be_script.specs.Script.{Declared}
use Rattle.be_script.specs.Work.{work_of}
use Rattle.be_span.specs.Cells.{desktop_cell}
use Rattle.be_machine.specs.Activities.{activity_of}
use Rattle.be_machine.specs.Closing.{all_done, all_quiet}
use Rattle.be_machine.specs.declared.Act.TheVariants.{Stop}
use Rattle.be_machine.specs.declared.Entry.{Entry}
use Rattle.be_machine.specs.History.{IsLegalHistory, IsFinished, state_after}
use Rattle.be_machine.specs.Legal.{IsLegal, legal_act}
use Rattle.be_machine.specs.Orderly.{IsOrderly, EndsInStop}
use Rattle.be_machine.specs.Pixels.{pixel_at, mark_at, owner_in, Serves, Executes}
use Rattle.be_machine.specs.Schedule.{IsScheduled}
use Rattle.be_machine.specs.State.{State}
use Rattle.be_machine.specs.Step.{step}
use Rattle.be_machine.specs.Touched.{Part, SamePart, Touches}
use Rattle.be_machine.specs.Wants.{Want, want_of}
use Rattle.be_machine.specs.Windows.{owned}

-- ---- order, progress and the end

-- a legal history is orderly
abbrev pub EachHistoryIsOrderly : Type 0
EachHistoryIsOrderly =
    (d : Declared) (h : List Entry) → IsWithinLimits d → IsLegalHistory d h → IsOrderly d h

-- before Stop some activity has a legal entry
abbrev pub SomeEntryIsLegal : Type 0
SomeEntryIsLegal =
    (d : Declared) (h : List Entry) → IsWithinLimits d → IsLegalHistory d h
    → (state_after d h).stopped ≡ false
    → (e : Entry) × IsLegal d (state_after d h) e

-- Stop is the last entry of a finished history
abbrev pub FinishedEndsInStop : Type 0
FinishedEndsInStop = (d : Declared) (h : List Entry) → IsFinished d h → EndsInStop h

-- a legal history whose last entry is Stop is finished
abbrev pub StopFinishes : Type 0
StopFinishes = (d : Declared) (h : List Entry) → IsLegalHistory d h → EndsInStop h → IsFinished d h

-- nobody has a legal act after a finished history
abbrev pub NoneFollows : Type 0
NoneFollows =
    (d : Declared) (h : List Entry) (a : ℕ) → IsFinished d h
    → legal_act d (state_after d h) a ≡ None

-- Stop is legal only where all is done and nothing is on its way
abbrev pub StopWantsRest : Type 0
StopWantsRest =
    (d : Declared) (s : State) (e : Entry) → IsLegal d s e → e.act ≡ Stop
    → (all_done d s ≡ true) × (all_quiet s ≡ true)

-- each seed has a history
abbrev pub EachSeedHasOne : Type 0
EachSeedHasOne =
    (d : Declared) (seed : ℕ) → IsWithinLimits d → (h : List Entry) × IsScheduled d seed h

-- and no other one
abbrev pub NoSeedHasTwo : Type 0
NoSeedHasTwo =
    (d : Declared) (seed : ℕ) (h : List Entry) (k : List Entry) → IsScheduled d seed h
    → IsScheduled d seed k → h ≡ k

-- ---- counts

-- a legal history has at most as many entries as the script's work
abbrev pub WorkBoundsEntries : Type 0
WorkBoundsEntries =
    (d : Declared) (h : List Entry) → IsWithinLimits d → IsLegalHistory d h → length h ≤ work_of d

-- at most two letters arrive at a port with each entry
abbrev pub FewLettersArrive : Type 0
FewLettersArrive =
    (d : Declared) (h : List Entry) (w : ℕ) (p : Port Message) → IsLegalHistory d h
    → slice_get (state_after d h).ports w ≡ Some p → length p.arrived ≤ 2 * length h

-- at most one command is made with each
abbrev pub FewCommandsAreMade : Type 0
FewCommandsAreMade =
    (d : Declared) (h : List Entry) (w : ℕ) (b : Buffer) → IsLegalHistory d h
    → slice_get (state_after d h).buffers w ≡ Some b → b.made ≤ length h

-- at most one event is used with each
abbrev pub FewEventsAreUsed : Type 0
FewEventsAreUsed =
    (d : Declared) (h : List Entry) → IsLegalHistory d h → (state_after d h).events ≤ length h

-- ---- pixels

-- a pixel that stays with its window changes only by an entry of the window's looper or twin
abbrev pub PixelsStayBeside : Type 0
PixelsStayBeside =
    (d : Declared) (s : State) (e : Entry) (u : ℕ) (x y : ℤ) → IsLegal d s e → (Serves d u e → ⊥)
    → owner_in s x y ≡ Some u → owner_in (step d s e) x y ≡ Some u
    → pixel_at (step d s e) x y ≡ pixel_at s x y

-- a pixel that no window owns is the desktop's
abbrev pub DesktopShows : Type 0
DesktopShows =
    (d : Declared) (h : List Entry) (x y : ℤ) → IsLegalHistory d h
    → owner_in (state_after d h) x y ≡ None
    → pixel_at (state_after d h) x y
    ≡ option_map (λ _. desktop_cell) (pixel_at (state_after d h) x y)

-- what a command does at a view leaves the pixels that its window doesn't own
abbrev pub CommandsStayInside : Type 0
CommandsStayInside =
    (d : Declared) (s : State) (e : Entry) (w v : ℕ) (c : Numbered) (deed : Deed) (x y : ℤ)
    → Executes d s e w c
    → effect_of c.command ≡ at_view v deed → owned s w x y ≡ false
    → pixel_at (step d s e) x y ≡ pixel_at s x y

-- what draws leaves each mark
abbrev pub DrawingLeavesMarks : Type 0
DrawingLeavesMarks =
    (d : Declared) (s : State) (e : Entry) (w : ℕ) (c : Numbered) (x y : ℤ) → Executes d s e w c
    → is_drawing c.command ≡ true
    → mark_at (step d s e) x y ≡ mark_at s x y

-- ---- touched parts

-- what the entry meets, if it is legal
abbrev pub IsWantOf : Declared → State → Entry → Want → Type 0
IsWantOf d s e want = option_and_then (want_of d s) (activity_of d e.actor) ≡ Some want

-- a part that the entry doesn't touch is as it was
abbrev pub UntouchedStays : Type 0
UntouchedStays =
    (d : Declared) (s : State) (e : Entry) (want : Want) (p : Part) → IsLegal d s e
    → IsWantOf d s e want
    → (Touches s (step d s e) want p → ⊥) → SamePart s (step d s e) p

-- After both of two legal histories of a script within its limits the parts are the same that the
-- entry touches after the first, where it is legal and meets this want.
pub record Agree (d : Declared) (g h : List Entry) (e : Entry) (want : Want) : Type 0 where
  pub limits : IsWithinLimits d
  pub first : IsLegalHistory d g
  pub second : IsLegalHistory d h
  pub legal : IsLegal d (state_after d g) e
  pub wanted : IsWantOf d (state_after d g) e want
  pub same : (p : Part) → Touches (state_after d g) (step d (state_after d g) e) want p
      → SamePart (state_after d g) (state_after d h) p

-- then it is wanted and legal after the other too
abbrev pub WantedAfterBoth : Type 0
WantedAfterBoth =
    (d : Declared) (g h : List Entry) (e : Entry) (want : Want) → Agree d g h e want
    → IsWantOf d (state_after d h) e want

abbrev pub LegalAfterBoth : Type 0
LegalAfterBoth =
    (d : Declared) (g h : List Entry) (e : Entry) (want : Want) → Agree d g h e want
    → IsLegal d (state_after d h) e

-- it makes the same of each part that is the same
abbrev pub MakesTheSame : Type 0
MakesTheSame =
    (d : Declared) (g h : List Entry) (e : Entry) (want : Want) (p : Part) → Agree d g h e want
    → SamePart (state_after d g) (state_after d h) p
    → SamePart (step d (state_after d g) e) (step d (state_after d h) e) p

-- and touches the same parts
abbrev pub TouchesTheSame : Type 0
TouchesTheSame =
    (d : Declared) (g h : List Entry) (e : Entry) (want : Want) (p : Part) → Agree d g h e want
    → (Touches (state_after d g) (step d (state_after d g) e) want p
    ↔ Touches (state_after d h) (step d (state_after d h) e) want p)
