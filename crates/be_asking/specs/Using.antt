-- What the parts in hand tell of the next line of the input.
use Rattle.std.specs.Prelude.{◌≡◌, ◌⊎◌, ◌<◌, ℕ, List, length, Option, Some, None, slice_get}
use Rattle.std.specs.Prelude.{option_map, option_and_then}
use Rattle.std.specs.List.{Contains}
use Rattle.std.specs.Borrow.{Bor}
use Rattle.be_desk.specs.Changes.{Desk}
use Rattle.be_geom.specs.declared.change.Change.TheVariants.{Activate}
use Rattle.be_hall.specs.Hands.{meant}
use Rattle.be_hall.specs.Machine.{Fits, HeldFit}
use Rattle.be_input.specs.declared.Event.{Event}
use Rattle.be_input.specs.declared.Post.{Post}
use Rattle.be_input.specs.Deliveries as machine
use Rattle.be_machine.specs.Input.{outcome_in, ports_with}
use Rattle.be_machine.specs.Touched as part
use Rattle.be_parts.specs.Parts.{meaning_of}
use Rattle.be_parts.specs.declared.part.Part.{Part}
use Rattle.be_port.specs.declared.Posted.{Posted}
use Rattle.be_port.specs.Ports.{judged}
use Rattle.be_rules.specs.Far.{IsAltered, event_in}
use Rattle.be_rules.specs.Rules.{IsSound, SliceFits}
use Rattle.be_rules.specs.Slices.{Slice, state_of}
use Rattle.be_script.specs.Script.{Declared}
use Rattle.be_script.specs.declared.InputLine.{InputLine}
use Rattle.be_script.specs.declared.InputLine.TheVariants.{After}
use Rattle.be_asking.specs.Deeds.{IsAsked}
use Rattle.be_asking.specs.Finding.{IsInHand, IsMissing, IsReachable}
use Rattle.be_asking.specs.declared.activity.Activity.TheVariants.{Input}
use Rattle.be_asking.specs.declared.want.Want.TheVariants.{Uses}

-- ---- the line

-- the activity of number a wants to use a line that is this event of mouse or key
pub record IsNextEvent
    (d : Declared) (parts : List (ℕ × Part)) (a : ℕ) (event : Event)
    : Type 0 where
  pub line : Bor InputLine
  pub is : event_in line.now ≡ Some event
  pub asked : IsAsked d parts a Input (Uses line)

-- a line that waits for the end of application m
pub record IsNextAfter (d : Declared) (parts : List (ℕ × Part)) (a m : ℕ) : Type 0 where
  pub line : Bor InputLine
  pub is : line.now ≡ After m
  pub asked : IsAsked d parts a Input (Uses line)

-- ---- messages

-- the port of window w can be looked for, and no count in the parts is great
pub record IsPostable (d : Declared) (parts : List (ℕ × Part)) (w : ℕ) : Type 0 where
  pub port : IsReachable d parts (part.port w)
  pub small : HeldFit SliceFits 4611686018427387904 (meant meaning_of parts)

abbrev pub ArePostable : Declared → List (ℕ × Part) → Option Post → Type 0
ArePostable d parts (Some post) = IsPostable d parts post.window
ArePostable d parts None = Unit {0}

-- the port of the message isn't in hand, and belongs at this place
abbrev pub HasNoPort : Declared → List (ℕ × Part) → Option Post → ℕ → Type 0
HasNoPort d parts (Some post) place = IsMissing d parts (part.port post.window) place
HasNoPort d parts None place = ⊥

abbrev pub HasPort : Declared → List (ℕ × Part) → Option Post → Type 0
HasPort d parts (Some post) = IsInHand d parts (part.port post.window)
HasPort d parts None = Unit {0}

-- so window w's port answers a message of the input, in each sound list with these parts
abbrev pub Answers : Declared → List (ℕ × Part) → ℕ → Posted → Type 0
Answers d parts w answer =
    (all : List Slice) → IsSound d all → Fits all (meant meaning_of parts)
    → option_map (λ p. judged p 0) (slice_get (state_of d all).ports w) ≡ Some answer

-- and so where another message came first
abbrev pub AnswersBehind : Declared → List (ℕ × Part) → ℕ → Posted → Type 0
AnswersBehind d parts w answer =
    (all : List Slice) → IsSound d all → Fits all (meant meaning_of parts)
    → (post : machine.Post) → post.window ≡ w
    → option_map (λ p. judged p 0) (slice_get (ports_with (state_of d all).ports (Some post)) w)
    ≡ Some answer

-- so the first message of a delivery is answered, in each sound list with these parts
abbrev pub IsFirst :
    Declared → List (ℕ × Part) → machine.Delivery → Option (ℕ × Posted) → Type 0
IsFirst d parts delivery answer =
    (all : List Slice) → IsSound d all → Fits all (meant meaning_of parts)
    → option_and_then (outcome_in (state_of d all).ports) delivery.first ≡ answer

-- and so the second
abbrev pub IsSecond :
    Declared → List (ℕ × Part) → machine.Delivery → Option (ℕ × Posted) → Type 0
IsSecond d parts delivery answer =
    (all : List Slice) → IsSound d all → Fits all (meant meaning_of parts)
    → option_and_then (outcome_in (ports_with (state_of d all).ports delivery.first))
    delivery.second ≡ answer

-- ---- panes

-- each of these windows is the script's
abbrev pub AreWindows : Declared → List ℕ → Type 0
AreWindows d names = (u : ℕ) → Contains names u → u < length d.windows

-- each of their panes is in hand
abbrev pub AreInHand : Declared → List (ℕ × Part) → List ℕ → Type 0
AreInHand d parts names = (u : ℕ) → Contains names u → IsInHand d parts (part.pane u)

-- at this place belongs one of them that isn't
abbrev pub HasMissing : Declared → List (ℕ × Part) → List ℕ → ℕ → Type 0
HasMissing d parts names place =
    (u : ℕ) × Contains names u × IsMissing d parts (part.pane u) place

-- window u is the one that is activated, or owns other pixels then
abbrev pub IsStirred : Desk → ℕ → ℕ → Type 0
IsStirred desk w u = (u ≡ w) ⊎ IsAltered desk w Activate u

-- the panes of all of these are in hand
abbrev pub HasStirred : Declared → List (ℕ × Part) → Desk → ℕ → Type 0
HasStirred d parts desk w = (u : ℕ) → IsStirred desk w u → IsInHand d parts (part.pane u)

-- at this place belongs the pane of one of them, and isn't in hand
pub record LacksStirred
    (d : Declared) (parts : List (ℕ × Part)) (desk : Desk) (w place : ℕ)
    : Type 0 where
  pub window : ℕ
  pub stirred : IsStirred desk w window
  pub below : window < length d.windows
  pub missing : IsMissing d parts (part.pane window) place

-- the same where a window is activated; else no pane is asked for
abbrev pub HasActive : Declared → List (ℕ × Part) → Desk → Option ℕ → Type 0
HasActive d parts desk (Some w) = HasStirred d parts desk w
HasActive d parts desk None = Unit {0}

abbrev pub LacksActive : Declared → List (ℕ × Part) → Desk → Option ℕ → ℕ → Type 0
LacksActive d parts desk (Some w) place = LacksStirred d parts desk w place
LacksActive d parts desk None place = ⊥
