-- What was made for an entry suits what its activity wants.
use Rattle.std.specs.Prelude.{◌≡◌, ℕ, true, List, Option, Some}
use Rattle.be_actor.specs.declared.Wish.{Wish}
use Rattle.be_actor.specs.declared.Wish.TheVariants as wish
use Rattle.be_asking.specs.Wants.{activity_in, message_of, want_in}
use Rattle.be_asking.specs.declared.activity.Activity.{Activity}
use Rattle.be_asking.specs.declared.want.Want.{Want}
use Rattle.be_changes.specs.Events.{IsDeliveredIn}
use Rattle.be_changes.specs.Planned.{IsNextChange, IsPlannedIn, IsRefusedIn}
use Rattle.be_changes.specs.declared.events.Delivered.{Delivered}
use Rattle.be_hall.specs.Hands.{meant, places_of, rises_from}
use Rattle.be_hall.specs.Machine.{Fits, HeldFit, IsReady, SomeFits}
use Rattle.be_handler.specs.declared.Route.{Route}
use Rattle.be_machine.specs.Activities as machine
use Rattle.be_machine.specs.Activities.{activity_of}
use Rattle.be_machine.specs.State.{State}
use Rattle.be_machine.specs.Wants as wants
use Rattle.be_machine.specs.Wants.{want_of}
use Rattle.be_machine.specs.declared.Act.{Act}
use Rattle.be_message.specs.Messages.{Message}
use Rattle.be_parts.specs.Parts.{meaning_of}
use Rattle.be_parts.specs.declared.part.Part.{Part}
use Rattle.be_port.specs.Ports as ports
use Rattle.be_port.specs.declared.letter.Letter.{Letter}
use Rattle.be_rules.specs.Rules.{IsSound, SliceFits, world_machine}
use Rattle.be_rules.specs.Slices.{Slice, state_of}
use Rattle.be_script.specs.Limits.{IsWithinLimits}
use Rattle.be_script.specs.Script.{Declared}
use Rattle.be_script.specs.declared.InputLine.{InputLine}
use Rattle.be_script.specs.declared.InputLine.TheVariants as line
use Rattle.be_steps.specs.Executing.{HasPlainFront}
use Rattle.be_steps.specs.Letters.{Stands, wished_letter}
use Rattle.be_steps.specs.Notices.{IsNotice}
use Rattle.be_steps.specs.Surveyed.{IsSurveyedIn}
use Rattle.be_steps.specs.Taking.{IsFrontMessage}
use Rattle.be_update.specs.Surveys.{Surveyed}
use Rattle.be_world.specs.declared.work.Work.{Work}
use Rattle.be_world.specs.declared.work.Work.TheVariants as work

-- ---- what a runner asks for

-- the letter that it posts
abbrev pub HasLetter : State → machine.Runner → Wish → Work → Type 0
HasLetter s who asked made =
    (l : Letter) × (made ≡ work.Letter l)
    × (m : ports.Letter Message) × (wished_letter s who asked ≡ Some m) × Stands l m

-- a letter for what is posted, a message for a reply, a copy of a command, and else nothing
abbrev pub SuitsWish : State → machine.Runner → Wish → Work → Type 0
SuitsWish s who (wish.Post w target message) made =
    HasLetter s who (wish.Post w target message) made
SuitsWish s who (wish.Send w target message) made =
    HasLetter s who (wish.Send w target message) made
SuitsWish s who (wish.Forward w target) made = HasLetter s who (wish.Forward w target) made
SuitsWish s who (wish.Reply message) made = made ≡ work.Reply message
SuitsWish s who (wish.Draw command) made = made ≡ work.Command command
SuitsWish s who (wish.Note word) made = Unit {0}
SuitsWish s who wish.Claim made = Unit {0}
SuitsWish s who (wish.Lock w) made = Unit {0}
SuitsWish s who wish.Unlock made = Unit {0}
SuitsWish s who wish.Flush made = Unit {0}
SuitsWish s who wish.SyncDone made = Unit {0}

-- ---- what a twin executes

-- nothing is made for a command that is no change of the window; a change was planned, or the desk
-- refuses it
abbrev pub SuitsCommand : Declared → List (ℕ × Part) → ℕ → Work → Type 0
SuitsCommand d parts w work.Nothing = HasPlainFront d parts w
SuitsCommand d parts w (work.Letter l) = ⊥
SuitsCommand d parts w (work.Reply message) = ⊥
SuitsCommand d parts w (work.Taken message route) = ⊥
SuitsCommand d parts w (work.Command command) = ⊥
SuitsCommand d parts w (work.Survey survey) = ⊥
SuitsCommand d parts w (work.Change plan places) =
    IsNextChange d parts w plan.change × (plan.window ≡ w) × IsPlannedIn d parts plan places.items
SuitsCommand d parts w work.Refused = IsRefusedIn d parts w
SuitsCommand d parts w (work.Event delivered) = ⊥

-- ---- what the input uses

-- what the event of this line delivers
abbrev pub HasEvent : Declared → List (ℕ × Part) → InputLine → Work → Type 0
HasEvent d parts it made =
    (delivered : Delivered) × (made ≡ work.Event delivered) × IsDeliveredIn d parts it delivered

-- a line that waits for an application's end needs nothing
abbrev pub SuitsLine : Declared → List (ℕ × Part) → InputLine → Work → Type 0
SuitsLine d parts (line.After m) made = Unit {0}
SuitsLine d parts (line.Press at) made = HasEvent d parts (line.Press at) made
SuitsLine d parts (line.Release at) made = HasEvent d parts (line.Release at) made
SuitsLine d parts (line.Move at) made = HasEvent d parts (line.Move at) made
SuitsLine d parts (line.Key key) made = HasEvent d parts (line.Key key) made

-- ---- all of them

abbrev pub Suits : Declared → List (ℕ × Part) → State → wants.Want → Work → Type 0
Suits d parts s (wants.asks who asked) made = SuitsWish s who asked made
Suits d parts s (wants.takes w) made =
    (message : Message) × (route : Route) × (made ≡ work.Taken message route)
    × IsFrontMessage d parts w message route
Suits d parts s (wants.begins w) made =
    (survey : Option Surveyed) × (made ≡ work.Survey survey) × IsSurveyedIn d parts w survey
Suits d parts s (wants.notifies w) made =
    (l : Letter) × (made ≡ work.Letter l) × IsNotice w l
Suits d parts s (wants.executes w) made = SuitsCommand d parts w made
Suits d parts s (wants.uses it) made = SuitsLine d parts it made
Suits d parts s (wants.flushes w) made = Unit {0}
Suits d parts s (wants.draws_end w) made = Unit {0}
Suits d parts s (wants.ends w) made = Unit {0}
Suits d parts s wants.stops made = Unit {0}

-- it suits this want, in every sound list with these parts
abbrev pub IsSuited : Declared → List (ℕ × Part) → Activity → Want → Work → Type 0
IsSuited d parts who want made =
    (all : List Slice) → IsSound d all → Fits all (meant meaning_of parts)
    → Suits d parts (state_of d all)
    (want_in (message_of (state_of d all) (activity_in who)) want) made

-- it suits whatever the activity of this number wants
abbrev pub IsPrepared : Declared → List (ℕ × Part) → ℕ → Work → Type 0
IsPrepared d parts number made =
    (all : List Slice) → IsSound d all → Fits all (meant meaning_of parts)
    → (who : machine.Activity) → activity_of d number ≡ Some who
    → (want : wants.Want) → want_of d (state_of d all) who ≡ Some want
    → Suits d parts (state_of d all) want made

-- the activity of this number may make its entry, and all that this touches is in hand
pub record MayStep
    (d : Declared) (parts : List (ℕ × Part)) (number : ℕ) (who : Activity)
    : Type 0 where
  pub limits : IsWithinLimits d
  pub is : activity_of d number ≡ Some (activity_in who)
  pub fitting : SomeFits (world_machine d) (meant meaning_of parts)
  -- the counts are those of at most 2 ^ 62 entries
  pub small : HeldFit SliceFits 4611686018427387904 (meant meaning_of parts)
  pub act : Act
  pub ready :
      IsReady (world_machine d) (meant meaning_of parts) (record { actor = number; act = act })
  pub ascending : rises_from 0 (places_of parts) ≡ true
