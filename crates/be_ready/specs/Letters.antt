-- What an instruction's message is made of.
use Rattle.std.specs.Prelude.{◌≡◌, ℕ, List, Option, Some, None, slice_get}
use Rattle.std.specs.Prelude.{option_map, option_and_then}
use Rattle.be_actor.specs.Conditions.{draft_of}
use Rattle.be_actor.specs.Drafts.{DraftWords, filled}
use Rattle.be_asking.specs.Deeds.{IsAsked}
use Rattle.be_asking.specs.Wants.{message_of, runner_in}
use Rattle.be_asking.specs.declared.activity.Activity.TheVariants as who
use Rattle.be_asking.specs.declared.activity.Runner.{Runner}
use Rattle.be_asking.specs.declared.want.Request.{Request}
use Rattle.be_asking.specs.declared.want.Request.TheVariants as request
use Rattle.be_asking.specs.declared.want.Want.TheVariants as want
use Rattle.be_hall.specs.Hands.{meant}
use Rattle.be_hall.specs.Machine.{Fits}
use Rattle.be_looper.specs.Duties.{Hand}
use Rattle.be_machine.specs.Activities as machine
use Rattle.be_machine.specs.Program.{letter_program}
use Rattle.be_machine.specs.State.{Looper, free, locked, handling}
use Rattle.be_machine.specs.State.{Stage, in_body, beginning, in_update, ending}
use Rattle.be_message.specs.Messages.{Message}
use Rattle.be_parts.specs.Parts.{meaning_of}
use Rattle.be_parts.specs.declared.part.Part.{Part}
use Rattle.be_rules.specs.Own.{step_of}
use Rattle.be_rules.specs.Rules.{IsSound}
use Rattle.be_rules.specs.Slices.{Slice, app_in, looper_in, state_of}
use Rattle.be_script.specs.Script.{Declared}

-- the runner asks for this, told by the parts in hand
abbrev pub Asks : Declared → List (ℕ × Part) → Runner → Request → Type 0
Asks d parts runner request =
    (number : ℕ) × IsAsked d parts number (who.Runner runner) (want.Asks runner request)

-- the draft of the message that is asked for
abbrev pub draft_asked : Request → Option DraftWords
draft_asked (request.Post w target draft) = Some draft.now
draft_asked (request.Send w target draft) = Some draft.now
draft_asked (request.Reply draft) = Some draft.now
draft_asked (request.Note text) = None
draft_asked (request.Forward w target) = None
draft_asked request.Claim = None
draft_asked (request.Lock w) = None
draft_asked request.Unlock = None
draft_asked request.Flush = None
draft_asked request.SyncDone = None
draft_asked (request.Draw command) = None

-- in every sound list with these parts, this is that draft beside the message in the runner's hand
abbrev pub IsMade : Declared → List (ℕ × Part) → Runner → Request → Message → Type 0
IsMade d parts runner request message =
    (all : List Slice) → IsSound d all → Fits all (meant meaning_of parts)
    → option_map
    (λ draft. filled draft (message_of (state_of d all) (machine.runner (runner_in runner))))
    (draft_asked request) ≡ Some message

-- ---- drafts by the parts

-- of the instruction at which an application is
abbrev pub draft_of_app : Declared → ℕ → Slice → Option DraftWords
draft_of_app d m slice =
    option_and_then (λ a. option_and_then draft_of (step_of d m a)) (app_in slice)

-- of the one at which a looper is with a letter in its hand; an update makes no message
abbrev pub draft_at : Declared → ℕ → Hand Message → Stage → Option DraftWords
draft_at d w hand (in_body place) =
    option_and_then draft_of (slice_get (letter_program d w hand) place.step)
draft_at d w hand beginning = None
draft_at d w hand (in_update views place) = None
draft_at d w hand ending = None

abbrev pub draft_by : Declared → ℕ → Looper → Option DraftWords
draft_by d w (handling hand stage) = draft_at d w hand stage
draft_by d w (locked m) = None
draft_by d w free = None

abbrev pub draft_of_looper : Declared → ℕ → Slice → Option DraftWords
draft_of_looper d w slice = option_and_then (draft_by d w) (looper_in slice)
