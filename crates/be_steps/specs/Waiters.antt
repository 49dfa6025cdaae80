-- Who waits for the reply to the letter in a looper's hand, and what is told to who waits.
use Rattle.std.specs.Prelude.{◌≡◌, ℕ, List, Option, Some, None, option_and_then}
use Rattle.be_actor.specs.Drafts.{DraftWords, filled}
use Rattle.be_asking.specs.Wants.{message_of}
use Rattle.be_hall.specs.Hands.{Hand, meant, part_at}
use Rattle.be_hall.specs.Machine.{Fits}
use Rattle.be_looper.specs.Duties.{waiter}
use Rattle.be_machine.specs.Activities as machine
use Rattle.be_machine.specs.Touched as part
use Rattle.be_message.specs.Messages.{Message}
use Rattle.be_parts.specs.Effects.{app_told}
use Rattle.be_parts.specs.Kept.{Kept}
use Rattle.be_parts.specs.Loopers.{duty_in}
use Rattle.be_parts.specs.Parts.{hand_with, meaning_of}
use Rattle.be_parts.specs.declared.part.Part.{Part}
use Rattle.be_parts.specs.declared.part.Part.TheVariants as kinds
use Rattle.be_reply.specs.Cells.{with_reply}
use Rattle.be_rules.specs.Places.{place_of}
use Rattle.be_rules.specs.Rules.{IsSound}
use Rattle.be_rules.specs.Slices.{Slice, state_of}
use Rattle.be_script.specs.Script.{Declared}

-- by the duty in hand
abbrev pub waiter_of : Slice → Option ℕ
waiter_of slice = option_and_then waiter (duty_in slice)

-- of the looper of window w
abbrev pub IsWaiter : Declared → List (ℕ × Part) → ℕ → Option ℕ → Type 0
IsWaiter d parts w waits =
    (k : Kept) → part_at parts (place_of d (part.looper w)) ≡ Some (kinds.Looper k)
    → waiter_of k.slice ≡ waits

-- the part of who waits is in hand
abbrev pub HasWaiter : Declared → List (ℕ × Part) → Option ℕ → Type 0
HasWaiter d parts (Some m) =
    (k : Kept) × (part_at parts (place_of d (part.cell m)) ≡ Some (kinds.Cell k))
HasWaiter d parts None = Unit {0}

-- who waits was told this; where nobody does, all is as it was
abbrev pub IsTold : Declared → Message → Option ℕ → Hand Part → Hand Part → Type 0
IsTold d message (Some m) old new =
    (was is : Kept)
    × (part_at old.parts (place_of d (part.cell m)) ≡ Some (kinds.Cell was))
    × (new ≡ hand_with old (place_of d (part.cell m)) (kinds.Cell is))
    × (is.slice ≡ app_told (with_reply message) was.slice) × (is.log ≡ was.log)
IsTold d message None old new = new ≡ old

-- in every sound list with these parts, the draft beside the message in the looper's hand is this
abbrev pub IsReply : Declared → List (ℕ × Part) → ℕ → DraftWords → Message → Type 0
IsReply d parts w draft message =
    (all : List Slice) → IsSound d all → Fits all (meant meaning_of parts)
    → message ≡ filled draft (message_of (state_of d all) (machine.runner (machine.looper w)))
