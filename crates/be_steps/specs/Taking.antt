-- The letter in front of a port.
use Rattle.std.specs.Prelude.{◌≡◌, ℕ, List, Some, slice_get, option_and_then}
use Rattle.be_handler.specs.declared.Route.{Route}
use Rattle.be_hall.specs.Hands.{meant}
use Rattle.be_hall.specs.Machine.{Fits}
use Rattle.be_machine.specs.Port.{letter_route}
use Rattle.be_message.specs.Messages.{Message}
use Rattle.be_parts.specs.Parts.{meaning_of}
use Rattle.be_parts.specs.declared.part.Part.{Part}
use Rattle.be_port.specs.Ports.{Letter, front}
use Rattle.be_rules.specs.Rules.{IsSound}
use Rattle.be_rules.specs.Slices.{Slice, state_of}
use Rattle.be_script.specs.Script.{Declared}

-- in every sound list with these parts, the letter in front of the window's port carries this
-- message, which goes this way
abbrev pub IsFrontMessage : Declared → List (ℕ × Part) → ℕ → Message → Route → Type 0
IsFrontMessage d parts w message route =
    (all : List Slice) → IsSound d all → Fits all (meant meaning_of parts)
    → (letter : Letter Message)
    → option_and_then front (slice_get (state_of d all).ports w) ≡ Some letter
    → (letter.body ≡ message) × (letter_route d w letter ≡ route)
