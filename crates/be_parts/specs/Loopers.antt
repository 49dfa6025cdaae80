-- What a looper's slice tells.
use Rattle.std.specs.Prelude.{Option, Some, None, option_map, option_and_then, slice_get, unwrap_or}
use Rattle.be_actor.specs.declared.Place.{Place}
use Rattle.be_handler.specs.declared.Route.{Route}
use Rattle.be_link.specs.Queues.{Buffer, Numbered, empty_buffer}
use Rattle.be_looper.specs.Duties.{Hand, in_hand}
use Rattle.be_looper.specs.declared.Owner.{Owner}
use Rattle.be_looper.specs.declared.Owner.TheVariants as owners
use Rattle.be_message.specs.Messages.{Message}
use Rattle.be_port.specs.declared.Duty.{Duty}
use Rattle.be_port.specs.Ports.{Letter}
use Rattle.be_port.specs.declared.letter.Letter as held
use Rattle.be_machine.specs.Port.{first_stage}
use Rattle.be_machine.specs.Program.{hand_in}
use Rattle.be_machine.specs.State.{Looper, free, locked, handling, Stage}
use Rattle.be_rules.specs.Slices.{Slice, looper_in, buffer_in}
use Rattle.be_parts.specs.Stages.{letter_of, stage_at}

-- the letter in its hand
abbrev pub hand_of : Slice → Option (Hand Message)
hand_of slice = option_and_then hand_in (looper_in slice)

-- what is left of its duty
abbrev pub duty_in : Slice → Option Duty
duty_in slice = option_map (λ hand. hand.duty) (hand_of slice)

-- how far it is with it
abbrev pub stage_of : Looper → Option Stage
stage_of (handling hand stage) = Some stage
stage_of (locked m) = None
stage_of free = None

abbrev pub stage_in : Slice → Option Stage
stage_in slice = option_and_then stage_of (looper_in slice)

-- who has it
abbrev pub owner_in : Looper → Owner
owner_in free = owners.Free
owner_in (locked m) = owners.App m
owner_in (handling hand stage) = owners.Own

abbrev pub owner_of : Slice → Option Owner
owner_of slice = option_map owner_in (looper_in slice)

-- its buffer
abbrev pub buffer_of : Slice → Buffer
buffer_of slice = unwrap_or (buffer_in slice) empty_buffer

-- the oldest command in it
abbrev pub oldest_of : Slice → Option Numbered
oldest_of slice = slice_get (buffer_of slice).commands 0

-- the looper with a letter in its hand, and the message that it carries
abbrev pub begun_with : held.Letter → Message → Route → Looper → Looper
begun_with letter message route old =
    let came : Letter Message = letter_of letter message letter.duty in
    handling (in_hand came route) (first_stage came)

-- at another place of the body, or of the Draw bodies
abbrev pub at_place : Place → Looper → Looper
at_place place (handling hand stage) = handling hand (stage_at place stage)
at_place place (locked m) = locked m
at_place place free = free
