-- A looper as its data have it, and as the machine does.
use Rattle.std.specs.Prelude.{map}
use Rattle.be_actor.specs.declared.Place.{Place}
use Rattle.be_looper.specs.Duties.{Hand}
use Rattle.be_looper.specs.Loopers as loopers
use Rattle.be_message.specs.Messages.{Message}
use Rattle.be_port.specs.declared.Duty.{Duty}
use Rattle.be_port.specs.declared.letter.Letter as held
use Rattle.be_port.specs.Ports.{Letter}
use Rattle.be_machine.specs.State as machine
use Rattle.be_parts.specs.declared.stage.Stage.{Stage}
use Rattle.be_parts.specs.declared.stage.Stage.TheVariants.{InBody, Beginning, InUpdate, Ending}

-- how far it is with the letter in its hand
abbrev pub stage_of : Stage → machine.Stage
stage_of (InBody place) = machine.in_body place
stage_of Beginning = machine.beginning
stage_of (InUpdate views place) = machine.in_update (map (λ v. v.0) views.items) place
stage_of Ending = machine.ending

-- at another place of the body, or of the Draw bodies
abbrev pub stage_at : Place → machine.Stage → machine.Stage
stage_at place (machine.in_body old) = machine.in_body place
stage_at place (machine.in_update views old) = machine.in_update views place
stage_at place machine.beginning = machine.beginning
stage_at place machine.ending = machine.ending

-- a letter with the message that its bytes spell, and the duty with which it came
abbrev pub letter_of : held.Letter → Message → Duty → Letter Message
letter_of letter message duty = record {
  sender = letter.sender;
  target = letter.target;
  hop = letter.hop;
  duty = duty;
  notice = letter.notice;
  body = message;
}

-- the letter in hand has what is left of the duty
abbrev pub hand_of : loopers.Handled → Duty → Hand Message
hand_of handled came = record {
  letter = letter_of handled.letter handled.message came;
  route = handled.route;
  duty = handled.letter.duty;
}
