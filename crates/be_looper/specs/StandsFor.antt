-- What a looper stands for: who has the machine's looper, and the letter in its hand.
use Rattle.std.specs.Prelude.{◌≡◌, ℕ, Option, Some, None}
use Rattle.be_link.specs.Queues.{Buffer}
use Rattle.be_message.specs.Messages.{Message}
use Rattle.be_port.specs.declared.Duty.{Duty}
use Rattle.be_port.specs.StandsFor.{LetterStandsFor}
use Rattle.be_looper.specs.declared.Owner.{Owner}
use Rattle.be_looper.specs.declared.Owner.TheVariants as owners
use Rattle.be_looper.specs.Duties.{Hand}
use Rattle.be_looper.specs.Loopers.{Handled, Looper}

-- the machine's looper, without how far it is with the letter in its hand
pub data Holding : Type 0 where
  free : Holding
  -- by an application
  locked : ℕ → Holding
  handling : Hand Message → Holding

abbrev pub owner_in : Holding → Owner
owner_in free = owners.Free
owner_in (locked m) = owners.App m
owner_in (handling hand) = owners.Own

abbrev pub hand_in : Holding → Option (Hand Message)
hand_in free = None
hand_in (locked m) = None
hand_in (handling hand) = Some hand

-- something else is left of the duty in hand
abbrev pub with_duty_by : (Duty → Duty) → Holding → Holding
with_duty_by f free = free
with_duty_by f (locked m) = locked m
with_duty_by f (handling hand) = handling record hand { duty = f hand.duty }

-- the letter of the code's hand has what is left of the duty, and its message beside the bytes
pub record HandStandsFor (handled : Handled) (hand : Hand Message) : Type 0 where
  pub letter : LetterStandsFor handled.letter (record hand.letter { duty = hand.duty })
  pub message : handled.message ≡ hand.letter.body
  pub route : handled.route ≡ hand.route

-- no message is in hand in both, or the same
abbrev pub SameHand : Option Handled → Option (Hand Message) → Type 0
SameHand None None = Unit {0}
SameHand (Some handled) (Some hand) = HandStandsFor handled hand
SameHand None (Some hand) = ⊥
SameHand (Some handled) None = ⊥

pub record LooperStandsFor (l : Looper) (h : Holding) (b : Buffer) : Type 0 where
  pub owner : l.owner ≡ owner_in h
  pub hand : SameHand l.hand (hand_in h)
  pub buffer : l.buffer ≡ b
