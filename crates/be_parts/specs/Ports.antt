-- What a port's slice tells, and what becomes of it at each effect.
use Rattle.std.specs.Prelude.{◌≡◌, ℕ, ◌+◌, true, false, length, Some, Result}
use Rattle.std.specs.Option.{option_map_or}
use Rattle.be_message.specs.Messages.{Message}
use Rattle.be_port.specs.Answers.{posted_as}
use Rattle.be_port.specs.Ports.{Letter, Port, closed_port, empty_port, front, has_notice, judged}
use Rattle.be_port.specs.Ports.{posted, with_letter, without_front}
use Rattle.be_port.specs.StandsFor.{Carries, LetterStandsFor}
use Rattle.be_port.specs.declared.fault.PostFault.{PostFault}
use Rattle.be_port.specs.declared.letter.Letter as held
use Rattle.be_rules.specs.Slices.{Slice, port, port_in}

-- how many letters ever arrived
abbrev pub letters_of : Slice → ℕ
letters_of slice = option_map_or (λ p. length p.arrived) (port_in slice) 0

-- no letter arrived
abbrev pub IsEmptyPort : ℕ → Slice → Type 0
IsEmptyPort capacity slice = (w : ℕ) × (slice ≡ port w (Some (empty_port capacity)))

-- the port was asked to take a letter, which carries the machine's
pub record HasPosted (letter : held.Letter) (old new : Slice) : Type 0 where
  pub window : ℕ
  pub of : Port Message
  pub means : Letter Message
  pub carries : Carries letter means
  pub ordinary : means.notice ≡ false
  pub before : old ≡ port window (Some of)
  pub after_is : new ≡ port window (Some (posted means of))

-- the answer to a letter of this hop is the machine's
abbrev pub IsAnswered : ℕ → Slice → Result ℕ PostFault → Type 0
IsAnswered hop slice answer =
    (w : ℕ) (p : Port Message) → slice ≡ port w (Some p) → posted_as answer ≡ judged p hop

-- a notice came into the open port, in which none waits
pub record HasNotice (letter : held.Letter) (old new : Slice) : Type 0 where
  pub window : ℕ
  pub of : Port Message
  pub means : Letter Message
  pub carries : Carries letter means
  pub notice : means.notice ≡ true
  pub open_is : of.closed ≡ false
  pub none : has_notice of ≡ false
  pub before : old ≡ port window (Some of)
  pub after_is : new ≡ port window (Some (with_letter means of))

-- the letter in front was taken
pub record HasTaken (old new : Slice) : Type 0 where
  pub window : ℕ
  pub of : Port Message
  pub first : Letter Message
  pub is_first : front of ≡ Some first
  pub before : old ≡ port window (Some of)
  pub after_is : new ≡ port window (Some (without_front of))

-- a letter that stands for the one in front
abbrev pub IsFront : held.Letter → Slice → Type 0
IsFront letter slice =
    (w : ℕ) × (p : Port Message) × (m : Letter Message) × (slice ≡ port w (Some p))
    × (front p ≡ Some m) × LetterStandsFor letter m × (letter.number ≡ p.taken + 1)

-- it was closed
pub record HasClosed (old new : Slice) : Type 0 where
  pub window : ℕ
  pub of : Port Message
  pub before : old ≡ port window (Some of)
  pub after_is : new ≡ port window (Some (closed_port of))
