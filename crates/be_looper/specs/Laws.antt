-- A looper that stands for the machine's answers as it does, and stands for it after each call.
use Rattle.std.specs.Prelude.{◌≡◌, ◌↔◌, ℕ, Some, None, option_map, IfOk, IfErr}
use Rattle.be_handler.specs.declared.Route.{Route}
use Rattle.be_link.specs.Queues.{Buffer, empty_buffer}
use Rattle.be_message.specs.Messages.{Message}
use Rattle.be_port.specs.declared.Duty.{Duty}
use Rattle.be_port.specs.declared.letter.Letter as held
use Rattle.be_port.specs.Ports as port
use Rattle.be_port.specs.StandsFor.{LetterStandsFor}
use Rattle.be_looper.specs.declared.Owner.TheVariants as owners
use Rattle.be_looper.specs.Duties.{Hand, in_hand, waiter, reply_answer}
use Rattle.be_looper.specs.Loopers.{Looper, free_looper, locked_by, with_hand, freed, duty_of}
use Rattle.be_looper.specs.Loopers.{with_duty, reply_result, replied}
use Rattle.be_looper.specs.StandsFor.{Holding, free, locked, handling, hand_in, with_duty_by}
use Rattle.be_looper.specs.StandsFor.{LooperStandsFor}

abbrev pub OpensAsLooper : Type 0
OpensAsLooper = LooperStandsFor free_looper free empty_buffer

-- who owns it is who has the machine's
abbrev pub OwnedAsLooper : Type 0
OwnedAsLooper =
    (l : Looper) (h : Holding) (b : Buffer) → LooperStandsFor l h b →
    ((l.owner ≡ owners.Free) ↔ (h ≡ free)) × ((m : ℕ) → (l.owner ≡ owners.App m) ↔ (h ≡ locked m))
    × ((l.hand ≡ None) ↔ (hand_in h ≡ None))

abbrev pub LocksAsLooper : Type 0
LocksAsLooper =
    (l : Looper) (b : Buffer) → LooperStandsFor l free b → (m : ℕ)
    → LooperStandsFor (locked_by m l) (locked m) b

-- at an unlock and at the end of a message
abbrev pub FreesAsLooper : Type 0
FreesAsLooper =
    (l : Looper) (h : Holding) (b : Buffer) → LooperStandsFor l h b
    → LooperStandsFor (freed l) free b

-- the letter is the machine's, and its message is begun
abbrev pub BeginsAsLooper : Type 0
BeginsAsLooper =
    (l : Looper) (b : Buffer) → LooperStandsFor l free b →
    (letter : held.Letter) (m : port.Letter Message) → LetterStandsFor letter m → (route : Route) →
    LooperStandsFor (with_hand letter m.body route l) (handling (in_hand m route)) b

-- what is read of the hand: the message, its route, its hop, and what is left of its duty
abbrev pub HandlesAsLooper : Type 0
HandlesAsLooper =
    (l : Looper) (hand : Hand Message) (b : Buffer) → LooperStandsFor l (handling hand) b →
    (option_map (λ handled. handled.message) l.hand ≡ Some hand.letter.body)
    × (option_map (λ handled. handled.route) l.hand ≡ Some hand.route)
    × (option_map (λ handled. handled.letter.hop) l.hand ≡ Some hand.letter.hop)
    × (duty_of l ≡ Some hand.duty)

-- a reply is answered as the duty says, and reaches who waits
abbrev pub RepliesAsLooper : Type 0
RepliesAsLooper =
    (l : Looper) (hand : Hand Message) (b : Buffer) → LooperStandsFor l (handling hand) b →
    (replied (duty_of l) ≡ reply_result (reply_answer hand.duty))
    × IfOk (replied (duty_of l)) (λ m. waiter hand.duty ≡ Some m)
    × IfErr (replied (duty_of l)) (λ fault. waiter hand.duty ≡ None)

-- at a reply and at a forward
abbrev pub DutiesAsLooper : Type 0
DutiesAsLooper =
    (l : Looper) (h : Holding) (b : Buffer) → LooperStandsFor l h b → (f : Duty → Duty) →
    LooperStandsFor (with_duty f l) (with_duty_by f h) b

abbrev pub BuffersAsLooper : Type 0
BuffersAsLooper =
    (l : Looper) (h : Holding) (b : Buffer) → LooperStandsFor l h b → (new : Buffer) →
    LooperStandsFor (record l { buffer = new }) h new
