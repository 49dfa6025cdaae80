-- A port that stands for the machine's port answers as it does, and stands for it after each call.
use Rattle.std.specs.Prelude.{◌≡◌, ℕ, ◌+◌, true, false, length, Some, None, slice_get}
use Rattle.be_message.specs.Messages.{Message}
use Rattle.be_port.specs.declared.letter.Letter as held
use Rattle.be_port.specs.Answers.{accepted, notice_answer}
use Rattle.be_port.specs.Ports as port
use Rattle.be_port.specs.Queues.{Queue, empty_queue, answer, after_post, after_notice, after_take}
use Rattle.be_port.specs.Queues.{after_close}
use Rattle.be_port.specs.StandsFor.{Carries, LetterStandsFor, PortStandsFor}

abbrev pub OpensAsPort : Type 0
OpensAsPort = (capacity : ℕ) → PortStandsFor (empty_queue capacity) (port.empty_port capacity)

-- a post is answered alike
abbrev pub AnswersAsPort : Type 0
AnswersAsPort =
    (q : Queue) (p : port.Port Message) → PortStandsFor q p → (hop : ℕ)
    → answer q hop ≡ port.judged p hop

abbrev pub PostsAsPort : Type 0
PostsAsPort =
    (q : Queue) (p : port.Port Message) → PortStandsFor q p →
    (l : held.Letter) (m : port.Letter Message) → Carries l m → m.notice ≡ false →
    PortStandsFor (after_post l q) (port.posted m p)

-- a notice is the last letter of an open port in which none waits, and has the next number
abbrev pub NoticesAsPort : Type 0
NoticesAsPort =
    (q : Queue) (p : port.Port Message) → PortStandsFor q p →
    (l : held.Letter) (m : port.Letter Message) → Carries l m → m.notice ≡ true →
    p.closed ≡ false → port.has_notice p ≡ false →
    (notice_answer q ≡ accepted (length p.arrived + 1))
    × PortStandsFor (after_notice l q) (port.with_letter m p)

-- the letter that is taken is the machine's, and its number tells its arrival
abbrev pub TakesAsPort : Type 0
TakesAsPort =
    (q : Queue) (p : port.Port Message) → PortStandsFor q p → (l : held.Letter)
    → slice_get q.letters 0 ≡ Some l →
    (m : port.Letter Message) × (port.front p ≡ Some m) × LetterStandsFor l m
    × (l.number ≡ p.taken + 1)
    × PortStandsFor (after_take q) (port.without_front p)

-- where no letter is taken none waits
abbrev pub EmptyAsPort : Type 0
EmptyAsPort =
    (q : Queue) (p : port.Port Message) → PortStandsFor q p → slice_get q.letters 0 ≡ None →
    (port.front p ≡ None) × (length (port.queue_of p) ≡ 0)

abbrev pub ClosesAsPort : Type 0
ClosesAsPort =
    (q : Queue) (p : port.Port Message) → PortStandsFor q p
    → PortStandsFor (after_close q) (port.closed_port p)
