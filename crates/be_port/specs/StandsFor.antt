-- What a port stands for: the machine's port of messages, in which all letters that ever arrived
-- are kept.
use Rattle.std.specs.Prelude.{◌≡◌, ◌+◌, ◌≤◌, length, map}
use Rattle.std.specs.List.{AllZip, range_with_len}
use Rattle.be_flat.specs.Grammar.{Spells}
use Rattle.be_message.specs.Messages.{Message}
use Rattle.be_port.specs.declared.letter.Letter as held
use Rattle.be_port.specs.Ports as port
use Rattle.be_port.specs.Queues.{Queue}

-- a letter that carries the machine's message, flattened; the number and the notice are the port's
-- to set
pub record Carries (l : held.Letter) (m : port.Letter Message) : Type 0 where
  pub sender : l.sender ≡ m.sender
  pub target : l.target ≡ m.target
  pub hop : l.hop ≡ m.hop
  pub duty : l.duty ≡ m.duty
  pub body : Spells l.bytes m.body

-- a letter that waits, and the machine's
pub record LetterStandsFor (l : held.Letter) (m : port.Letter Message) : Type 0 where
  pub carried : Carries l m
  pub notice : l.notice ≡ m.notice

-- the letters that wait are those that arrived and were not taken, and have the numbers of their
-- arrival
pub record PortStandsFor (q : Queue) (p : port.Port Message) : Type 0 where
  pub letters : AllZip LetterStandsFor q.letters (port.queue_of p)
  pub numbers : map (λ l. l.number) q.letters ≡ range_with_len (p.taken + 1) (length q.letters)
  pub last : q.last ≡ length p.arrived
  pub taken : p.taken ≤ length p.arrived
  pub capacity : q.capacity ≡ p.capacity
  pub closed : q.closed ≡ p.closed
