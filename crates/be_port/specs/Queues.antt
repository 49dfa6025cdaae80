-- What is kept of a port: the letters that wait, and the number of the last one that arrived.
use Rattle.std.specs.Prelude.{◌≡◌, ℕ, ◌+◌, ◌≤◌, Bool, true, false, not, List, [], ◌∷◌, ◌++◌, drop}
use Rattle.std.specs.Prelude.{length, filter, nat_le, if◌then◌else◌}
use Rattle.std.specs.List.{list_any}
use Rattle.be_port.specs.declared.letter.Letter as held
use Rattle.be_port.specs.declared.Posted.{Posted}
use Rattle.be_port.specs.declared.Posted.TheVariants.{Accepted, WouldBlock, BadPort, TooDeep}
use Rattle.be_port.specs.Ports.{is_accepted}

-- a port that forgets the letters that were taken
pub record Queue : Type 0 where
  -- the letters that wait, the first one in front
  pub letters : List held.Letter
  -- the number of the last letter that arrived; 0 before the first
  pub last : ℕ
  pub capacity : ℕ
  pub closed : Bool

-- no letter arrived
abbrev pub empty_queue : ℕ → Queue
empty_queue capacity = record { letters = []; last = 0; capacity = capacity; closed = false }

-- how many letters wait that are not notices
abbrev pub counted : Queue → ℕ
counted q = length (filter (λ letter. not letter.notice) q.letters)

-- a notice waits
abbrev pub holds_notice : Queue → Bool
holds_notice q = list_any (λ letter. letter.notice) q.letters

-- what holds of every port: 1 to 100 letters have room, and one notice beside them
pub record IsQueue (q : Queue) : Type 0 where
  pub some : 1 ≤ q.capacity
  pub within : q.capacity ≤ 100
  pub fits : counted q ≤ q.capacity
  pub one_notice : length q.letters ≡ counted q + (if holds_notice q then 1 else 0)

-- what a post of a letter of this hop is answered
abbrev pub answer : Queue → ℕ → Posted
answer q hop =
    if q.closed then BadPort
    else if nat_le 8 hop then TooDeep
    else if nat_le q.capacity (counted q) then WouldBlock (counted q)
    else Accepted (q.last + 1)

-- a letter more, the last, with its number; a notice or not
abbrev pub with_letter : Bool → held.Letter → Queue → Queue
with_letter notice letter q =
    record q {
      letters = q.letters ++ record letter { number = q.last + 1; notice = notice } ∷ [];
      last = q.last + 1;
    }

-- with the letter where it is accepted, as it was in each other case
abbrev pub after_post : held.Letter → Queue → Queue
after_post letter q = if is_accepted (answer q letter.hop) then with_letter false letter q else q

-- with the notice, unless the port is closed or a notice waits already
abbrev pub after_notice : held.Letter → Queue → Queue
after_notice letter q =
    if q.closed then q else if holds_notice q then q else with_letter true letter q

-- without the letter in front, if there is one
abbrev pub after_take : Queue → Queue
after_take q = record q { letters = drop 1 q.letters }

abbrev pub after_close : Queue → Queue
after_close q = record q { closed = true }
