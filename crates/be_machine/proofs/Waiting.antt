-- Who waits: for each application that waits, and has no reply yet, one letter on its way or in a hand owes it one.
use Rattle.std.proofs.Common.{◌≡◌, ℕ, ◌+◌, ◌≤◌, Bool, true, false, List, [], ◌∷◌, length, Option, Some, None}
use Rattle.std.specs.Prelude.{slice_get, ◌==◌, not}
use Rattle.be_actor.specs.declared.Instruction.{Instruction}
use Rattle.be_actor.specs.declared.Instruction.TheVariants.{Note, Post, Send, Reply, Forward, Lock, Unlock, Flush, Sync, Draw}
use Rattle.be_actor.specs.declared.Place.{Place}
use Rattle.be_message.specs.Messages.{Message}
use Rattle.be_port.specs.declared.Duty.{Duty}
use Rattle.be_port.specs.declared.Duty.TheVariants.{Free, Owed, Done}
use Rattle.be_port.specs.Ports.{Letter, Port, queue_of}
use Rattle.be_reply.specs.Cells as reply
use Rattle.be_script.specs.Script.{Declared}
use Rattle.be_machine.specs.Program.{app_program}
use Rattle.be_machine.specs.State.{State, Looper, free, locked, handling, App}
use Rattle.be_machine.proofs.Lists.{AtPlace}

-- ---- how much is owed

-- a number for each element, and all of them together
abbrev pub total : {X : Type 0} → (X → ℕ) → List X → ℕ
total f [] = 0
total f (x ∷ xs) = f x + total f xs

abbrev pub one_where : Bool → ℕ
one_where true = 1
one_where false = 0

-- 1 where this duty is owed to application m
abbrev pub owes : ℕ → Duty → ℕ
owes m (Owed n) = one_where (m == n)
owes m Done = 0
owes m Free = 0

abbrev pub owed_by_letter : ℕ → Letter Message → ℕ
owed_by_letter m letter = owes m letter.duty

-- by the letters that wait in a port
abbrev pub owed_by_port : ℕ → Port Message → ℕ
owed_by_port m p = total (owed_by_letter m) (queue_of p)

-- by the letter in a hand
abbrev pub owed_by_looper : ℕ → Looper → ℕ
owed_by_looper m (handling hand stage) = owes m hand.duty
owed_by_looper m (locked n) = 0
owed_by_looper m free = 0

-- by all letters of these ports, and all hands of these loopers
abbrev pub owed_in : List (Port Message) → List Looper → ℕ → ℕ
owed_in ports loopers m = total (owed_by_port m) ports + total (owed_by_looper m) loopers

-- 1 where a reply is still to come
abbrev pub due_in : reply.Cell → ℕ
due_in reply.waiting = 1
due_in (reply.replied message) = 0
due_in reply.idle = 0

abbrev pub due_to : Option App → ℕ
due_to (Some a) = due_in a.cell
due_to None = 0

-- ---- who waits

-- the application waits, or has a reply that it didn't claim yet
abbrev pub is_busy : reply.Cell → Bool
is_busy reply.waiting = true
is_busy (reply.replied message) = true
is_busy reply.idle = false

-- the second part of a Send claims the reply
abbrev pub claims : Option Instruction → ℕ → Bool
claims (Some (Send w target draft)) part = not (part == 0)
claims (Some (Note word)) part = false
claims (Some (Post w target draft)) part = false
claims (Some (Reply draft)) part = false
claims (Some (Forward w target)) part = false
claims (Some (Lock w)) part = false
claims (Some Unlock) part = false
claims (Some Flush) part = false
claims (Some Sync) part = false
claims (Some (Draw c)) part = false
claims None part = false

-- at a place of a program
abbrev pub claims_at : List Instruction → Place → Bool
claims_at program place = claims (slice_get program place.step) place.part

-- an application is busy exactly at the second part of a Send
abbrev pub IsBusyByPlace : Declared → ℕ → App → Type 0
IsBusyByPlace d m a = is_busy a.cell ≡ claims_at (app_program d m) a.place

-- no more letters were taken than arrived
abbrev pub IsTakenInTime : Port Message → Type 0
IsTakenInTime p = p.taken ≤ length p.arrived

-- ports, loopers and applications that wait for one another
pub record Waits (d : Declared) (ports : List (Port Message)) (loopers : List Looper) (apps : List App) : Type 0 where
  pub busy : (m : ℕ) → AtPlace (IsBusyByPlace d m) apps m
  pub taken : (w : ℕ) → AtPlace IsTakenInTime ports w
  pub owed : (m : ℕ) → owed_in ports loopers m ≡ due_to (slice_get apps m)

abbrev pub IsWaiting : Declared → State → Type 0
IsWaiting d s = Waits d s.ports s.loopers s.apps
