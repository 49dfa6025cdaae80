-- Where a letter in a hand owes a reply, who waits for it is there and has none yet.
use Rattle.std.proofs.Common.{◌≡◌, ℕ, ◌≤◌, Option, Some, None, refl, ap, ◌∙◌, arith}
use Rattle.std.specs.Prelude.{slice_get}
use Rattle.be_facts.proofs.Numbers.{eq_self}
use Rattle.be_looper.specs.Duties.{Hand}
use Rattle.be_message.specs.Messages.{Message}
use Rattle.be_port.specs.declared.Duty.TheVariants.{Owed}
use Rattle.be_reply.specs.Cells as reply
use Rattle.be_script.specs.Script.{Declared}
use Rattle.be_machine.specs.State.{State, handling, Stage, App}
use Rattle.be_machine.proofs.Waiting.{total, one_where, owes, owed_by_looper, owed_in, due_to, IsWaiting}
use Rattle.be_machine.proofs.WaitingSums.{one_of_all}

-- the application waits
pub record WaitsForReply (s : State) (m : ℕ) : Type 0 where
  pub it : App
  pub read : slice_get s.apps m ≡ Some it
  pub waits : it.cell ≡ reply.waiting

due_by : (s : State) (m : ℕ) (a : App) (c : reply.Cell) → slice_get s.apps m ≡ Some a → a.cell ≡ c → due_to (slice_get s.apps m) ≡ 1 → WaitsForReply s m
due_by s m a reply.waiting read is e = record { it = a; read = read; waits = is }
due_by s m a (reply.replied message) read is e = let none : due_to (slice_get s.apps m) ≡ 0 = ap due_to read ∙ ap (λ c. due_to (Some (record a { cell = c }))) is in absurd (omega (arith, none, e))
due_by s m a reply.idle read is e = let none : due_to (slice_get s.apps m) ≡ 0 = ap due_to read ∙ ap (λ c. due_to (Some (record a { cell = c }))) is in absurd (omega (arith, none, e))

due_waits : (s : State) (m : ℕ) (o : Option App) → slice_get s.apps m ≡ o → due_to (slice_get s.apps m) ≡ 1 → WaitsForReply s m
due_waits s m (Some a) read e = due_by s m a a.cell read refl e
due_waits s m None read e = let none : due_to (slice_get s.apps m) ≡ 0 = ap due_to read in absurd (omega (arith, none, e))

most_due : (o : Option App) → due_to o ≤ 1
most_due (Some a) = most_in a.cell
  where
    most_in : (c : reply.Cell) → due_to (Some (record a { cell = c })) ≤ 1
    most_in reply.waiting = omega arith
    most_in (reply.replied m) = omega arith
    most_in reply.idle = omega arith
most_due None = omega arith

-- a reply and the end of a message find who waits
pub hand_waits : (d : Declared) (s : State) (w m : ℕ) (hand : Hand Message) (stage : Stage) → IsWaiting d s → slice_get s.loopers w ≡ Some (handling hand stage) → hand.duty ≡ Owed m → WaitsForReply s m
hand_waits d s w m hand stage h read duty =
    let here : owed_by_looper m (handling hand stage) ≤ total (owed_by_looper m) s.loopers = one_of_all (owed_by_looper m) s.loopers w (handling hand stage) read in
    let one : owed_by_looper m (handling hand stage) ≡ 1 = ap (owes m) duty ∙ ap one_where (eq_self m) in
    let owed : owed_in s.ports s.loopers m ≡ due_to (slice_get s.apps m) = h.owed m in
    let most : due_to (slice_get s.apps m) ≤ 1 = most_due (slice_get s.apps m) in
    due_waits s m (slice_get s.apps m) refl (omega (arith, here, one, owed, most))
