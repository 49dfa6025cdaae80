-- Who waits for whom, after every legal history.
use Rattle.std.proofs.Common.{◌≡◌, ℕ, zero, suc, List, [], ◌∷◌, length, map, replicate, Some, refl, sym, subst, arith}
use Rattle.std.specs.Prelude.{slice_get}
use Rattle.std.proofs.lemmas.Option.{same_Some}
use Rattle.be_port.specs.Ports.{empty_port}
use Rattle.be_script.specs.declared.WindowLine.{WindowLine}
use Rattle.be_script.specs.Limits.{IsWithinLimits}
use Rattle.be_script.specs.Script.{Declared}
use Rattle.be_machine.specs.declared.Entry.{Entry}
use Rattle.be_machine.specs.History.{AreLegalFrom, state_from, IsLegalHistory, state_after}
use Rattle.be_machine.specs.Program.{app_program}
use Rattle.be_machine.specs.State.{State, free, opening_app, opening_state}
use Rattle.be_machine.specs.Step.{step}
use Rattle.be_machine.proofs.Lists.{AtPlace}
use Rattle.be_machine.proofs.Waiting.{total, owed_by_port, owed_by_looper, due_to, IsBusyByPlace, IsTakenInTime, IsWaiting}
use Rattle.be_machine.proofs.WaitingApps.{claims_first}
use Rattle.be_machine.proofs.WaitingSteps.{waiting_step}

-- ---- the start

-- all elements are the same
pub repeated : {X : Type 0} (n i : ℕ) (x y : X) → slice_get (replicate n x) i ≡ Some y → x ≡ y
repeated zero i x y e = cc
repeated (suc n) zero x y e = same_Some x y e
repeated (suc n) (suc i) x y e = repeated n i x y e

total_repeated : {X : Type 0} (f : X → ℕ) (n : ℕ) (x : X) → f x ≡ 0 → total f (replicate n x) ≡ 0
total_repeated f zero x e = refl
total_repeated f (suc n) x e = let rest : total f (replicate n x) ≡ 0 = total_repeated f n x e in omega (arith, e, rest)

opening_ports : (m : ℕ) (lines : List WindowLine) → total (owed_by_port m) (map (λ (line : WindowLine). empty_port line.port) lines) ≡ 0
opening_ports m [] = refl
opening_ports m (line ∷ lines) = let rest : total (owed_by_port m) (map (λ (line : WindowLine). empty_port line.port) lines) ≡ 0 = opening_ports m lines in omega (arith, rest)

opening_taken : (lines : List WindowLine) (w : ℕ) → AtPlace IsTakenInTime (map (λ (line : WindowLine). empty_port line.port) lines) w
opening_taken [] w p read = cc
opening_taken (line ∷ lines) zero p read = subst IsTakenInTime (same_Some (empty_port line.port) p read) (omega arith)
opening_taken (line ∷ lines) (suc w) p read = opening_taken lines w p read

opening_due : (n m : ℕ) → due_to (slice_get (replicate n opening_app) m) ≡ 0
opening_due zero m = refl
opening_due (suc n) zero = refl
opening_due (suc n) (suc m) = opening_due n m

opening_busy : (d : Declared) (m : ℕ) → IsBusyByPlace d m opening_app
opening_busy d m = sym (claims_first (slice_get (app_program d m) 0))

pub opening_waiting : (d : Declared) → IsWaiting d (opening_state d)
unfolding opening_state
opening_waiting d = record {
  busy = λ m a read. subst (IsBusyByPlace d m) (repeated (length d.apps) m opening_app a read) (opening_busy d m);
  taken = opening_taken d.windows;
  owed = λ m.
      let ports : total (owed_by_port m) (map (λ (line : WindowLine). empty_port line.port) d.windows) ≡ 0 = opening_ports m d.windows in
      let hands : total (owed_by_looper m) (replicate (length d.windows) free) ≡ 0 = total_repeated (owed_by_looper m) (length d.windows) free refl in
      let due : due_to (slice_get (replicate (length d.apps) opening_app) m) ≡ 0 = opening_due (length d.apps) m in
      omega (arith, ports, hands, due);
}

-- ---- after a history

pub waiting_from : (d : Declared) (s : State) (h : List Entry) → IsWithinLimits d → AreLegalFrom d s h → IsWaiting d s → IsWaiting d (state_from d s h)
unfolding AreLegalFrom state_from
waiting_from d s [] limits legal waits = waits
waiting_from d s (e ∷ es) limits legal waits = waiting_from d (step d s e) es limits legal.1 (waiting_step d s e limits legal.0 waits)

-- For each application the letters in all ports and the hands that owe it a reply are one where it waits, and none where
-- it doesn't wait or has its reply (or isn't there). It doesn't wait but at the second part of a Send.
pub waiting_after : (d : Declared) (h : List Entry) → IsWithinLimits d → IsLegalHistory d h → IsWaiting d (state_after d h)
waiting_after d h limits legal = waiting_from d (opening_state d) h limits legal (opening_waiting d)
