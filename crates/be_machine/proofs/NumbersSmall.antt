-- Numbers stay small: letters, commands and events of a history.
use Rattle.std.proofs.Common.{◌≡◌, ℕ, ◌+◌, ◌*◌, ◌≤◌, List, [], ◌∷◌, length, replicate, zero, suc, Some, arith}
use Rattle.std.specs.Prelude.{slice_get, map}
use Rattle.std.proofs.lemmas.Option.{same_Some}
use Rattle.be_link.specs.Queues.{Buffer, empty_buffer}
use Rattle.be_message.specs.Messages.{Message}
use Rattle.be_port.specs.Ports.{Port, empty_port}
use Rattle.be_script.specs.Script.{Declared}
use Rattle.be_script.specs.declared.WindowLine.{WindowLine}
use Rattle.be_machine.specs.declared.Entry.{Entry}
use Rattle.be_machine.specs.History.{IsLegalHistory, state_from, state_after}
use Rattle.be_machine.specs.State.{State, opening_state}
use Rattle.be_machine.specs.Step.{step}
use Rattle.be_machine.proofs.Lists.{AtPlace}
use Rattle.be_machine.proofs.NumbersGrow.{Grows, Holds, Made}
use Rattle.be_machine.proofs.NumbersSteps.{grows_step}

pub record AreSmall (letters commands events : ℕ) (s : State) : Type 0 where
  pub arrived : (w : ℕ) → AtPlace (Holds letters) s.ports w
  pub made : (w : ℕ) → AtPlace (Made commands) s.buffers w
  pub used : s.events ≤ events

small_step : (i j k : ℕ) (d : Declared) (s : State) (e : Entry) → AreSmall i j k s → AreSmall (i + 2) (j + 1) (k + 1) (step d s e)
small_step i j k d s e h =
    let g : Grows 2 1 1 s (step d s e) = grows_step d s e in
    record {
      arrived = λ w. g.arrived w i (i + 2) (omega arith) (h.arrived w);
      made = λ w. g.made w j (j + 1) (omega arith) (h.made w);
      used = omega (arith, g.used, h.used);
    }

small_more : (i j k l m n : ℕ) (s : State) → i ≤ l → j ≤ m → k ≤ n → AreSmall i j k s → AreSmall l m n s
small_more i j k l m n s p q r h = record {
  arrived = λ w x e. omega (arith, h.arrived w x e);
  made = λ w x e. omega (arith, h.made w x e);
  used = omega (arith, h.used);
}

small_from : (i j k : ℕ) (d : Declared) (s : State) (h : List Entry) → AreSmall i j k s → AreSmall (i + 2 * length h) (j + length h) (k + length h) (state_from d s h)
unfolding state_from
small_from i j k d s [] small = small_more i j k _ _ _ s (omega arith) (omega arith) (omega arith) small
small_from i j k d s (e ∷ es) small =
    small_more _ _ _ _ _ _ (state_from d (step d s e) es) (omega arith) (omega arith) (omega arith)
    (small_from (i + 2) (j + 1) (k + 1) d (step d s e) es (small_step i j k d s e small))

opening_ports : (lines : List WindowLine) (w : ℕ) → AtPlace (Holds 0) (map (λ line. empty_port line.port) lines) w
opening_ports [] w p e = cc
opening_ports (line ∷ lines) zero p e = let same : empty_port line.port ≡ p = same_Some _ p e in rw (← same) (omega arith)
opening_ports (line ∷ lines) (suc w) p e = opening_ports lines w p e

opening_buffers : (n w : ℕ) → AtPlace (Made 0) (replicate n empty_buffer) w
opening_buffers zero w b e = cc
opening_buffers (suc n) zero b e = let same : empty_buffer ≡ b = same_Some _ b e in rw (← same) (omega arith)
opening_buffers (suc n) (suc w) b e = opening_buffers n w b e

small_opening : (d : Declared) → AreSmall 0 0 0 (opening_state d)
unfolding opening_state
small_opening d = record {
  arrived = opening_ports d.windows;
  made = opening_buffers (length d.windows);
  used = omega arith;
}

small_after : (d : Declared) (h : List Entry) → AreSmall (0 + 2 * length h) (0 + length h) (0 + length h) (state_after d h)
small_after d h = small_from 0 0 0 d (opening_state d) h (small_opening d)

pub letters_small : (d : Declared) (h : List Entry) (w : ℕ) (p : Port Message) → IsLegalHistory d h → slice_get (state_after d h).ports w ≡ Some p → length p.arrived ≤ 2 * length h
letters_small d h w p legal read = omega (arith, (small_after d h).arrived w p read)

pub commands_small : (d : Declared) (h : List Entry) (w : ℕ) (b : Buffer) → IsLegalHistory d h → slice_get (state_after d h).buffers w ≡ Some b → b.made ≤ length h
commands_small d h w b legal read = omega (arith, (small_after d h).made w b read)

pub events_small : (d : Declared) (h : List Entry) → IsLegalHistory d h → (state_after d h).events ≤ length h
events_small d h legal = omega (arith, (small_after d h).used)
