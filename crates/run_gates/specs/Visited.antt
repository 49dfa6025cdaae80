-- The visits that gates count, and whom they hold.
use Rattle.std.specs.Prelude.{ℕ}
use Rattle.run_gates.specs.declared.visits.Visits.{Visits}
use Rattle.run_gates.specs.declared.before.HoldsBefore.{HoldsBefore}
use Rattle.run_gates.specs.declared.delays.DelaysBefore.{DelaysBefore}
use Rattle.run_gates.specs.declared.inside.HoldsInside.{HoldsInside}

abbrev pub before_visits : HoldsBefore → Visits
before_visits gate = gate.visits

abbrev pub inside_visits : HoldsInside → Visits
inside_visits gate = gate.visits

abbrev pub delayed_visits : DelaysBefore → Visits
delayed_visits gate = gate.visits

-- the two that are held
abbrev pub held_pair : HoldsInside → ℕ × ℕ
held_pair gate = gate.pair
