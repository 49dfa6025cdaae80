-- Counters that pass units to each other.
use Rattle.std.specs.Prelude.{◌≡◌, ◌≢◌, ℕ, ◌+◌, ◌-◌, ◌<◌, ◌≤◌, ◌⊎◌, List, length, slice_set}
use mathlib.Core.Option.{Option, none, some}
use lib.ListN.{get_elem?}
use Rattle.be_hall.specs.Machine.{Machine}
use Rattle.hall_counters.specs.declared.transfer.Count.{Count}
use Rattle.hall_counters.specs.declared.transfer.Transfer.{Transfer}

-- a counter that gave a unit may give one less
abbrev pub gave : Count → Count
gave c = record { units = c.units - 1; left = c.left - 1 }

abbrev pub got : Count → Count
got c = record { units = c.units + 1; left = c.left }

-- the counters after the transfer, where both are there
abbrev pub moved : List Count → Transfer → Option Count → Option Count → List Count
moved all e (some c) (some d) = slice_set (slice_set all e.source (gave c)) e.target (got d)
moved all e (some c) none = all
moved all e none (some d) = all
moved all e none none = all

-- A transfer is permitted where the counters are two, the one that gives has a unit, and may still
-- give.
abbrev pub counting : ℕ → Machine Count Transfer
counting places = record {
  places = places;
  sound = λ all. length all ≡ places;
  permits =
      λ all e. (e.source ≢ e.target) × (c : Count) × (d : Count) × (get_elem? all e.source ≡ some c)
      × (get_elem? all e.target ≡ some d) × (0 < c.units) × (0 < c.left);
  after = λ all e. moved all e (get_elem? all e.source) (get_elem? all e.target);
  touches = λ all e p. (p ≡ e.source) ⊎ (p ≡ e.target);
  budget = λ c. c.left;
  keeper = λ e. e.source;
  fits = λ n c. c.units ≤ 4611686018427387904 + n;
}
