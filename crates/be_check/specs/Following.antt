-- The parts of a run that is followed entry by entry.
use Rattle.std.specs.Prelude.{◌≡◌, ℕ, ◌+◌, ◌≤◌, List, map, length}
use Rattle.be_hall.specs.Hands.{meant, places_of, up_from}
use Rattle.be_hall.specs.Machine.{HeldFit}
use Rattle.be_hall.specs.Numbers.{total}
use Rattle.be_machine.specs.State.{State}
use Rattle.be_parts.specs.Parts.{log_of, meaning_of}
use Rattle.be_parts.specs.declared.part.Part.{Part}
use Rattle.be_rules.specs.Rules.{IsSound, SliceFits}
use Rattle.be_rules.specs.Shares.{share}
use Rattle.be_rules.specs.Slices.{Slice, all_parts, state_of}
use Rattle.be_script.specs.Script.{Declared}
use Rattle.be_serial.specs.Running.{EachBefore}

-- what all parts mean, by place
abbrev pub now_of : List (ℕ × Part) → List Slice
now_of parts = map (λ x. meaning_of x.1) parts

-- the state for which they stand
abbrev pub state_in : Declared → List (ℕ × Part) → State
state_in d parts = state_of d (now_of parts)

-- all parts are in hand, and are those that a legal history of n entries leaves
pub record Follows (d : Declared) (parts : List (ℕ × Part)) (n : ℕ) : Type 0 where
  pub sound : IsSound d (now_of parts)
  pub places : places_of parts ≡ up_from 0 (length (all_parts d))
  pub fits : HeldFit SliceFits n (meant meaning_of parts)
  -- the numbers of the entries that may still follow are none too great
  pub room : n + total (share d) (now_of parts) ≤ 4611686018427387904
  pub logs : EachBefore (n + 1) (meant log_of parts)

-- the parts mean the same, and their logs are the same
pub record SameHand (old new : List (ℕ × Part)) : Type 0 where
  pub means : meant meaning_of new ≡ meant meaning_of old
  pub logs : meant log_of new ≡ meant log_of old
