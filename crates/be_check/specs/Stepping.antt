-- The parts in hand, and what becomes of them where an entry is tried.
use Rattle.std.specs.Prelude.{◌≡◌, ℕ, ◌+◌, Bool, true, false, List, length, map}
use Rattle.be_hall.specs.Hands.{places_of, up_from}
use Rattle.be_machine.specs.Legal.{IsLegal}
use Rattle.be_machine.specs.Step.{step}
use Rattle.be_machine.specs.declared.Entry.{Entry}
use Rattle.be_check.specs.Following.{Follows, now_of, state_in}
use Rattle.be_noted.specs.Noting.{noted_of}
use Rattle.be_noting.specs.Noting.{Noted}
use Rattle.be_parts.specs.declared.part.Part.{Part}
use Rattle.be_rules.specs.Rules.{IsSound}
use Rattle.be_rules.specs.Slices.{Slice, all_parts}
use Rattle.be_script.specs.Script.{Declared}
use Rattle.be_jotted.specs.Jotting.{noted_machine}

-- all parts are in hand, as some legal history leaves them
pub record HasAll (d : Declared) (parts : List (ℕ × Part)) : Type 0 where
  pub sound : IsSound d (now_of parts)
  pub places : places_of parts ≡ up_from 0 (length (all_parts d))

-- the entry is legal, and was made behind n others
pub record IsMade (d : Declared) (e : Entry) (n : ℕ) (old new : List (ℕ × Part)) : Type 0 where
  pub legal : IsLegal d (state_in d old) e
  pub follows : Follows d new (n + 1)
  pub state : state_in d new ≡ step d (state_in d old) e

-- what the parts mean with what was noted there, by place
abbrev pub noted_now : List (ℕ × Part) → List (Noted Slice ℕ)
noted_now parts = map (λ x. noted_of x.1) parts

-- and what its maker notes was kept
pub record IsMadeNoted (d : Declared) (e : Entry) (n : ℕ) (old new : List (ℕ × Part)) : Type 0 where
  pub made : IsMade d e n old new
  pub noted : noted_now new ≡ (noted_machine d).after (noted_now old) e

-- it was made where it is legal, and is said not to be where it isn't
abbrev pub IsTried : Declared → Entry → ℕ → List (ℕ × Part) → List (ℕ × Part) → Bool → Type 0
IsTried d e n old new true = IsMade d e n old new
IsTried d e n old new false = ¬ IsLegal d (state_in d old) e

-- the same with what is noted
abbrev pub IsTriedNoted : Declared → Entry → ℕ → List (ℕ × Part) → List (ℕ × Part) → Bool → Type 0
IsTriedNoted d e n old new true = IsMadeNoted d e n old new
IsTriedNoted d e n old new false = ¬ IsLegal d (state_in d old) e
