-- Counters in hand: what they tell of a step, and what a step does to them.
use Rattle.std.specs.Prelude.{◌≡◌, ℕ, ◌+◌, ◌<◌, Bool, true, nat_lt, List, [], ◌∷◌, ◌++◌, Option}
use Rattle.std.specs.Prelude.{Some, option_map}
use Rattle.be_hall.specs.Hands.{part_at, with_part}
use Rattle.be_hall.specs.Machine.{Fits, IsHeld, IsReady}
use Rattle.small_world.specs.declared.step.Count.{Count}
use Rattle.small_world.specs.declared.step.Step.{Step}
use Rattle.small_world.specs.declared.step.Step.TheVariants.{Give, Use, Close}
use Rattle.small_world.specs.declared.counter.Counter.{Counter}
use Rattle.small_world.specs.declared.judging.Prospect.{Prospect}
use Rattle.small_world.specs.declared.judging.Prospect.TheVariants.{May, MayNot, Needs}
use Rattle.small_world.specs.declared.world.World.{World}
use Rattle.small_world.specs.Counting.{closing_place, target_of, work_of, may, Touches, IsSound}
use Rattle.small_world.specs.Counting.{passing, acted, got}
use Rattle.small_world.specs.Counters.{count_of, log_of, spare_of}

-- whether the activity has work, where its counter is in hand
abbrev pub told_work : World → List (ℕ × Counter) → ℕ → Option Bool
told_work w held activity =
    option_map (λ x. nat_lt 0 (work_of w activity (count_of x))) (part_at held activity)

-- what is so of a step in every sound list that has the counters in hand
abbrev pub Judges : World → List (ℕ × Count) → Step → Prospect → Type 0
Judges w held step May = IsReady (passing w) held step
Judges w held step MayNot =
    (all : List Count) → IsSound w all → Fits all held → may w all step ≡ true → ⊥
Judges w held step (Needs place) =
    (IsHeld held place → ⊥)
    × (place < closing_place w + 1)
    × ((all : List Count) → IsSound w all → Fits all held → Touches w all step place)

-- the counter at this place is in hand, and there is room in its log
abbrev pub CanAct : List (ℕ × Counter) → ℕ → Type 0
CanAct held place = (x : Counter) × (part_at held place ≡ Some x) × (0 < spare_of x)

-- it has made the step
abbrev pub Acts : ℕ → Step → ℕ → List (ℕ × Counter) → List (ℕ × Counter) → Type 0
Acts place step number old new =
    (x : Counter) × (y : Counter)
    × (part_at old place ≡ Some x) × (new ≡ with_part old place y)
    × (count_of y ≡ acted step (count_of x)) × (log_of y ≡ log_of x ++ (number, step) ∷ [])

-- it is in hand, and one unit more is a number of 64 bits
abbrev pub CanReceive : List (ℕ × Counter) → ℕ → Type 0
CanReceive held place =
    (x : Counter) × (part_at held place ≡ Some x)
    × ((count_of x).units + 1 < 18446744073709551616)

-- it has been given a unit
abbrev pub Receives : ℕ → List (ℕ × Counter) → List (ℕ × Counter) → Type 0
Receives place old new =
    (x : Counter) × (y : Counter)
    × (part_at old place ≡ Some x) × (new ≡ with_part old place y)
    × (count_of y ≡ got (count_of x)) × (log_of y ≡ log_of x)

-- the one to whom the step gives can receive; the other steps give to nobody
abbrev pub CanHandOver : World → Step → List (ℕ × Counter) → Type 0
CanHandOver w (Give producer) held = CanReceive held (target_of w producer)
CanHandOver w (Use consumer) held = Unit {0}
CanHandOver w Close held = Unit {0}

abbrev pub HandsOver : World → Step → List (ℕ × Counter) → List (ℕ × Counter) → Type 0
HandsOver w (Give producer) old new = Receives (target_of w producer) old new
HandsOver w (Use consumer) old new = new ≡ old
HandsOver w Close old new = new ≡ old
