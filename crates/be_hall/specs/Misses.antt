-- Which places a pass may have missed, and which passes there are.
use Rattle.std.specs.Prelude.{◌≡◌, ◌≢◌, ◌⊎◌, ℕ, ◌+◌, ◌<◌, List, [], ◌∷◌, length}
use mathlib.Core.Option.{some}
use lib.ListN.{get_elem?}
use Rattle.be_hall.specs.declared.view.View.{View}
use Rattle.be_hall.specs.Branches.{deep, split_off}
use Rattle.be_hall.specs.Numbers.{total}
use Rattle.be_hall.specs.Views.{HasPlace}

abbrev pub IsNamed : List ℕ → ℕ → Type 0
IsNamed [] p = ⊥
IsNamed (q ∷ qs) p = (q ≡ p) ⊎ IsNamed qs p

module _ {P M E : Type 0} where
  -- another view than this one ever marked the place, or met it
  abbrev pub IsHadElsewhere : List (View P M E) → ℕ → ℕ → Type 0
  IsHadElsewhere views id p =
      (j : ℕ) × (w : View P M E) × (j ≢ id) × (get_elem? views j ≡ some w)
      × (IsNamed w.had p ⊎ IsNamed w.met p)

  -- A view names each place that it has marked among those that it ever had. One that it missed
  -- another pass had, which is there or was joined into it.
  pub record Misses (views : List (View P M E)) : Type 0 where
    pub had : (id : ℕ) (v : View P M E) → get_elem? views id ≡ some v → (p : ℕ) → HasPlace v.marks p
        → IsNamed v.had p
    pub missed : (id : ℕ) (v : View P M E) → get_elem? views id ≡ some v → (p : ℕ)
        → IsNamed v.missed p → IsNamed v.met p ⊎ IsHadElsewhere views id p

  -- One first pass, and as many of each depth as were split off those that lie a split less deep. A
  -- view that has marked a place stands for a pass.
  pub record Family (views : List (View P M E)) : Type 0 where
    pub first : total (λ v. deep 0 v.branches) views ≡ 1
    pub each : (d : ℕ) → total (λ v. deep (d + 1) v.branches) views
        ≡ total (λ v. split_off d v.branches) views
    pub real : (id : ℕ) (v : View P M E) → get_elem? views id ≡ some v → (p : ℕ)
        → HasPlace v.marks p → 0 < length v.branches

-- A view stands for all passes of its hall: all that were ever split off were joined into it.
abbrev pub IsAlone : {P M E : Type 0} → View P M E → Type 0
IsAlone v = (deep 0 v.branches ≡ 1) × ((d : ℕ) → deep (d + 1) v.branches ≡ split_off d v.branches)
