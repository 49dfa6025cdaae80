-- The stop word.
use Rattle.std.specs.Prelude.{◌≡◌, ℕ, ◌⊎◌, List, true}
use mathlib.Core.Option.{some}
use lib.ListN.{get_elem?}
use Rattle.be_hall.specs.declared.view.View.{View}

-- it is 1 exactly where a view has raised it, and where a view knows of it
pub record Stops {P M E : Type 0} (word : ℕ) (views : List (View P M E)) : Type 0 where
  pub bit : (word ≡ 0) ⊎ (word ≡ 1)
  pub told : (id : ℕ) (v : View P M E) → get_elem? views id ≡ some v
      → (v.raised ≡ true) ⊎ (v.knows ≡ true) → word ≡ 1
  pub raiser : word ≡ 1 → (id : ℕ) × (v : View P M E) × (get_elem? views id ≡ some v)
      × (v.raised ≡ true)
