-- What clauses say of a hall and a pass.
use Rattle.std.specs.Prelude.{◌≡◌, ℕ, List}
use Rattle.be_hall.specs.declared.hall.Hall.{Hall}
use Rattle.be_hall.specs.declared.pass.Pass.{Pass}
use Rattle.be_hall.specs.declared.view.About.{About}
use Rattle.be_hall.specs.declared.view.View.{View}
use Rattle.be_hall.specs.Hands.{Hand}
use Rattle.be_hall.specs.Passes.{IsOf, about_of}

module _ {P T E R M : Type 0} {g : _} where
  -- what a pass knows
  abbrev pub view_of : Pass P T E R M g → View P M E
  view_of pass = pass.seat.me.0

  -- the parts in its hands, and for how many there is room
  abbrev pub hands_of : Pass P T E R M g → Hand T
  hands_of pass = pass.held

  -- the parts, each with its place
  abbrev pub in_hand : Pass P T E R M g → List (ℕ × T)
  in_hand pass = pass.held.parts

  -- the rules of a hall
  abbrev pub rules_of : Hall P T E R M g → P
  rules_of hall = hall.book.rules

  -- with what it was opened
  abbrev pub opened : (T → M) → Hall P T E R M g → About P M
  opened meaning hall = about_of meaning hall.table.shared.key

  -- the pass is one of the hall
  abbrev pub IsPassOf : (T → M) → Hall P T E R M g → Pass P T E R M g → Type 0
  IsPassOf meaning hall pass =
      IsOf meaning hall.table.shared.table_id hall.table.shared.key pass.seat

  -- the two passes know the same, and have the same in their hands
  abbrev pub IsSame : Pass P T E R M g → Pass P T E R M g → Type 0
  IsSame old new = (new.seat.me.0 ≡ old.seat.me.0) × (new.held ≡ old.held)
