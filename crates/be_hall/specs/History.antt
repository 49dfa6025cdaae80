-- One history of all passes, and what a pass knows of it.
use Rattle.std.specs.Prelude.{◌≡◌, ℕ, ◌+◌, ◌<◌, ◌≤◌, List, [], ◌∷◌, ◌++◌, length}
use Rattle.be_hall.specs.declared.view.View.{View}
use Rattle.be_hall.specs.declared.view.Commit.{Commit}
use Rattle.be_hall.specs.declared.view.About.{About}
use Rattle.be_hall.specs.Machine.{Machine, Fits, leads, Legal}

module _ {M E : Type 0} where
  -- the commit is the entry of its number, and what it was made from is what the entries before it
  -- give
  abbrev pub Stands : Machine M E → List M → List E → Commit M E → Type 0
  Stands x o h c =
      (front : List E) × (back : List E) × (h ≡ front ++ c.entry ∷ back)
      × (c.number ≡ length front + 1) × Fits (leads x o front) c.before

  abbrev pub AllStand : Machine M E → List M → List E → List (Commit M E) → Type 0
  AllStand x o h [] = Unit {0}
  AllStand x o h (c ∷ cs) = Stands x o h c × AllStand x o h cs

  abbrev pub EachStand : Machine M E → List M → List E → List (List (Commit M E)) → Type 0
  EachStand x o h [] = Unit {0}
  EachStand x o h (cs ∷ ls) = AllStand x o h cs × EachStand x o h ls

  -- each number is above the one before it, and all are above low
  abbrev pub RisesOver : ℕ → List (Commit M E) → Type 0
  RisesOver low [] = Unit {0}
  RisesOver low (c ∷ cs) = (low < c.number) × RisesOver c.number cs

  abbrev pub EachRises : List (List (Commit M E)) → Type 0
  EachRises [] = Unit {0}
  EachRises (cs ∷ ls) = RisesOver 0 cs × EachRises ls

module _ {P M E : Type 0} where
  -- what the rule says of a view, beside the marks
  abbrev pub Knows : Machine M E → List M → List E → View P M E → Type 0
  Knows x o h v =
      (v.seen ≤ length h) × AllStand x o h v.own × EachStand x o h v.ended × RisesOver 0 v.own
      × EachRises v.ended

  module _ (machine : P → Machine M E) where
    -- the list suits the pass
    abbrev pub Suits : List E → View P M E → About P M → Type 0
    Suits h v a =
        Legal (machine a.rules) a.opening h × (v.seen ≤ length h)
        × AllStand (machine a.rules) a.opening h v.own
        × EachStand (machine a.rules) a.opening h v.ended
