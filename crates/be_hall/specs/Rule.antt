-- The rule between any two steps. Word 0 is the clock, word 8 the stop word, and word 8 * p + 16
-- the lock of the place p: each eighth word is used, so that no two of them share a line of 64
-- bytes.
use Rattle.std.specs.Prelude.{◌≡◌, ℕ, ◌+◌, ◌*◌, ◌<◌, ◌≤◌, List, [], ◌∷◌, length, slice_index}
use Rattle.std.specs.Prelude.{Option, Some}
use mathlib.Core.Option.{none, some}
use mathlib.Core.Option as opt
use lib.ListN.{get_elem?}
use Rattle.atomic_table.specs.Table.{State}
use Rattle.be_hall.specs.declared.view.View.{View}
use Rattle.be_hall.specs.declared.view.Mark.{Mark}
use Rattle.be_hall.specs.declared.view.About.{About}
use Rattle.be_hall.specs.Numbers.{once, total}
use Rattle.be_hall.specs.Machine.{Machine, AllFit, leads, Legal}
use Rattle.be_hall.specs.Views.{Has, HasPlace, counted}
use Rattle.be_hall.specs.Logs.{logged, InHistory}
use Rattle.be_hall.specs.History.{Knows}
use Rattle.be_hall.specs.Misses.{Family, Misses}
use Rattle.be_hall.specs.Stop.{Stops}

module _ {M E : Type 0} where
  -- a marked place keeps what the history gives there, and its log
  abbrev pub Tied : List M → List (List (ℕ × E)) → Mark M E → Type 0
  Tied now logs y = (get_elem? now y.place ≡ some y.meaning) × (get_elem? logs y.place ≡ some y.log)

  -- so does the part at home
  abbrev pub AtHome : {T : Type 0} → (T → M) → (T → List (ℕ × E)) → List M → List (List (ℕ × E))
      → List (opt.Option (Option T)) → ℕ → Type 0
  AtHome {T} meaning log now logs homes p =
      (x : T) × (get_elem? homes p ≡ some (some (Some x))) × (get_elem? now p ≡ some (meaning x))
      × (get_elem? logs p ≡ some (log x))

-- the view with this number has the place marked
abbrev pub HoldsMark : {P M E : Type 0} → List (View P M E) → ℕ → ℕ → Type 0
HoldsMark {P} {M} {E} views id p =
    (v : View P M E) × (get_elem? views id ≡ some v) × HasPlace v.marks p

module _ {P M E T : Type 0} (machine : P → Machine M E) (meaning : T → M) (log : T → List (ℕ × E))
  where
    -- holders: by which view each place is marked
    pub record Kept (a : About P M) (s : State (Option T) (View P M E)) : Type 0 where
      pub history : List E
      pub holders : List (opt.Option ℕ)
      pub logs : List (List (ℕ × E))
      pub wide : length s.words ≡ 8 * length s.homes + 16
      pub long : length holders ≡ length s.homes
      pub all : length (leads (machine a.rules) a.opening history) ≡ length s.homes
      pub all_logs : length logs ≡ length s.homes
      -- a place that isn't marked: its lock word is 0, and its part is at home
      pub home : (p : ℕ) → get_elem? holders p ≡ some none
          → (slice_index s.words (8 * p + 16) ≡ 0)
          × AtHome meaning log (leads (machine a.rules) a.opening history) logs s.homes p
      -- a marked place: its lock word isn't 0, its slot is out, and the view that holds it has its
      -- mark
      pub out : (p id : ℕ) → get_elem? holders p ≡ some (some id)
          → (0 < slice_index s.words (8 * p + 16)) × (get_elem? s.homes p ≡ some none)
      pub held : (p id : ℕ) → get_elem? holders p ≡ some (some id) → HoldsMark s.views id p
      -- no other view has it marked, and the mark keeps what the history gives
      pub marked : (id : ℕ) (v : View P M E) → get_elem? s.views id ≡ some v → (y : Mark M E)
          → Has v.marks y → (get_elem? holders y.place ≡ some (some id))
          × Tied (leads (machine a.rules) a.opening history) logs y
      -- the clock counts the entries, of which each is one commit of one view
      pub clock : slice_index s.words 0 ≡ length history
      pub knows : (id : ℕ) (v : View P M E) → get_elem? s.views id ≡ some v
          → Knows (machine a.rules) a.opening history v
      pub each_once : (n : ℕ) → total (counted n) s.views ≡ once (length history) n
      pub bound : a.limit ≤ 4611686018427387904
      pub room : length history + total (machine a.rules).budget
          (leads (machine a.rules) a.opening history) ≤ a.limit
      pub fit : AllFit (machine a.rules).fits (length history)
          (leads (machine a.rules) a.opening history)
      -- each entry was permitted where it stands
      pub legal : Legal (machine a.rules) a.opening history
      pub sound : (machine a.rules).sound (leads (machine a.rules) a.opening history)
      -- each entry stands in one log
      pub in_logs : (p : ℕ) (l : List (ℕ × E)) → get_elem? logs p ≡ some l → InHistory history l
      pub in_one_log : (n : ℕ) → total (logged n) logs ≡ once (length history) n
      -- a place is missed only where another pass had it
      pub misses : Misses s.views
      -- which passes there are
      pub family : Family s.views
      pub stops : Stops (slice_index s.words 8) s.views
      -- what the hall is about
      pub about : (id : ℕ) (v : View P M E) (b : About P M) → get_elem? s.views id ≡ some v
          → v.about ≡ b ∷ [] → b ≡ a
