-- What each step tells the pass that makes it.
use Rattle.std.specs.Prelude.{◌≡◌, ◌≢◌, ℕ, ◌+◌, ◌-◌, ◌/◌, ◌<◌, ◌≤◌, ◌⊎◌, List, [], ◌∷◌, map, length}
use Rattle.std.specs.Prelude.{Option, Some, false}
use mathlib.Core.Option.{some}
use lib.ListN.{get_elem?}
use Rattle.atomic_table.specs.Table.{Me, Step, rest}
use Rattle.be_hall.specs.declared.view.View.{View}
use Rattle.be_hall.specs.declared.view.Mark.{Mark}
use Rattle.be_hall.specs.declared.view.About.{About}
use Rattle.be_hall.specs.Numbers.{once, total}
use Rattle.be_hall.specs.Machine.{Machine, Fits, AllFit, leads}
use Rattle.be_hall.specs.Views.{mark, known, logs_of, counted, marking, missing, letting_go}
use Rattle.be_hall.specs.Views.{committing, raising, hearing, unheard}
use Rattle.be_hall.specs.Logs.{logged, InHistory, appended}
use Rattle.be_hall.specs.History.{RisesOver, EachRises, Suits}
use Rattle.be_hall.specs.Misses.{IsAlone}

module _ {P M E : Type 0} where
  -- The place is marked where its lock word was 0, and else missed. It isn't missed by a pass that
  -- is alone.
  abbrev pub tries : {T : Type 0} → (T → M) → (T → List (ℕ × E)) → Step (Option T)
      → Me (Option T) (View P M E) → ℕ → Me (Option T) (View P M E) → Type 0
  tries {T} meaning log st m r m' =
      (r ≡ 0 → (x : T) × (m'.1 ≡ ((st.word - 16) / 8, Some x) ∷ m.1)
      × (m'.0 ≡ marking m.0 (mark ((st.word - 16) / 8) (meaning x) (log x))))
      × (r ≢ 0 → (m'.1 ≡ m.1) × (m'.0 ≡ missing m.0 ((st.word - 16) / 8)) × (IsAlone m.0 → ⊥))

  -- the place that was marked last goes back
  abbrev pub lets_go : {T : Type 0} → Step (Option T) → Me (Option T) (View P M E) → ℕ
      → Me (Option T) (View P M E) → Type 0
  lets_go st m r m' = (m'.1 ≡ rest m.1) × (m'.0 ≡ letting_go m.0)

  abbrev pub raises : {T : Type 0} → Step (Option T) → Me (Option T) (View P M E) → ℕ
      → Me (Option T) (View P M E) → Type 0
  raises st m r m' = (m'.1 ≡ m.1) × (m'.0 ≡ raising m.0)

  abbrev pub asks : {T : Type 0} → Step (Option T) → Me (Option T) (View P M E) → ℕ
      → Me (Option T) (View P M E) → Type 0
  asks st m r m' =
      (m'.1 ≡ m.1) × (((r ≡ 1) × (m'.0 ≡ hearing m.0))
      ⊎ ((r ≡ 0) × (m.0.knows ≡ false) × (m.0.raised ≡ false) × (m'.0 ≡ unheard m.0)))

  module _ (machine : P → Machine M E) where
    -- some logs, one for each place, have these at their places, and each entry of the history
    -- stands in one of them
    abbrev pub Logged : ℕ → List E → List (ℕ × List (ℕ × E)) → Type 0
    Logged slots h some_logs =
        (logs : List (List (ℕ × E))) × (length logs ≡ slots) × Fits logs some_logs
        × ((p : ℕ) (l : List (ℕ × E)) → get_elem? logs p ≡ some l → InHistory h l)
        × ((n : ℕ) → total (logged n) logs ≡ once (length h) n)

    -- one history of r entries suits the pass, and gives the parts that it has marked
    pub record Sees (slots : ℕ) (a : About P M) (r : ℕ) (v : View P M E) : Type 0 where
      pub history : List E
      pub count : length history ≡ r
      pub small : r ≤ 4611686018427387904
      pub suits : Suits machine history v a
      pub sound : (machine a.rules).sound (leads (machine a.rules) a.opening history)
      pub long : length (leads (machine a.rules) a.opening history) ≡ slots
      pub gives : Fits (leads (machine a.rules) a.opening history) (known v.marks)
      pub fit : AllFit (machine a.rules).fits r (leads (machine a.rules) a.opening history)
      pub rises : RisesOver 0 v.own × EachRises v.ended
      pub no_more : (n : ℕ) → counted n v ≤ once r n
      pub logged_once : Logged slots history (logs_of v.marks)

    -- a look at the clock changes nothing
    abbrev pub looks : {T : Type 0} → Step (Option T) → Me (Option T) (View P M E) → ℕ
        → Me (Option T) (View P M E) → Type 0
    looks st m r m' = (m' ≡ m) × ((a : About P M) → m.0.about ≡ a ∷ [] → Sees st.slots a r m.0)

    -- a look at another word changes nothing either, and tells as much, but not how many entries
    -- there are
    abbrev pub glances : {T : Type 0} → Step (Option T) → Me (Option T) (View P M E) → ℕ
        → Me (Option T) (View P M E) → Type 0
    glances st m r m' =
        (m' ≡ m) × ((a : About P M) → m.0.about ≡ a ∷ [] → (n : ℕ) × Sees st.slots a n m.0)

    -- after an entry of number r + 1: the marked parts are those after it
    pub record Committed (slots : ℕ) (a : About P M) (e : E) (r : ℕ) (v w : View P M E) : Type 0
      where
        pub sees : Sees slots a r v
        pub below : r < 4611686018427387904
        pub marks : List (Mark M E)
        pub is : w ≡ committing v (r + 1) e marks
        pub places : map (λ y. y.place) marks ≡ map (λ y. y.place) v.marks
        pub gives : Fits ((machine a.rules).after (leads (machine a.rules) a.opening sees.history)
            e)
            (known marks)
        pub logs : logs_of marks ≡ appended ((machine a.rules).keeper e) (r + 1, e)
            (logs_of v.marks)

    abbrev pub commits : {T : Type 0} → List E → Step (Option T) → Me (Option T) (View P M E) → ℕ
        → Me (Option T) (View P M E) → Type 0
    commits es st m r m' =
        (a : About P M) (e : E) → m.0.about ≡ a ∷ [] → es ≡ e ∷ []
        → (m'.1 ≡ m.1) × Committed st.slots a e r m.0 m'.0
