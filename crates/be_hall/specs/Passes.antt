-- What the type of a pass keeps between calls, and what the calls promise.
use Rattle.std.specs.Prelude.{◌≡◌, ℕ, ◌+◌, List, [], ◌∷◌, ◌++◌, map, length, Option, None}
use Rattle.be_hall.specs.declared.view.About.{About}
use Rattle.be_hall.specs.declared.view.Key.{Key}
use Rattle.be_hall.specs.declared.view.Mark.{Mark}
use Rattle.be_hall.specs.declared.view.View.{View}
use Rattle.be_hall.specs.Hands.{places_of, meant}
use Rattle.be_hall.specs.Machine.{Machine, Fits, leads}
use Rattle.be_hall.specs.Views.{mark, commit}
use Rattle.be_hall.specs.History.{Suits}
use Rattle.atomic_table.specs.Seated.{TableId}
use Rattle.atomic_table.specs.declared.shared.Seat.{Seat}

-- with what a hall was opened
abbrev pub about_of : {P T M : Type 0} → (T → M) → Key P T → About P M
about_of meaning k =
    record { rules = k.rules.value; opening = map meaning k.opening.value.items; limit = k.limit }

-- the marks of a pass that has these parts in hand
abbrev pub marks_of : {T M E : Type 0} → (T → M) → (T → List (ℕ × E)) → List (ℕ × T)
    → List (Mark M E)
marks_of meaning log held = map (λ x. mark x.0 (meaning x.1) (log x.1)) held

-- its slots, of which the last one comes first, are empty
abbrev pub emptied : {T : Type 0} → List ℕ → List (ℕ × Option T)
emptied [] = []
emptied (p ∷ ps) = emptied ps ++ (p, None) ∷ []

-- the seat is one of this table, which was made with this key
abbrev pub IsOf : {P T M E : Type 0} → (T → M) → TableId → Key P T → Seat (Option T) (View P M E)
    → Type 0
IsOf meaning z k seat = (seat.table_id ≡ z) × (seat.me.0.about ≡ about_of meaning k ∷ [])

module _ {P T M E : Type 0} (machine : P → Machine M E) (meaning : T → M) (a : About P M) where
  -- one history suits the pass, and gives these parts
  abbrev pub Gives : View P M E → List (ℕ × T) → Type 0
  Gives v held =
      (h : List E) × Suits machine h v a
      × (machine a.rules).sound (leads (machine a.rules) a.opening h)
      × Fits (leads (machine a.rules) a.opening h) (meant meaning held)

  -- A commit of the entry e, which gets the number n, by a pass that knew v and had these parts in
  -- hand, and then knows w. One history before it suits the pass and gives these parts, and those
  -- that are in hand after it are those after the entry.
  pub record Makes (v : View P M E) (held : List (ℕ × T)) (n : ℕ) (e : E) (w : View P M E)
      (held' : List (ℕ × T)) : Type 0 where
    pub history : List E
    pub number : length history + 1 ≡ n
    pub suits : Suits machine history v a
    pub sound : (machine a.rules).sound (leads (machine a.rules) a.opening history)
    pub before : Fits (leads (machine a.rules) a.opening history) (meant meaning held)
    pub after : Fits ((machine a.rules).after (leads (machine a.rules) a.opening history) e)
        (meant meaning held')
    pub same_places : places_of held' ≡ places_of held
    pub suits_after : Suits machine (history ++ e ∷ []) w a
    pub seen : w.seen ≡ n
    pub own : w.own ≡ v.own ++ commit n e (meant meaning held) ∷ []
    pub ended : w.ended ≡ v.ended
    pub missed : w.missed ≡ v.missed
    pub had : w.had ≡ v.had
    pub met : w.met ≡ v.met
    pub branches : w.branches ≡ v.branches
    pub raised : w.raised ≡ v.raised
    pub knows : w.knows ≡ v.knows
    pub quiet : w.quiet ≡ v.quiet

-- the view knows what it knew, but for the places that it marks, had and missed
pub record IsAlike {P M E : Type 0} (v w : View P M E) : Type 0 where
  pub about : w.about ≡ v.about
  pub seen : w.seen ≡ v.seen
  pub own : w.own ≡ v.own
  pub ended : w.ended ≡ v.ended
  pub met : w.met ≡ v.met
  pub branches : w.branches ≡ v.branches
  pub raised : w.raised ≡ v.raised
  pub knows : w.knows ≡ v.knows
  pub quiet : w.quiet ≡ v.quiet
