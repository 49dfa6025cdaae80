-- Rules of parts that keep notes: what each part means today, and what was noted there.
use Rattle.std.specs.Prelude.{ℕ, zero, suc, ◌==◌, Bool, if◌then◌else◌, List, [], ◌∷◌, ◌++◌, map}
use Rattle.std.specs.Prelude.{Option}
use Rattle.be_hall.specs.Hands.{meant}
use Rattle.be_hall.specs.Machine.{Machine}

-- what a part means, and the notes that it keeps, oldest first
pub record Noted (M N : Type 0) : Type 0 where
  pub means : M
  pub notes : List N

module _ {M N : Type 0} where
  -- what the parts mean without their notes, by place
  abbrev pub meanings : List (Noted M N) → List M
  meanings all = map (λ y. y.means) all

  -- what each keeps
  abbrev pub all_notes : List (Noted M N) → List (List N)
  all_notes all = map (λ y. y.notes) all

  -- the same of parts in hand
  abbrev pub seen : List (ℕ × Noted M N) → List (ℕ × M)
  seen held = meant (λ y. y.means) held

  abbrev pub notes_in : List (ℕ × Noted M N) → List (ℕ × List N)
  notes_in held = meant (λ y. y.notes) held

  -- notes don't change what an activity may do, nor whether the last entry was made
  abbrev pub legal_of : {E : Type 0} → (List M → ℕ → Option E) → List (Noted M N) → ℕ → Option E
  legal_of legal all who = legal (meanings all) who

  abbrev pub closed_of : (List M → Bool) → List (Noted M N) → Bool
  closed_of closed all = closed (meanings all)

  -- these meanings, each with the notes of its place
  abbrev pub with_notes : List M → List (List N) → List (Noted M N)
  with_notes [] ls = []
  with_notes (m ∷ ms) [] = record { means = m; notes = [] } ∷ with_notes ms []
  with_notes (m ∷ ms) (l ∷ ls) = record { means = m; notes = l } ∷ with_notes ms ls

module _ {N : Type 0} where
  -- notes by place, with more behind those of the place k
  abbrev pub noted_at : ℕ → List N → List (List N) → List (List N)
  noted_at k more [] = []
  noted_at zero more (l ∷ ls) = (l ++ more) ∷ ls
  noted_at (suc k) more (l ∷ ls) = l ∷ noted_at k more ls

  -- the same of parts in hand
  abbrev pub noted_in : ℕ → List N → List (ℕ × List N) → List (ℕ × List N)
  noted_in k more [] = []
  noted_in k more (x ∷ xs) =
      (x.0, if x.0 == k then x.1 ++ more else x.1) ∷ noted_in k more xs

-- `told all e` is what is noted of the entry in the list before it
module _ {M N E : Type 0} (x : Machine M E) (told : List M → E → List N) where
  -- The same rules. The part that keeps an entry keeps what is noted of it too, behind its other
  -- notes.
  abbrev pub noting : Machine (Noted M N) E
  noting = record {
    places = x.places;
    sound = λ all. x.sound (meanings all);
    permits = λ all e. x.permits (meanings all) e;
    after = λ all e.
        with_notes (x.after (meanings all) e)
        (noted_at (x.keeper e) (told (meanings all) e) (all_notes all));
    touches = λ all e p. x.touches (meanings all) e p;
    budget = λ y. x.budget y.means;
    keeper = x.keeper;
    fits = λ n y. x.fits n y.means;
  }

  -- what a history notes at a place
  abbrev pub noted_from : ℕ → List M → List E → List N
  noted_from p now [] = []
  noted_from p now (e ∷ es) =
      (if p == x.keeper e then told now e else []) ++ noted_from p (x.after now e) es
