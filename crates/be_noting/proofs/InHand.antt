-- Parts in hand tell the same with their notes and without.
use Rattle.std.proofs.Common.{◌≡◌, ℕ, List, [], ◌∷◌, Bool, Option, Some, None, refl, sym, ap, subst}
use Rattle.be_hall.specs.Answers.{Answers}
use Rattle.be_hall.specs.Hands.{meant}
use Rattle.be_hall.specs.Machine.{Machine, Fits, HeldFit, IsAskable, IsHeld, IsReady, SomeFits}
use Rattle.be_hall.specs.declared.parts.Verdict.{Verdict}
use Rattle.be_hall.specs.declared.parts.Verdict.TheVariants as verdict
use Rattle.be_turns.specs.Turning.{Tells, is_some}
use Rattle.be_turns.specs.declared.turns.Turn.{Turn}
use Rattle.be_turns.specs.declared.turns.Turn.TheVariants as turn
use Rattle.be_noting.specs.Noting.{Noted, meanings, all_notes, seen, notes_in, with_notes, noted_at, noted_in, legal_of, noting}
use Rattle.be_noting.proofs.NoteLists.{fits_map, held_fit, held_fit_back, held_map, held_map_back, meanings_with, noted_fits, with_fits}

-- ---- parts of the code in hand

-- what parts mean, read in two steps
pub meant_twice : {T A B : Type 0} (f : A → B) (meaning : T → A) (held : List (ℕ × T)) → meant f (meant meaning held) ≡ meant (λ t. f (meaning t)) held
meant_twice f meaning [] = refl
meant_twice f meaning (x ∷ xs) = ap (λ l. (x.0, f (meaning x.1)) ∷ l) (meant_twice f meaning xs)

module _ {M N E : Type 0} (x : Machine M E) (told : List M → E → List N) (held : List (ℕ × Noted M N)) where
  -- ---- without the notes

  pub fits_seen : (all : List (Noted M N)) → Fits all held → Fits (meanings all) (seen held)
  fits_seen all fits = fits_map (λ y. y.means) all held fits

  pub some_seen : SomeFits (noting x told) held → SomeFits x (seen held)
  some_seen some = (meanings some.0, some.1, fits_seen some.0 some.2)

  pub held_fit_seen : (n : ℕ) → HeldFit (noting x told).fits n held → HeldFit x.fits n (seen held)
  held_fit_seen n fit = held_fit (λ y. y.means) x.fits n held fit

  pub askable_seen : IsAskable (noting x told) held → IsAskable x (seen held)
  askable_seen ask = (some_seen ask.0, held_fit_seen 4611686018427387904 ask.1)

  pub held_seen : (p : ℕ) → IsHeld held p → IsHeld (seen held) p
  held_seen p h = held_map (λ y. y.means) held p h

  -- ---- with them

  pub held_noted : (p : ℕ) → IsHeld (seen held) p → IsHeld held p
  held_noted p h = held_map_back (λ y. y.means) held p h

  pub held_fit_noted : (n : ℕ) → HeldFit x.fits n (seen held) → HeldFit (noting x told).fits n held
  held_fit_noted n fit = held_fit_back (λ y. y.means) x.fits n held fit

  pub some_noted : (all : List M) (notes : List (List N)) → x.sound all → Fits all (seen held) → Fits notes (notes_in held) → SomeFits (noting x told) held
  some_noted all notes sound fits kept = (with_notes all notes, subst x.sound (sym (meanings_with all notes)) sound, with_fits all notes held fits kept)

  pub askable_noted : (all : List M) (notes : List (List N)) → x.sound all → Fits all (seen held) → Fits notes (notes_in held) → IsAskable x (seen held) → IsAskable (noting x told) held
  askable_noted all notes sound fits kept ask = (some_noted all notes sound fits kept, held_fit_noted 4611686018427387904 ask.1)

  pub ready_noted : (e : E) → IsReady x (seen held) e → IsReady (noting x told) held e
  ready_noted e ready all sound fits =
      let is = ready (meanings all) sound (fits_seen all fits) in
      (is.0, λ p t. held_noted p (is.1 p t))

  pub tells_noted : (legal : List M → ℕ → Option E) (who : ℕ) (t : Turn E) → Tells x legal who (seen held) t → Tells (noting x told) (legal_of legal) who held t
  tells_noted legal who (turn.Entry e) tells = λ all sound fits. tells (meanings all) sound (fits_seen all fits)
  tells_noted legal who turn.NotYet tells = λ all sound fits. tells (meanings all) sound (fits_seen all fits)
  tells_noted legal who (turn.Needs p) tells = (tells.0, λ h. tells.1 (held_seen p h))
  tells_noted legal who turn.Ended tells = λ all sound fits. tells (meanings all) sound (fits_seen all fits)

  pub has_entry_noted : (legal : List M → ℕ → Option E) (who : ℕ) (has : Bool) → ((all : List M) → x.sound all → Fits all (seen held) → has ≡ is_some (legal all who))
      → (all : List (Noted M N)) → x.sound (meanings all) → Fits all held → has ≡ is_some (legal_of legal all who)
  has_entry_noted legal who has is all sound fits = is (meanings all) sound (fits_seen all fits)

  -- The author of the rules knows of what it prepared that it has seen the parts with their notes.
  module _ {R : Type 0} (spare : List (ℕ × ℕ)) (entry_of : R → E) (seen_by : R → List (ℕ × M)) (noted_by : R → List (ℕ × Noted M N)) (prepared noted_prepared : R → Type 0) where
    pub answers_noted : (e : E) (v : Verdict R) → ((r : R) → v ≡ verdict.Ready r → prepared r → (noted_by r ≡ held) × noted_prepared r)
        → Answers x (seen held) spare entry_of seen_by prepared e v → Answers (noting x told) held spare entry_of noted_by noted_prepared e v
    answers_noted e (verdict.Ready r) known a = let k = known r refl a.4 in (a.0, k.0, ready_noted e a.2, a.3, k.1)
    answers_noted e verdict.NotLegal known a = λ all sound fits. a (meanings all) sound (fits_seen all fits)
    answers_noted e (verdict.Needs p) known a = (λ h. a.0 (held_seen p h), λ all sound fits. a.1 (meanings all) sound (fits_seen all fits))

  -- What an entry makes of them: what they mean is known, and the part that keeps the entry takes a text that is told
  -- in every list that has them.
  pub after_noted : (e : E) (text : List N) (next : List (ℕ × Noted M N))
      → ((all : List M) → x.sound all → Fits all (seen held) → Fits (x.after all e) (seen next))
      → notes_in next ≡ noted_in (x.keeper e) text (notes_in held)
      → ((all : List M) → x.sound all → Fits all (seen held) → text ≡ told all e)
      → (all : List (Noted M N)) → x.sound (meanings all) → Fits all held → Fits ((noting x told).after all e) next
  after_noted e text next means notes is all sound fits =
      let kept : Fits (all_notes all) (notes_in held) = fits_map (λ y. y.notes) all held fits in
      let more : Fits (noted_at (x.keeper e) text (all_notes all)) (notes_in next) = subst (Fits (noted_at (x.keeper e) text (all_notes all))) (sym notes) (noted_fits (x.keeper e) text (all_notes all) (notes_in held) kept) in
      with_fits (x.after (meanings all) e) (noted_at (x.keeper e) (told (meanings all) e) (all_notes all)) next
      (means (meanings all) sound (fits_seen all fits))
      (subst (λ t. Fits (noted_at (x.keeper e) t (all_notes all)) (notes_in next)) (is (meanings all) sound (fits_seen all fits)) more)

  -- ---- back again, where some list has them with their notes

  module _ (some : SomeFits (noting x told) held) where
    -- a list that has what they mean, with the notes of that one
    pub lift : (all : List M) → Fits all (seen held) → (full : List (Noted M N)) × (meanings full ≡ all) × Fits full held
    lift all fits = (with_notes all (all_notes some.0), meanings_with all (all_notes some.0), with_fits all (all_notes some.0) held fits (fits_map (λ y. y.notes) some.0 held some.2))

    -- what holds of each list that has them with their notes holds of each that has what they mean
    pub of_each : (Q : List M → Type 0) → ((all : List (Noted M N)) → x.sound (meanings all) → Fits all held → Q (meanings all)) → (all : List M) → x.sound all → Fits all (seen held) → Q all
    of_each Q each all sound fits =
        let full = lift all fits in
        subst Q full.1 (each full.0 (subst x.sound (sym full.1) sound) full.2)

    pub ready_seen : (e : E) → IsReady (noting x told) held e → IsReady x (seen held) e
    ready_seen e ready = of_each (λ all. x.permits all e × ((p : ℕ) → x.touches all e p → IsHeld (seen held) p)) (λ all sound fits. let is = ready all sound fits in (is.0, λ p t. held_seen p (is.1 p t)))

    pub tells_seen : (legal : List M → ℕ → Option E) (who : ℕ) (t : Turn E) → Tells (noting x told) (legal_of legal) who held t → Tells x legal who (seen held) t
    tells_seen legal who (turn.Entry e) tells = of_each (λ all. legal all who ≡ Some e) tells
    tells_seen legal who turn.NotYet tells = of_each (λ all. legal all who ≡ None) tells
    tells_seen legal who (turn.Needs p) tells = (tells.0, λ h. tells.1 (held_noted p h))
    tells_seen legal who turn.Ended tells = of_each (λ all. legal all who ≡ None) tells

    pub has_entry_seen : (legal : List M → ℕ → Option E) (who : ℕ) (has : Bool) → ((all : List (Noted M N)) → x.sound (meanings all) → Fits all held → has ≡ is_some (legal_of legal all who))
        → (all : List M) → x.sound all → Fits all (seen held) → has ≡ is_some (legal all who)
    has_entry_seen legal who has is = of_each (λ all. has ≡ is_some (legal all who)) is

    module _ {R : Type 0} (spare : List (ℕ × ℕ)) (entry_of : R → E) (seen_by : R → List (ℕ × M)) (noted_by : R → List (ℕ × Noted M N)) (prepared noted_prepared : R → Type 0) where
      pub answers_seen : (e : E) (v : Verdict R) → ((r : R) → v ≡ verdict.Ready r → noted_by r ≡ held → noted_prepared r → (seen_by r ≡ seen held) × prepared r)
          → Answers (noting x told) held spare entry_of noted_by noted_prepared e v → Answers x (seen held) spare entry_of seen_by prepared e v
      answers_seen e (verdict.Ready r) known a = let k = known r refl a.1 a.4 in (a.0, k.0, ready_seen e a.2, a.3, k.1)
      answers_seen e verdict.NotLegal known a = of_each (λ all. x.permits all e → ⊥) a
      answers_seen e (verdict.Needs p) known a = (λ h. a.0 (held_noted p h), of_each (λ all. x.touches all e p) a.1)
