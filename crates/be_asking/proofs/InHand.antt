-- What a part in hand tells of the state for which a sound list stands.
use Rattle.std.proofs.Common.{◌≡◌, ℕ, Bool, true, false, List, [], ◌∷◌, Option, Some, None, inl, inr, refl, sym, ap, ◌∙◌}
use Rattle.std.specs.Prelude.{◌==◌, slice_get, if◌then◌else◌}
use Rattle.std.proofs.lemmas.Option.{same_Some}
use mathlib.Core.Option.{some}
use lib.ListN.{get_elem?}
use Rattle.be_facts.proofs.Numbers.{eq_false_tells, eq_tells}
use Rattle.be_hall.specs.Hands.{meant, part_at}
use Rattle.be_hall.specs.Machine.{Fits, IsHeld}
use Rattle.be_machine.specs.Touched as part
use Rattle.be_parts.specs.declared.part.Part.{Part}
use Rattle.be_parts.specs.Parts.{meaning_of}
use Rattle.be_rules.proofs.Lawfully.{state}
use Rattle.be_rules.proofs.ListLemmas.{elem_map, same_elements}
use Rattle.be_rules.proofs.Local.{at_place}
use Rattle.be_rules.specs.Places.{IsPart, place_of}
use Rattle.be_rules.specs.Rules.{IsSound}
use Rattle.be_rules.specs.Slices.{Slice, slice_of, all_parts, desk_in, input_in, app_in, looper_in, buffer_in, port_in, link_in, pane, shown_of}
use Rattle.be_script.specs.Script.{Declared}

-- ---- among the parts in hand

at_by : (q p : ℕ) (b : Bool) (x y : Part) (rest : Option Part) (P : Type 0) → (q == p) ≡ b → (if b then Some x else rest) ≡ Some y → (q ≡ p → x ≡ y → P) → (rest ≡ Some y → P) → P
at_by q p true x y rest P e is f g = f (eq_tells q p e) (same_Some x y is)
at_by q p false x y rest P e is f g = g is

-- what a part in hand means stands in the list
pub meant_there : (parts : List (ℕ × Part)) (all : List Slice) (p : ℕ) (y : Part) → part_at parts p ≡ Some y → Fits all (meant meaning_of parts) → get_elem? all p ≡ some (meaning_of y)
meant_there [] all p y e fits = absurd (cc)
meant_there (x ∷ xs) all p y e fits = at_by x.0 p (x.0 == p) x.1 y (part_at xs p) _ refl e (λ is same. ap (get_elem? all) (sym is) ∙ fits.0 ∙ ap (λ z. some (meaning_of z)) same) (λ later. meant_there xs all p y later fits.1)

-- a part in hand is held
pub is_held : (parts : List (ℕ × Part)) (p : ℕ) (y : Part) → part_at parts p ≡ Some y → IsHeld (meant meaning_of parts) p
is_held [] p y e = absurd (cc)
is_held (x ∷ xs) p y e = at_by x.0 p (x.0 == p) x.1 y (part_at xs p) _ refl e (λ is same. inl is) (λ later. inr (is_held xs p y later))

none_by : (b : Bool) (x : Part) (rest : Option Part) → (if b then Some x else rest) ≡ None → (b ≡ false) × (rest ≡ None)
none_by true x rest e = absurd (cc)
none_by false x rest e = (refl, e)

-- and one that isn't is not
pub not_held : (parts : List (ℕ × Part)) (p : ℕ) → part_at parts p ≡ None → IsHeld (meant meaning_of parts) p → ⊥
not_held [] p e h = h
not_held (x ∷ xs) p e (inl is) = let out = none_by (x.0 == p) x.1 (part_at xs p) e in eq_false_tells x.0 p out.0 is
not_held (x ∷ xs) p e (inr h) = let out = none_by (x.0 == p) x.1 (part_at xs p) e in not_held xs p out.1 h

-- ---- in the state

module _ (d : Declared) (parts : List (ℕ × Part)) (all : List Slice) (sound : IsSound d all) (fits : Fits all (meant meaning_of parts)) (y : Part) where
  -- the part in hand means the state's
  pub slice_read : (x : part.Part) → IsPart d x → part_at parts (place_of d x) ≡ Some y → slice_of (state d all sound) x ≡ meaning_of y
  slice_read x there at =
      same_elements (slice_of (state d all sound) x) (meaning_of y)
      (sym (elem_map (slice_of (state d all sound)) (all_parts d) (place_of d x) x (at_place d x there))
      ∙ sym (ap (λ l. get_elem? l (place_of d x)) sound.is)
      ∙ meant_there parts all (place_of d x) y at fits)

  pub desk_read : part_at parts (place_of d part.desk) ≡ Some y → Some (state d all sound).desk ≡ desk_in (meaning_of y)
  desk_read at = ap desk_in (slice_read part.desk tt at)

  pub input_read : part_at parts (place_of d part.input) ≡ Some y → Some ((state d all sound).events, (state d all sound).stopped) ≡ input_in (meaning_of y)
  input_read at = ap input_in (slice_read part.input tt at)

  pub cell_read : (m : ℕ) → IsPart d (part.cell m) → part_at parts (place_of d (part.cell m)) ≡ Some y → slice_get (state d all sound).apps m ≡ app_in (meaning_of y)
  cell_read m there at = ap app_in (slice_read (part.cell m) there at)

  pub looper_read : (w : ℕ) → IsPart d (part.looper w) → part_at parts (place_of d (part.looper w)) ≡ Some y → slice_get (state d all sound).loopers w ≡ looper_in (meaning_of y)
  looper_read w there at = ap looper_in (slice_read (part.looper w) there at)

  pub buffer_read : (w : ℕ) → IsPart d (part.looper w) → part_at parts (place_of d (part.looper w)) ≡ Some y → slice_get (state d all sound).buffers w ≡ buffer_in (meaning_of y)
  buffer_read w there at = ap buffer_in (slice_read (part.looper w) there at)

  pub port_read : (w : ℕ) → IsPart d (part.port w) → part_at parts (place_of d (part.port w)) ≡ Some y → slice_get (state d all sound).ports w ≡ port_in (meaning_of y)
  port_read w there at = ap port_in (slice_read (part.port w) there at)

  pub link_read : (w : ℕ) → IsPart d (part.link w) → part_at parts (place_of d (part.link w)) ≡ Some y → slice_get (state d all sound).links w ≡ link_in (meaning_of y)
  link_read w there at = ap link_in (slice_read (part.link w) there at)

  pub pane_read : (w : ℕ) → IsPart d (part.pane w) → part_at parts (place_of d (part.pane w)) ≡ Some y → pane w (shown_of (state d all sound) w) ≡ meaning_of y
  pane_read w there at = slice_read (part.pane w) there at
