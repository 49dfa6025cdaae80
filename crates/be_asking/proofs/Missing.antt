-- The first of some parts that isn't in hand, and what it means that there is none.
use Rattle.std.proofs.Common.{◌≡◌, ℕ, zero, suc, ◌<◌, Bool, true, false, List, [], ◌∷◌, map, length, Option, Some, None, inl, inr, refl, sym, ap, ◌∙◌, arith}
use Rattle.std.specs.Prelude.{cond, find, is_none, option_map}
use Rattle.std.specs.List.{Contains}
use Rattle.std.proofs.lemmas.Option.{same_Some}
use Rattle.be_hall.specs.Hands.{meant, part_at}
use Rattle.be_hall.specs.Machine.{IsHeld}
use Rattle.be_machine.proofs.Lists.{find_passes}
use Rattle.be_machine.specs.Touched as part
use Rattle.be_parts.specs.Parts.{meaning_of}
use Rattle.be_parts.specs.declared.part.Part.{Part}
use Rattle.be_rules.specs.Places.{place_of}
use Rattle.be_rules.specs.Sure.{IsAmong}
use Rattle.be_script.specs.Script.{Declared}
use Rattle.be_asking.specs.Changing.{first_missing, is_out}
use Rattle.be_asking.specs.Finding.{IsMissing}
use Rattle.be_asking.proofs.InHand.{is_held}

-- ---- what is found

here_or_later : (b : Bool) (y x : part.Part) (ys : List part.Part) (rest : Option part.Part) → (rest ≡ Some x → IsAmong x ys) → cond b (Some y) rest ≡ Some x → IsAmong x (y ∷ ys)
here_or_later true y x ys rest later is = inl (sym (same_Some y x is))
here_or_later false y x ys rest later is = inr (later is)

-- it is one of the list
found_among : (p : part.Part → Bool) (xs : List part.Part) (x : part.Part) → find p xs ≡ Some x → IsAmong x xs
found_among p [] x is = absurd (cc)
found_among p (y ∷ ys) x is = here_or_later (p y) y x ys (find p ys) (found_among p ys x) is

neither : (b : Bool) (y : part.Part) (rest : Option part.Part) → cond b (Some y) rest ≡ None → (b ≡ false) × (rest ≡ None)
neither true y rest is = absurd (cc)
neither false y rest is = (refl, is)

-- where none is found, none passes
none_passes : (p : part.Part → Bool) (xs : List part.Part) (x : part.Part) → find p xs ≡ None → IsAmong x xs → p x ≡ false
none_passes p [] x is among = absurd among
none_passes p (y ∷ ys) x is (inl same) = ap p same ∙ (neither (p y) y (find p ys) is).0
none_passes p (y ∷ ys) x is (inr later) = none_passes p ys x (neither (p y) y (find p ys) is).1 later

-- ---- parts in hand

no_part : (o : Option Part) → is_none o ≡ true → o ≡ None
no_part (Some y) is = absurd (cc)
no_part None is = refl

some_part : (o : Option Part) → is_none o ≡ false → (y : Part) × (o ≡ Some y)
some_part (Some y) is = (y, refl)
some_part None is = absurd (cc)

module _ (d : Declared) (inhand : List (ℕ × Part)) where
  lacks_by : (xs : List part.Part) (place : ℕ) (o : Option part.Part) → find (is_out d inhand) xs ≡ o → Some place ≡ option_map (place_of d) o → (x : part.Part) × IsAmong x xs × IsMissing d inhand x place
  lacks_by xs place (Some x) found is =
      let at : place ≡ place_of d x = same_Some place (place_of d x) is in
      (x, found_among (is_out d inhand) xs x found, (at, ap (part_at inhand) at ∙ no_part (part_at inhand (place_of d x)) (find_passes (is_out d inhand) xs x found)))
  lacks_by xs place None found is = absurd (cc)

  -- one of them isn't in hand
  pub lacks : (xs : List part.Part) (place : ℕ) → Some place ≡ first_missing d inhand xs → (x : part.Part) × IsAmong x xs × IsMissing d inhand x place
  lacks xs place is = lacks_by xs place (find (is_out d inhand) xs) refl is

  has_by : (xs : List part.Part) (x : part.Part) (o : Option part.Part) → find (is_out d inhand) xs ≡ o → None ≡ option_map (place_of d) o → IsAmong x xs → IsHeld (meant meaning_of inhand) (place_of d x)
  has_by xs x (Some y) found is among = absurd (cc)
  has_by xs x None found is among =
      let there = some_part (part_at inhand (place_of d x)) (none_passes (is_out d inhand) xs x found among) in
      is_held inhand (place_of d x) there.0 there.1

  -- all of them are
  pub has_all : (xs : List part.Part) → None ≡ first_missing d inhand xs → (x : part.Part) → IsAmong x xs → IsHeld (meant meaning_of inhand) (place_of d x)
  has_all xs is x among = has_by xs x (find (is_out d inhand) xs) refl is among

-- ---- panes of named windows

pub among_named : (names : List ℕ) (u : ℕ) → Contains names u → IsAmong (part.pane u) (map part.pane names)
among_named [] u (k, lt, is) = absurd (omega arith)
among_named (v ∷ vs) u (zero, lt, is) = inl (ap part.pane (sym is))
among_named (v ∷ vs) u (suc k, lt, is) = inr (among_named vs u (k, omega arith, is))

pub named_among : (names : List ℕ) (x : part.Part) → IsAmong x (map part.pane names) → (u : ℕ) × (x ≡ part.pane u) × Contains names u
named_among [] x among = absurd among
named_among (v ∷ vs) x (inl is) = (v, is, (0, omega arith, refl))
named_among (v ∷ vs) x (inr later) =
    let rest = named_among vs x later in
    let lt : rest.2.0 < length vs = rest.2.1 in
    (rest.0, rest.1, (suc rest.2.0, omega arith, rest.2.2))

-- the first of the named windows whose pane isn't in hand
pub find_named : (p : part.Part → Bool) (names : List ℕ) → find p (map part.pane names) ≡ option_map part.pane (find (λ u. p (part.pane u)) names)
find_named p [] = refl
find_named p (v ∷ vs) = by_test (p (part.pane v)) (find_named p vs)
  where
    by_test : (b : Bool) → find p (map part.pane vs) ≡ option_map part.pane (find (λ u. p (part.pane u)) vs) → cond b (Some (part.pane v)) (find p (map part.pane vs)) ≡ option_map part.pane (cond b (Some v) (find (λ u. p (part.pane u)) vs))
    by_test true rest = refl
    by_test false rest = rest

-- its place
pub first_named : (d : Declared) (inhand : List (ℕ × Part)) (names : List ℕ) (o : Option ℕ) → o ≡ find (λ u. is_out d inhand (part.pane u)) names → option_map (λ u. place_of d (part.pane u)) o ≡ first_missing d inhand (map part.pane names)
first_named d inhand names o is =
    ap (option_map (λ u. place_of d (part.pane u))) is
    ∙ twice (find (λ u. is_out d inhand (part.pane u)) names)
    ∙ sym (ap (option_map (place_of d)) (find_named (is_out d inhand) names))
  where
    twice : (o : Option ℕ) → option_map (λ u. place_of d (part.pane u)) o ≡ option_map (place_of d) (option_map part.pane o)
    twice (Some u) = refl
    twice None = refl
