-- Parts that were changed one after the other, and those that weren't.
use Rattle.std.proofs.Common.{◌≡◌, ℕ, Bool, true, false, List, [], ◌∷◌, Option, Some, None, refl, sym, ap, ◌∙◌, subst}
use Rattle.std.specs.Prelude.{◌==◌, if◌then◌else◌}
use Rattle.std.proofs.lemmas.Option.{same_Some}
use Rattle.be_asking.proofs.InHand.{not_held}
use Rattle.be_hall.proofs.Holding.{with_other}
use Rattle.be_hall.specs.Hands.{Hand, meant, part_at, with_part}
use Rattle.be_hall.specs.Machine.{IsHeld}
use Rattle.be_machine.specs.Touched as part
use Rattle.be_parts.specs.Parts.{hand_with, logged_of, meaning_of}
use Rattle.be_parts.specs.declared.part.Part.{Part}
use Rattle.be_rules.specs.Places.{IsPart, place_of}
use Rattle.be_script.specs.Script.{Declared}
use Rattle.be_steps.proofs.Apart.{apart}
use Rattle.be_steps.specs.Made.{AreMade}
use Rattle.be_steps.specs.There.{IsThere}

pub stays : (d : Declared) (parts : List (ℕ × Part)) (x y : part.Part) → IsPart d x → IsPart d y → (y ≡ x → ⊥) → (p q : ℕ) → p ≡ place_of d x → q ≡ place_of d y → (made : Part) → part_at (with_part parts p made) q ≡ part_at parts q
stays d parts x y there other different p q at spot made = with_other parts p q made (λ same. apart d y x other there different (sym spot ∙ same ∙ at))

-- two parts were made, the one after the other
pub two_made : (d : Declared) (old : Hand Part) (x y : part.Part) (p q : ℕ) → p ≡ place_of d x → q ≡ place_of d y → (a b first second : Part) → part_at old.parts p ≡ Some a → part_at (with_part old.parts p first) q ≡ Some b
    → logged_of first ≡ logged_of a → logged_of second ≡ logged_of b → AreMade d ((x, first) ∷ (y, second) ∷ []) old.parts (hand_with (hand_with old p first) q second).parts
two_made d old x y p q at spot a b first second here there log logs = (
  a,
  ap (part_at old.parts) (sym at) ∙ here,
  log,
  (
    b,
    ap (λ n. part_at (with_part old.parts n first) (place_of d y)) (sym at) ∙ ap (part_at (with_part old.parts p first)) (sym spot) ∙ there,
    logs,
    ap (λ n. with_part (with_part old.parts n first) q second) at ∙ ap (λ n. with_part (with_part old.parts (place_of d x) first) n second) spot,
  ),
)

-- ---- a part that is changed to itself

same_by : (x : ℕ × Part) (xs : List (ℕ × Part)) (p : ℕ) (y : Part) (b : Bool) → (part_at xs p ≡ Some y → with_part xs p y ≡ xs) → (if b then Some x.1 else part_at xs p) ≡ Some y → (if b then (x.0, y) ∷ xs else x ∷ with_part xs p y) ≡ x ∷ xs
same_by x xs p y true rest e = ap (λ z. (x.0, z) ∷ xs) (sym (same_Some x.1 y e))
same_by x xs p y false rest e = ap (λ l. x ∷ l) (rest e)

pub with_itself : (parts : List (ℕ × Part)) (p : ℕ) (y : Part) → part_at parts p ≡ Some y → with_part parts p y ≡ parts
with_itself [] p y e = absurd (cc)
with_itself (x ∷ xs) p y e = same_by x xs p y (x.0 == p) (λ later. with_itself xs p y later) e

held_by : (o : Option Part) → (o ≡ None → ⊥) → (y : Part) × (o ≡ Some y)
held_by (Some y) some = (y, refl)
held_by None some = absurd (some refl)

-- the part that is held
pub part_held : (parts : List (ℕ × Part)) (p : ℕ) → IsHeld (meant meaning_of parts) p → (y : Part) × (part_at parts p ≡ Some y)
part_held parts p h = held_by (part_at parts p) (λ none. not_held parts p none h)

-- what is held at a place
pub held_as : (d : Declared) (x : part.Part) (old b : Hand Part) (place : ℕ) → b ≡ old → place ≡ place_of d x → IsThere d old.parts x → IsHeld (meant meaning_of b.parts) place
held_as d x old b place copy spot there = subst (λ (h : Hand Part). IsHeld (meant meaning_of h.parts) place) (sym copy) (subst (IsHeld (meant meaning_of old.parts)) (sym spot) there.held)
