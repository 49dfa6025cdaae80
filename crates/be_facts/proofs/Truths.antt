-- Facts on truth values.
use Rattle.std.proofs.Common.{◌≡◌, Bool, true, false, ◌&&◌, refl, ◌||◌, ◌⊎◌, inl, inr, sym, ◌∙◌, ap}
use Rattle.std.specs.Prelude.{not}
use Rattle.std.proofs.lemmas.Bool.{or_parts, false≢true, and_from}

pub true_or_false : (b : Bool) → (b ≡ true) ⊎ (b ≡ false)
true_or_false true = inl refl
true_or_false false = inr refl

pub same_truth : (p q : Bool) → (p ≡ true → q ≡ true) → (q ≡ true → p ≡ true) → p ≡ q
same_truth true q f g = sym (f refl)
same_truth false true f g = g refl
same_truth false false f g = refl

pub not_true : (b : Bool) → not b ≡ true → b ≡ false
not_true true e = cc
not_true false e = refl

pub false_is_not_true : false ≡ true → ⊥
false_is_not_true h = cc

pub false_unless_so : (b c : Bool) → (b ≡ true → c ≡ true) → c ≡ false → b ≡ false
false_unless_so false c f h = refl
false_unless_so true c f h = sym (f refl) ∙ h

-- ---- both

pub and_first : (a b : Bool) → (a && b) ≡ true → a ≡ true
and_first true b h = refl
and_first false b h = h

pub and_second : (b c : Bool) → (b && c) ≡ true → c ≡ true
and_second true c is = is
and_second false c is = absurd (cc)

pub and_both : (a b : Bool) → (a && b) ≡ true → (a ≡ true) × (b ≡ true)
and_both true b h = (refl, h)
and_both false b h = absurd (false_is_not_true h)

pub and_true : (a : Bool) → (a && true) ≡ a
and_true true = refl
and_true false = refl

pub and_false : (m : Bool) → (m && false) ≡ false
and_false true = refl
and_false false = refl

pub and_is_second : (a b : Bool) → a ≡ true → (a && b) ≡ b
and_is_second true b e = refl
and_is_second false b e = cc

pub and_false_second : (a m : Bool) → (a && m) ≡ false → a ≡ true → m ≡ false
and_false_second true m e h = e
and_false_second false m e h = absurd (false≢true h)

pub and_four : (p q r s : Bool) → p ≡ true → q ≡ true → r ≡ true → s ≡ true → (p && q && r && s) ≡ true
and_four p q r s e f g h = rw (e, f, g, h)

pub and_map : (a b c e : Bool) → (a ≡ true → c ≡ true) → (b ≡ true → e ≡ true) → (a && b) ≡ true → (c && e) ≡ true
and_map a b c e f g h = and_from c e (f (and_first a b h)) (g (and_second a b h))

pub and_regroup : (a b c : Bool) → (a && (b && c)) ≡ ((a && b) && c)
and_regroup true b c = refl
and_regroup false b c = refl

pub and_spread : (a b m : Bool) → ((a && m) || (b && m)) ≡ ((a || b) && m)
and_spread true true true = refl
and_spread true true false = refl
and_spread true false true = refl
and_spread true false false = refl
and_spread false b m = refl

-- ---- one of two

pub or_true : (b : Bool) → (b || true) ≡ true
or_true true = refl
or_true false = refl

pub or_false : (b : Bool) → (b || false) ≡ b
or_false true = refl
or_false false = refl

pub with_or_false : (b : Bool) → b ≡ (b || false)
with_or_false true = refl
with_or_false false = refl

pub or_either : (a b : Bool) → (a || b) ≡ true → (a ≡ true) ⊎ (b ≡ true)
or_either true b e = inl refl
or_either false b e = inr e

pub or_false_first : (p q : Bool) → (p || q) ≡ false → p ≡ false
or_false_first p q h = (or_parts p q h).0

pub or_false_second : (p q : Bool) → (p || q) ≡ false → q ≡ false
or_false_second p q h = (or_parts p q h).1

pub or_middle : (a b : Bool) → b ≡ true → (a || (b || false)) ≡ true
or_middle true b e = refl
or_middle false b e = ap (λ v. v || false) e

pub or_assoc : (a b c : Bool) → ((a || b) || c) ≡ (a || (b || c))
or_assoc true b c = refl
or_assoc false b c = refl

pub or_regroup : (a b c : Bool) → (a || (b || c)) ≡ ((a || b) || c)
or_regroup true b c = refl
or_regroup false b c = refl

pub or_same : (p q p' q' : Bool) → p ≡ p' → q ≡ q' → (p || q) ≡ (p' || q')
or_same p q p' q' e f = rw (e, f) refl
