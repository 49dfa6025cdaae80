-- What it tells that a number is the one that may be there.
use Rattle.std.proofs.Common.{◌≡◌, ℕ, true, Option, Some, None, ap, ◌⊎◌, inl, inr, sym, ◌∙◌, arith, refl, eq-eqb}
use Rattle.std.proofs.lemmas.Bool.Decides.{nat_tests}
use Rattle.be_geom.specs.Numbers.{is_number}

pub number_is : (w : ℕ) (o : Option ℕ) → is_number w o ≡ true → o ≡ Some w
number_is w (Some v) e = let same : v ≡ w = grind (arith, nat_tests) in ap Some same
number_is w None e = cc

-- a pixel that changes hands is one of which its old owner, or its new one, is another window's
pub differs : (u : ℕ) (o p : Option ℕ) → (o ≡ Some u) ⊎ (p ≡ Some u) → (p ≡ o → ⊥) → is_number u o ≡ is_number u p → ⊥
differs u o p (inl is) other same = other (number_is u p (sym same ∙ ap (is_number u) is ∙ eq-eqb u u refl) ∙ sym is)
differs u o p (inr is) other same = other (is ∙ sym (number_is u o (same ∙ ap (is_number u) is ∙ eq-eqb u u refl)))
