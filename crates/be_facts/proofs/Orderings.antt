-- Facts on comparisons.
use Rattle.std.proofs.Common.{◌≡◌, Bool, true, false, cond, refl, sym, ℕ, ◌<◌, ◌==◌, arith, ne_eqb}
use Rattle.std.proofs.Common.{ltb-true, ◌&&◌}
use Rattle.std.specs.declared.cmp.Ordering.TheVariants.{Less, Equal, Greater}
use Rattle.std.specs.Ordering.{is_eq, nat_cmp, ordering_then}
use Rattle.std.specs.Prelude.{nat_lt}
use Rattle.std.specs.declared.cmp.Ordering.{Ordering}

pub is_eq_cond : (less same : Bool) → (less ≡ true → same ≡ false) → is_eq (cond less Less (cond same Equal Greater)) ≡ same
is_eq_cond true same h = sym (h refl)
is_eq_cond false true h = refl
is_eq_cond false false h = refl

pub is_eq_nat_cmp : (a b : ℕ) → is_eq (nat_cmp a b) ≡ (a == b)
is_eq_nat_cmp a b = is_eq_cond (nat_lt a b) (a == b) (λ h. ne_eqb a b (λ e. let below : a < b = ltb-true a b h in absurd (omega arith)))

pub is_eq_then : (a b : Ordering) → is_eq (ordering_then a b) ≡ (is_eq a && is_eq b)
is_eq_then Less b = refl
is_eq_then Equal b = refl
is_eq_then Greater b = refl
