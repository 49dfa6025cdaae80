-- Which parts a list has.
use Rattle.std.proofs.Common.{◌≡◌, ℕ, List, [], ◌∷◌, ◌++◌, Option, Some, None, inl, inr, refl, sym, subst}
use Rattle.be_script.specs.Script.{Declared}
use Rattle.be_machine.specs.Touched.{Part}
use Rattle.be_rules.specs.Places.{IsPart}
use Rattle.be_rules.specs.Sure.{maybe, IsAmong}

pub alone : (d : Declared) (p x : Part) → IsPart d x → IsAmong p (x ∷ []) → IsPart d p
alone d p x is (inl e) = subst (IsPart d) (sym e) is
alone d p x is (inr nobody) = absurd nobody

pub among_both : (d : Declared) (p : Part) (xs ys : List Part) → (IsAmong p xs → IsPart d p) → (IsAmong p ys → IsPart d p) → IsAmong p (xs ++ ys) → IsPart d p
among_both d p [] ys f g h = g h
among_both d p (x ∷ xs) ys f g (inl e) = f (inl e)
among_both d p (x ∷ xs) ys f g (inr h) = among_both d p xs ys (λ k. f (inr k)) g h

pub maybe_part : (d : Declared) (p : Part) (of : ℕ → Part) (o : Option ℕ) → ((n : ℕ) → o ≡ Some n → IsPart d (of n)) → IsAmong p (maybe of o) → IsPart d p
maybe_part d p of (Some n) is h = alone d p (of n) (is n refl) h
maybe_part d p of None is h = absurd h
