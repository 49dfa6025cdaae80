-- Parts in hand where others are put at their places.
use Rattle.std.proofs.Common.{◌≡◌, ◌≢◌, ℕ, Bool, true, false, List, [], ◌∷◌, Some, refl, sym, ap, ◌∙◌}
use Rattle.std.specs.Prelude.{◌==◌, if◌then◌else◌}
use Rattle.std.proofs.lemmas.Option.{same_Some}
use Rattle.be_hall.specs.Hands.{part_at, with_part}
use Rattle.be_steps.proofs.Making.{by_place_test}

module _ {T : Type 0} where
  -- a part that is put where it is changes nothing
  pub kept : (held : List (ℕ × T)) (p : ℕ) (y : T) → part_at held p ≡ Some y → with_part held p y ≡ held
  kept [] p y e = refl
  kept (x ∷ xs) p y e = by_place_test (λ b. (if b then Some x.1 else part_at xs p) ≡ Some y → (if b then (x.0, y) ∷ xs else x ∷ with_part xs p y) ≡ x ∷ xs) x.0 p
      (λ is h. ap (λ (z : T). (x.0, z) ∷ xs) (sym (same_Some x.1 y h)))
      (λ other h. ap (λ (l : List (ℕ × T)). x ∷ l) (kept xs p y h)) e

  -- of two that are put at one place the second stays
  pub twice : (held : List (ℕ × T)) (p : ℕ) (y z : T) → with_part (with_part held p y) p z ≡ with_part held p z
  twice [] p y z = refl
  twice (x ∷ xs) p y z = by_place_test (λ b. with_part (if b then (x.0, y) ∷ xs else x ∷ with_part xs p y) p z ≡ (if b then (x.0, z) ∷ xs else x ∷ with_part xs p z)) x.0 p
      (λ is. by_place_test (λ b. (if b then (x.0, z) ∷ xs else (x.0, y) ∷ with_part xs p z) ≡ (x.0, z) ∷ xs) x.0 p (λ here. refl) (λ other. absurd (other is)))
      (λ other. by_place_test (λ b. (if b then (x.0, z) ∷ with_part xs p y else x ∷ with_part (with_part xs p y) p z) ≡ x ∷ with_part xs p z) x.0 p
      (λ is. absurd (other is))
      (λ there. ap (λ (l : List (ℕ × T)). x ∷ l) (twice xs p y z)))

  -- at two places their order is the same
  pub swap : (held : List (ℕ × T)) (p q : ℕ) (y z : T) → p ≢ q → with_part (with_part held p y) q z ≡ with_part (with_part held q z) p y
  swap [] p q y z apart = refl
  swap (x ∷ xs) p q y z apart = by_place_test (λ b. with_part (if b then (x.0, y) ∷ xs else x ∷ with_part xs p y) q z ≡ with_part (if x.0 == q then (x.0, z) ∷ xs else x ∷ with_part xs q z) p y) x.0 p
      (λ first. by_place_test (λ b. (if b then (x.0, z) ∷ xs else (x.0, y) ∷ with_part xs q z) ≡ with_part (if b then (x.0, z) ∷ xs else x ∷ with_part xs q z) p y) x.0 q
      (λ second. absurd (apart (sym first ∙ second)))
      (λ not_second. by_place_test (λ b. (x.0, y) ∷ with_part xs q z ≡ (if b then (x.0, y) ∷ with_part xs q z else x ∷ with_part (with_part xs q z) p y)) x.0 p (λ is. refl) (λ other. absurd (other first))))
      (λ not_first. by_place_test (λ b. (if b then (x.0, z) ∷ with_part xs p y else x ∷ with_part (with_part xs p y) q z) ≡ with_part (if b then (x.0, z) ∷ xs else x ∷ with_part xs q z) p y) x.0 q
      (λ second. by_place_test (λ b. (x.0, z) ∷ with_part xs p y ≡ (if b then (x.0, y) ∷ xs else (x.0, z) ∷ with_part xs p y)) x.0 p (λ is. absurd (not_first is)) (λ other. refl))
      (λ not_second. by_place_test (λ b. x ∷ with_part (with_part xs p y) q z ≡ (if b then (x.0, y) ∷ with_part xs q z else x ∷ with_part (with_part xs q z) p y)) x.0 p
      (λ is. absurd (not_first is))
      (λ other. ap (λ (l : List (ℕ × T)). x ∷ l) (swap xs p q y z apart))))
