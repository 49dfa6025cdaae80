-- The instruction at a step of the bodies of some views, one after the other.
use Rattle.std.proofs.Common.{◌≡◌, ℕ, zero, suc, ◌+◌, ◌<◌, ◌≤◌, List, [], ◌∷◌, ◌++◌, drop, map, length, refl, sym, ap, ◌∙◌, arith}
use Rattle.std.specs.Prelude.{◌-◌, flat_map, slice_get}
use lib.ListN.{get_or}
use Rattle.be_actor.specs.declared.Instruction.{Instruction}
use Rattle.be_geom.specs.declared.rect.Rect.{Rect}

in_front : {X : Type 0} (xs ys : List X) (k : ℕ) → k < length xs → slice_get (xs ++ ys) k ≡ slice_get xs k
in_front [] ys k lt = absurd (omega arith)
in_front (x ∷ xs) ys zero lt = refl
in_front (x ∷ xs) ys (suc k) lt = in_front xs ys k (omega arith)

in_back : {X : Type 0} (xs ys : List X) (k : ℕ) → length xs ≤ k → slice_get (xs ++ ys) k ≡ slice_get ys (k - length xs)
in_back [] ys k le = let is : k ≡ k - 0 = omega arith in ap (slice_get ys) is
in_back (x ∷ xs) ys zero le = absurd (omega arith)
in_back (x ∷ xs) ys (suc k) le = let is : k - length xs ≡ suc k - length (x ∷ xs) = omega arith in in_back xs ys k (omega arith) ∙ ap (slice_get ys) is

module _ (f : ℕ → List Instruction) where
  abbrev pub from : List (ℕ × Rect) → ℕ → List Instruction
  from views i = flat_map f (map (λ v. v.0) (drop i views))

  split : (views : List (ℕ × Rect)) (i : ℕ) (x : ℕ × Rect) → i < length views → from views i ≡ f (get_or views i x).0 ++ from views (suc i)
  split [] i x lt = absurd (omega arith)
  split (v ∷ vs) zero x lt = refl
  split (v ∷ vs) (suc i) x lt = split vs i x (omega arith)

  pub step_here : (views : List (ℕ × Rect)) (i k : ℕ) (x : ℕ × Rect) (p : List Instruction) → i < length views → p ≡ f (get_or views i x).0 → k < length p → slice_get (from views i) k ≡ slice_get p k
  step_here views i k x p lt is inside = ap (λ l. slice_get l k) (split views i x lt ∙ ap (λ l. l ++ from views (suc i)) (sym is)) ∙ in_front p (from views (suc i)) k inside

  pub step_past : (views : List (ℕ × Rect)) (i k : ℕ) (x : ℕ × Rect) (p : List Instruction) → i < length views → p ≡ f (get_or views i x).0 → length p ≤ k → slice_get (from views (i + 1)) (k - length p) ≡ slice_get (from views i) k
  step_past views i k x p lt is past =
      let next : i + 1 ≡ suc i = omega arith in
      ap (λ n. slice_get (from views n) (k - length p)) next
      ∙ sym (ap (λ l. slice_get l k) (split views i x lt ∙ ap (λ l. l ++ from views (suc i)) (sym is)) ∙ in_back p (from views (suc i)) k past)
