-- What holds of a list's first place and of those behind it holds of each.
use Rattle.std.proofs.Common.{◌≡◌, ℕ, zero, suc, ◌+◌, ◌-◌, ◌<◌, List, [], ◌∷◌, ◌++◌, length, slice_index_or, slice_set}
use Rattle.std.proofs.Common.{refl, sym, subst, ap, ◌∙◌, arith}
use mathlib.Core.Logic.{⊎_elim}
use lib.ListN.{length-append}
use Rattle.std.proofs.lemmas.Bool.{cases_lt}
use Rattle.std.proofs.lemmas.List.{get_or_append_left, get_or-append_right}

module _ {X : Type 0} (P : ℕ → X → Type 0) (base : ℕ) where
  pub at_first : (xs : List X) (d : X) → length xs ≡ 1
      → ((k : ℕ) (e : X) → k < length xs → P (base + k) (slice_index_or xs k e))
      → P base (slice_index_or xs 0 d)
  at_first xs d one each =
      subst (λ i. P i (slice_index_or xs 0 d)) {x = base + 0} (omega arith) (each 0 d (omega arith))

  pub at_rest : (all xs ys : List X) → all ≡ xs ++ ys → length xs ≡ 1
      → ((k : ℕ) (e : X) → k < length all → P (base + k) (slice_index_or all k e))
      → (k : ℕ) (d : X) → k < length ys → P (base + 1 + k) (slice_index_or ys k d)
  at_rest all xs ys cut one each k d less =
      let some : length all ≡ length xs + length ys = ap length cut ∙ length-append xs ys in
      let same : slice_index_or all (1 + k) d ≡ slice_index_or ys k d =
      ap (λ l. slice_index_or l (1 + k) d) cut ∙ get_or-append_right xs ys 1 (1 + k) d one (omega arith)
      ∙ ap (λ i. slice_index_or ys i d) (omega arith) in
      subst (P (base + 1 + k)) same
      (subst (λ i. P i (slice_index_or all (1 + k) d)) {x = base + (1 + k)} (omega arith)
      (each (1 + k) d (omega arith)))

moved : {X : Type 0} (R : ℕ → X → X → Type 0) {i j : ℕ} {x x' y y' : X}
    → i ≡ j → x ≡ x' → y ≡ y' → R i x y → R j x' y'
moved R {i} {j} {x} {x'} {y} {y'} a b c r =
    subst (λ k. R k x' y') a (subst (λ u. R i u y') b (subst (R i x) c r))

module _ {X : Type 0} (R : ℕ → X → X → Type 0) (base : ℕ) where
  pub by_one : (xs : List X) (d y : X) → length xs ≡ 1 → R base (slice_index_or xs 0 d) y
      → (k : ℕ) (e : X) → k < length xs
      → R (base + k) (slice_index_or xs k e) (slice_index_or (slice_set xs 0 y) k e)
  by_one [] d y one is k e less = absurd (omega arith)
  by_one (x ∷ []) d y one is zero e less =
      subst (λ i. R i x y) {x = base} (omega arith) is
  by_one (x ∷ []) d y one is (suc k) e less = absurd (omega arith)
  by_one (x ∷ x' ∷ xs) d y one is k e less = absurd (omega arith)

  pub by_both : (all xs ys xs' ys' : List X) → all ≡ xs ++ ys → length xs ≡ 1
      → length xs' ≡ length xs
      → ((k : ℕ) (e : X) → k < length xs
      → R (base + k) (slice_index_or xs k e) (slice_index_or xs' k e))
      → ((k : ℕ) (e : X) → k < length ys
      → R (base + 1 + k) (slice_index_or ys k e) (slice_index_or ys' k e))
      → (k : ℕ) (e : X) → k < length all
      → R (base + k) (slice_index_or all k e) (slice_index_or (xs' ++ ys') k e)
  by_both all xs ys xs' ys' cut one alike front back k e less =
      let some : length all ≡ length xs + length ys = ap length cut ∙ length-append xs ys in
      ⊎_elim
      (λ low. moved R refl
      (sym (ap (λ l. slice_index_or l k e) cut ∙ get_or_append_left xs ys e k low))
      (sym (get_or_append_left xs' ys' e k (omega arith))) (front k e low))
      (λ up. let n = k - 1 in
      moved R (omega arith)
      (sym (ap (λ l. slice_index_or l k e) cut ∙ get_or-append_right xs ys 1 k e one (omega arith)))
      (sym (get_or-append_right xs' ys' 1 k e (alike ∙ one) (omega arith)))
      (back n e (omega arith)))
      (cases_lt k (length xs))
