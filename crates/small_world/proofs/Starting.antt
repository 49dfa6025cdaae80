-- A run may begin with the counters of the start.
use Rattle.std.proofs.Common.{◌≡◌, ℕ, zero, suc, ◌+◌, ◌*◌, ◌<◌, ◌≤◌, true, false, nat_lt, ◌==◌, if◌then◌else◌, List, [], ◌∷◌, ◌++◌, length, sym, refl, ap, ◌∙◌, arith}
use Rattle.std.proofs.lemmas.Bool.{not_from_true, both_ways, cond-false, cond_both, le-ltb}
use mathlib.Core.Option.{some}
use mathlib.Core.Logic.{dite}
use native.Mathlib.Decide.{dec_le}
use lib.ListN.{get_elem?}
use Rattle.atomic_table.proofs.Lists.{at_last, at_longer}
use Rattle.be_facts.proofs.Lists.{length_push}
use Rattle.be_hall.specs.Numbers.{total}
use Rattle.be_hall.specs.Machine.{AllFit}
use Rattle.small_world.specs.declared.step.Count.{Count}
use Rattle.small_world.specs.declared.world.World.{World}
use Rattle.small_world.specs.Counting.{closing_place, work_of, has_work, is_closed, IsSound}
use Rattle.small_world.specs.Opening.{opening_count, opening_below, opening_counts}
use Rattle.small_world.specs.Changing.{has_at, Fit}
use Rattle.small_world.specs.Laws.{work_units}

total_snoc : (f : Count → ℕ) (xs : List Count) (x : Count)
    → total f (xs ++ x ∷ []) ≡ total f xs + f x
total_snoc f [] x = omega arith
total_snoc f (y ∷ ys) x = let r = total_snoc f ys x in omega arith

fit_snoc : (n : ℕ) (xs : List Count) (x : Count) → AllFit Fit n xs → Fit n x
    → AllFit Fit n (xs ++ x ∷ [])
fit_snoc n [] x a f = (f, tt)
fit_snoc n (y ∷ ys) x a f = (a.0, fit_snoc n ys x a.1 f)

abbrev cost : Count → ℕ
cost c = 2 * c.left + c.units

module _ (w : World) (each stored : ℕ) where
  pub opening_next : (k : ℕ)
      → opening_below w each stored (k + 1) ≡ opening_below w each stored k ++ opening_count w each stored k ∷ []
  opening_next k = let e : k + 1 ≡ suc k = omega arith in ap (opening_below w each stored) e

  opening_long : (k : ℕ) → length (opening_below w each stored k) ≡ k
  opening_long zero = refl
  opening_long (suc k) =
      let m = length_push (opening_below w each stored k) (opening_count w each stored k) in
      let r = opening_long k in omega arith

  opening_at : (k p : ℕ) → p < k
      → get_elem? (opening_below w each stored k) p ≡ some (opening_count w each stored p)
  opening_at zero p l = absurd (omega arith)
  opening_at (suc k) p l =
      dite (dec_le k p)
      (λ last. let same : p ≡ k = omega arith in
      at_last (opening_below w each stored k) (opening_count w each stored k) p (opening_long k ∙ sym same)
      ∙ ap (λ q. some (opening_count w each stored q)) (sym same))
      (λ before. at_longer (opening_below w each stored k) (opening_count w each stored k ∷ []) p
      (opening_count w each stored p) (opening_at k p (omega arith)))

  few_units : (a : ℕ) → stored < 4294967296 → (opening_count w each stored a).units ≤ 4294967296
  few_units a small =
      cond_both (nat_lt a (closing_place w)) (if a == w.producers then stored else 0) 1
      (λ n. n ≤ 4294967296)
      (λ h. cond_both (a == w.producers) stored 0 (λ n. n ≤ 4294967296) (λ h. omega arith) (λ h. omega arith))
      (λ h. omega arith)

  few_left : (a : ℕ) → (opening_count w each stored a).left ≤ each
  few_left a =
      cond_both (nat_lt a w.producers) each 0 (λ n. n ≤ each) (λ h. omega arith) (λ h. omega arith)

  costs : (k : ℕ) → each < 4294967296 → stored < 4294967296 → total cost (opening_below w each stored k) ≤ k * 17179869184
  costs zero small few = omega arith
  costs (suc k) small few =
      let r = costs k small few in
      let t = total_snoc cost (opening_below w each stored k) (opening_count w each stored k) in
      let units = few_units k few in
      let left = few_left k in omega arith

  fit_below : (k : ℕ) → stored < 4294967296 → AllFit Fit 0 (opening_below w each stored k)
  fit_below zero few = tt
  fit_below (suc k) few =
      fit_snoc 0 (opening_below w each stored k) (opening_count w each stored k) (fit_below k few)
      (let units = few_units k few in omega arith)

  one_open : has_work w (opening_counts w each stored) (closing_place w) ≡ true
  one_open =
      let n = closing_place w in
      let c = opening_count w each stored n in
      let at = opening_at (n + 1) n (omega arith) in
      let units : c.units ≡ 1 = cond-false (nat_lt n n) (if n == w.producers then stored else 0) 1 (le-ltb n n (omega arith)) in
      has_at (work_of w n) (opening_counts w each stored) n c at
      ∙ ap (λ k. nat_lt 0 k) (work_units w n c (omega arith) ∙ units)

  pub open_at_start : is_closed w (opening_counts w each stored) ≡ false
  open_at_start = not_from_true (has_work w (opening_counts w each stored) (closing_place w)) one_open

  pub sound_at_start : IsSound w (opening_counts w each stored)
  sound_at_start = (
    opening_long (closing_place w + 1),
    λ closed. absurd
        (both_ways (is_closed w (opening_counts w each stored)) open_at_start closed),
  )

  pub fit_at_start : stored < 4294967296 → AllFit Fit 0 (opening_counts w each stored)
  fit_at_start few = fit_below (closing_place w + 1) few

  pub cost_at_start : each < 4294967296 → stored < 4294967296 → closing_place w < 131072
      → total cost (opening_counts w each stored) ≤ 4611686018427387904
  cost_at_start small few many = let t = costs (closing_place w + 1) small few in omega arith
