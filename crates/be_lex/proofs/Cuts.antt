-- What a list is cut into, from its front.
use Rattle.std.proofs.Common.{◌≡◌, ℕ, add-one, drop-cons, ◌+◌, ◌<◌, ◌⊎◌, inl, inr, Bool, true, false, cond, List, [], ◌∷◌, length, get_or, take, drop, refl, ap, subst, arith}
use Rattle.std.specs.List.{slice_split, onto_first, position_or_len}
use Rattle.std.proofs.lemmas.Bool.{cases_lt}
use Rattle.std.proofs.lemmas.List.Sums.{passes_at_first, fails_before_first}
use Rattle.std.proofs.lemmas.List.Splits.{slice_split_first, slice_split_none}
use Rattle.std.proofs.lemmas.List.{take_all}
use Rattle.std.proofs.Math.ListN.{drop_of_length-le}

-- there is a first piece
pub split_pieces : {X : Type 0} (p : X → Bool) (xs : List X) → (piece : List X) × (pieces : List (List X)) × (slice_split p xs ≡ piece ∷ pieces)
split_pieces p [] = ([], [], refl)
split_pieces p (x ∷ xs) =
    elim (p x) as (λ b. (piece : List _) × (pieces : List (List _)) × (cond b ([] ∷ slice_split p xs) (onto_first x (slice_split p xs)) ≡ piece ∷ pieces)) [
      | true ↦ ([], slice_split p xs, refl)
      | false ↦ let r = split_pieces p xs in (x ∷ r.0, r.1, ap (onto_first x) r.2)
    ]

-- a list is cut at the first element that passes: where none passes it is one piece, and else the first piece stands
-- before that element
pub split_cut : (p : ℕ → Bool) (xs : List ℕ) (n : ℕ) → n ≡ position_or_len p xs
    → ((drop n xs ≡ []) × (take n xs ≡ xs) × (slice_split p xs ≡ xs ∷ []))
    ⊎ ((x : ℕ) × (rest : List ℕ) × (drop n xs ≡ x ∷ rest) × (p x ≡ true) × (slice_split p xs ≡ take n xs ∷ slice_split p rest))
split_cut p xs n e =
    elim (cases_lt n (length xs)) [
      | inl lt ↦
          let lt' : position_or_len p xs < length xs = subst (λ k. k < length xs) e lt in
          inr (get_or xs n 0, drop (n + 1) xs, rw (add-one, drop-cons xs n 0) refl, rw e (passes_at_first p xs 0 lt'), rw e (slice_split_first p xs 0 lt'))
      | inr le ↦
          inl (drop_of_length-le xs le, take_all n xs le, slice_split_none p xs (λ k d lt. fails_before_first p xs k d (omega arith)))
    ]
