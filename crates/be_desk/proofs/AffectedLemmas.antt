-- Which windows are listed, one by one.
use Rattle.std.specs.Prelude.{◌↔◌, ◌⊎◌}
use Rattle.std.specs.List.{AllPairs, Contains}
use Rattle.std.proofs.Common.{◌≡◌, ℕ, ℤ, ◌+◌, ◌<◌, ◌≤◌, List, [], ◌∷◌, ◌++◌, length, All, inl, inr, sym, ap, ◌∙◌, subst, arith, false}
use Rattle.std.proofs.lemmas.Bool.{cases_lt}
use Rattle.std.proofs.lemmas.List.Elements.{All-nil, All-push, All-weaker, All-contains, All-get_or, Contains-append_left, Contains-push, Contains-push_cases}
use Rattle.std.proofs.lemmas.List.Quantifiers.{all_pairs_push}
use Rattle.std.proofs.lemmas.Option.{slice_get_past}
use Rattle.be_geom.specs.Numbers.{is_number}
use Rattle.be_stack.specs.Owner.{owner_at, covers_pixel}
use Rattle.be_stack.specs.Windows.{Windows, passes}
use Rattle.be_stack.proofs.VisibleLemmas.{hidden_owns_none}
use Rattle.be_desk.specs.Affected.{AreAffected, OwnsTheSame}

-- a window is the changed one, or owns other pixels than before
abbrev pub IsAltered : Windows → Windows → ℕ → ℕ → Type 0
IsAltered before after w u = (u ≡ w) ⊎ (OwnsTheSame before after u → ⊥)

-- of the windows below a number exactly those
pub record AreListed (before after : Windows) (w n : ℕ) (names : List ℕ) : Type 0 where
  pub ascending : AllPairs (λ u v. u < v) names
  pub below : All (λ u. u < n) names
  pub named : (u : ℕ) → u < n → Contains names u ↔ IsAltered before after w u

pub none_listed : (before after : Windows) (w : ℕ) → AreListed before after w 0 []
none_listed before after w = record {
  ascending = λ i j d less within. absurd (omega arith);
  below = All-nil (λ u. u < 0);
  named = λ u less. absurd (omega arith);
}

further : (n : ℕ) (names : List ℕ) → All (λ u. u < n) names → All (λ u. u < n + 1) names
further n names below = All-weaker (λ u. u < n) (λ u. u < n + 1) (λ u less. omega arith) names below

-- the next is one of them
pub one_listed : (before after : Windows) (w n : ℕ) (names : List ℕ) → AreListed before after w n names → IsAltered before after w n → AreListed before after w (n + 1) (names ++ n ∷ [])
one_listed before after w n names listed altered = record {
  ascending = all_pairs_push (λ u v. u < v) names n listed.ascending (λ k d within. All-get_or (λ u. u < n) names k d within listed.below);
  below = All-push (λ u. u < n + 1) names n (further n names listed.below) (omega arith);
  named = λ u less. elim (cases_lt u n) [
    | inl below ↦ (
      λ there. elim (Contains-push_cases names n u there) [
        | inl old ↦ (listed.named u below).0 old
        | inr same ↦ absurd (omega arith)
      ],
      λ is. Contains-append_left names (n ∷ []) u ((listed.named u below).1 is),
    )
    | inr above ↦
        let same : n ≡ u = omega arith in
        (λ there. subst (λ v. IsAltered before after w v) same altered, λ is. subst (λ v. Contains (names ++ n ∷ []) v) same (Contains-push names n))
  ];
}

-- or it isn't
pub one_passed : (before after : Windows) (w n : ℕ) (names : List ℕ) → AreListed before after w n names → (IsAltered before after w n → ⊥) → AreListed before after w (n + 1) names
one_passed before after w n names listed not_altered = record {
  ascending = listed.ascending;
  below = further n names listed.below;
  named = λ u less. elim (cases_lt u n) [
    | inl below ↦ listed.named u below
    | inr above ↦
        let same : u ≡ n = omega arith in (
          λ there. let within : u < n = All-contains (λ v. v < n) names u listed.below there in absurd (omega arith),
          λ is. absurd (not_altered (subst (λ v. IsAltered before after w v) same is)),
        )
  ];
}

-- a number that no window has owns nothing
pub past_owns_none : (s : Windows) (u : ℕ) → length s.windows ≤ u → (x y : ℤ) → is_number u (owner_at s x y) ≡ false
past_owns_none s u past = hidden_owns_none s u (λ x y. ap (passes (covers_pixel x y)) (slice_get_past s.windows u past))

-- then those of all windows are all
pub all_listed : (before after : Windows) (w n : ℕ) (names : List ℕ) → n ≡ length before.windows → w < n → length after.windows ≡ n → AreListed before after w n names → AreAffected before after w names
all_listed before after w n names all there same listed = record {
  ascending = listed.ascending;
  named = λ u. elim (cases_lt u n) [
    | inl below ↦ listed.named u below
    | inr above ↦ (
      λ named. let within : u < n = All-contains (λ v. v < n) names u listed.below named in absurd (omega arith),
      λ is. elim is [
        | inl e ↦ absurd (omega arith)
        | inr differs ↦ absurd (differs (λ x y. past_owns_none before u (omega arith) x y ∙ sym (past_owns_none after u (omega arith) x y)))
      ],
    )
  ];
}
