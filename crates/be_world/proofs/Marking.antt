-- One mark more.
use Rattle.std.proofs.Common.{◌≡◌, ℕ, ◌+◌, ◌*◌, ◌<◌, ◌≤◌, Bool, true, false, List, length, set}
use Rattle.std.proofs.Common.{length-set, ◌⊎◌, inl, inr, ⊎_elim, refl, sym, ap, subst, ◌∙◌, arith}
use Rattle.std.specs.Prelude.{slice_set}
use Rattle.std.proofs.Math.ListN.{get_or}
use Rattle.std.proofs.lemmas.List.{get_or-set_same, get_or-set_other}
use Rattle.be_world.specs.Marks.{IsTwin, Marks}

-- nothing is marked where nobody is to be
pub unmarked : (these : ℕ → Type 0) (marks : List Bool) → ((a : ℕ) → these a → ⊥)
    → Marks these marks marks
unmarked these marks none = record
    { long = refl; kept = λ a lt e. e; marked = λ a lt e is. none a is }

module _ (old mid : List Bool) (at : ℕ) (there : at < length mid) where
  one : (a : ℕ) → get_or (slice_set mid at true) a false ≡ false
      → (at ≡ a → ⊥) × (get_or mid a false ≡ false)
  one a e =
      let other : at ≡ a → ⊥ =
      λ same. let no : true ≡ false = sym (get_or-set_same mid at true false there)
      ∙ ap (λ z. get_or (set mid at true) z false) same ∙ e in absurd (cc) in
      (other, sym (get_or-set_other mid at a true false (λ same. other (sym same))) ∙ e)

  pub one_more : (these those : ℕ → Type 0) → Marks these old mid
      → ((a : ℕ) → those a → these a ⊎ (a ≡ at)) → Marks those old (slice_set mid at true)
  one_more these those m each = record {
    long = length-set mid at true ∙ m.long;
    kept = λ a lt e. m.kept a lt (one a e).1;
    marked = λ a lt e is. ⊎_elim (λ before. m.marked a lt (one a e).1 before)
        (λ now. (one a e).0 (sym now)) (each a is);
  }

pub fewer : (these those : ℕ → Type 0) (old new : List Bool) → Marks these old new
    → ((a : ℕ) → those a → these a) → Marks those old new
fewer these those old new m each =
    record { long = m.long; kept = m.kept; marked = λ a lt e is. m.marked a lt e (each a is) }

pub first_more : (k a : ℕ) → a < k + 1 → (a < k) ⊎ (a ≡ k)
first_more k a lt = search arith

twin_by : (apps k a w : ℕ) → a ≡ apps + (2 * w + 1) → (w < k) ⊎ (w ≡ k) → IsTwin apps k a
    ⊎ (a ≡ apps + 2 * k + 1)
twin_by apps k a w is (inl before) = inl (w, before, is)
twin_by apps k a w is (inr last) = inr (omega (arith, is, last))

pub twin_more : (apps k a : ℕ) → IsTwin apps (k + 1) a → IsTwin apps k a ⊎ (a ≡ apps + 2 * k + 1)
twin_more apps k a is = twin_by apps k a is.0 is.2 (first_more k is.0 is.1)
