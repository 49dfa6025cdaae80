-- The activities that have a legal entry, as a run lists them, and these entries, as the machine
-- lists them.
use Rattle.std.proofs.Common.{◌≡◌, ℕ, zero, suc, ◌+◌, ◌<◌, List, [], ◌∷◌, ◌++◌}
use Rattle.std.proofs.Common.{length, Option, Some, None, refl, sym, ap, subst, ◌∙◌, arith}
use Rattle.std.specs.Prelude.{slice_get, filter_map}
use Rattle.std.specs.List.{range_with_len, cons_option}
use Rattle.std.proofs.lemmas.List.Elements.{filter_map-append}
use Rattle.std.proofs.Math.ListN.{get_or}
use Rattle.be_facts.proofs.Lists.{range_more}
use Rattle.be_serial.specs.Scheduled.{pushed_if, ready_below}
use Rattle.be_turns.specs.Turning.{is_some}

module _ {E : Type 0} (f : ℕ → Option E) where
  -- each of these makes the entry that stands beside it
  abbrev pub Make : List ℕ → List E → Type 0
  Make [] [] = Unit {0}
  Make (a ∷ ns) (e ∷ es) = (f a ≡ Some e) × Make ns es
  Make [] (e ∷ es) = ⊥
  Make (a ∷ ns) [] = ⊥

  one_more : (a : ℕ) (e : E) (ns : List ℕ) (es : List E) → f a ≡ Some e → Make ns es
      → Make (ns ++ a ∷ []) (es ++ e ∷ [])
  one_more a e [] [] is all = (is, tt)
  one_more a e (b ∷ bs) (x ∷ xs) is all = (all.0, one_more a e bs xs is all.1)
  one_more a e [] (x ∷ xs) is all = absurd all
  one_more a e (b ∷ bs) [] is all = absurd all

  no_more : (ns : List ℕ) (es : List E) → Make ns es → Make ns (es ++ [])
  no_more [] [] all = tt
  no_more (b ∷ bs) (x ∷ xs) all = (all.0, no_more bs xs all.1)
  no_more [] (x ∷ xs) all = absurd all
  no_more (b ∷ bs) [] all = absurd all

  next : (a : ℕ) (o : Option E) (ns : List ℕ) (es : List E) → f a ≡ o → Make ns es
      → Make (pushed_if (is_some o) ns a) (es ++ cons_option o [])
  next a (Some e) ns es is all = one_more a e ns es is all
  next a None ns es is all = no_more ns es all

  pub as_many : (ns : List ℕ) (es : List E) → Make ns es → length ns ≡ length es
  as_many [] [] all = refl
  as_many (a ∷ ns) (e ∷ es) all = ap suc (as_many ns es all.1)
  as_many [] (e ∷ es) all = absurd all
  as_many (a ∷ ns) [] all = absurd all

  pub made_by : (ns : List ℕ) (es : List E) (k : ℕ) → Make ns es → k < length ns
      → slice_get es k ≡ f (get_or ns k 0)
  made_by (a ∷ ns) (e ∷ es) zero all below = sym all.0
  made_by (a ∷ ns) (e ∷ es) (suc k) all below = made_by ns es k all.1 (omega arith)
  made_by [] [] k all below = absurd (omega arith)
  made_by [] (e ∷ es) k all below = absurd all
  made_by (a ∷ ns) [] k all below = absurd all

module _ {M E : Type 0} (legal : List M → ℕ → Option E) (all : List M) where
  -- those that are listed make just the entries that there are
  pub all_listed : (n : ℕ)
      → Make (legal all) (ready_below legal all n) (filter_map (legal all) (range_with_len 0 n))
  all_listed zero = tt
  all_listed (suc n) =
      let front : List E = filter_map (legal all) (range_with_len 0 n) in
      let last : 0 + n ≡ n = omega arith in
      let more : filter_map (legal all) (range_with_len 0 (suc n))
      ≡ front ++ filter_map (legal all) (n ∷ []) =
      ap (filter_map (legal all))
      (range_more 0 n ∙ ap (λ j. range_with_len 0 n ++ j ∷ []) last)
      ∙ filter_map-append (legal all) (range_with_len 0 n) (n ∷ []) in
      subst (Make (legal all) (ready_below legal all (suc n))) (sym more)
      (next (legal all) n (legal all n) (ready_below legal all n) front refl (all_listed n))
