-- A history is finished or illegal at one number alone.
use Rattle.std.proofs.Common.{◌≡◌, ℕ, zero, suc, ◌<◌, ◌≤◌, true, false}
use Rattle.std.proofs.Common.{List, [], ◌∷◌, length, take, Option, Some, None}
use Rattle.std.proofs.Common.{refl, sym, ap, subst, ◌∙◌, arith}
use Rattle.std.specs.Prelude.{slice_get}
use Rattle.std.proofs.lemmas.List.{take_all}
use Rattle.std.proofs.lemmas.Option.{same_Some, slice_get_within}
use mathlib.Core.Logic.{dite}
use native.Mathlib.Decide.{dec_le}
use Rattle.be_facts.proofs.Lists.{none_past}
use Rattle.be_machine.specs.History.{AreLegalFrom, IsFinished, IsLegalHistory}
use Rattle.be_machine.specs.History.{state_after, state_from}
use Rattle.be_machine.specs.Legal.{IsLegal}
use Rattle.be_machine.specs.State.{State, opening_state}
use Rattle.be_machine.specs.Step.{step}
use Rattle.be_machine.specs.declared.Entry.{Entry}
use Rattle.be_script.specs.Script.{Declared}
use Rattle.be_check.specs.Checking.{IsBad, IsIllegalAt}

-- each of the first m entries is legal where it stands
legal_before : (d : Declared) (s : State) (h : List Entry) (n m : ℕ) (e : Entry) → n < m
    → AreLegalFrom d s (take m h) → slice_get h n ≡ Some e
    → IsLegal d (state_from d s (take n h)) e
unfolding AreLegalFrom state_from
legal_before d s [] n m e lt legal at = absurd (cc)
legal_before d s (x ∷ xs) n zero e lt legal at = absurd (omega arith)
legal_before d s (x ∷ xs) zero (suc m) e lt legal at =
    subst (IsLegal d s) (same_Some x e at) legal.0
legal_before d s (x ∷ xs) (suc n) (suc m) e lt legal at =
    legal_before d (step d s x) xs n m e (omega arith) legal.1 at

module _ (d : Declared) (h : List Entry) where
  -- no entry is bad among legal ones
  bad_before : (n m : ℕ) (o : Option Entry) → n < m → m ≤ length h → IsLegalHistory d (take m h)
      → slice_get h n ≡ o → IsBad d (state_after d (take n h)) o → ⊥
  bad_before n m (Some e) lt within legal at bad =
      bad (legal_before d (opening_state d) h n m e lt legal at)
  bad_before n m None lt within legal at bad =
      let past : length h ≤ n = none_past h n at in absurd (omega arith)

  bad_end : (n : ℕ) (o : Option Entry) → n ≤ length h → slice_get h n ≡ o
      → IsBad d (state_after d (take n h)) o → ¬ IsFinished d h
  bad_end n (Some e) within at bad finished =
      let all : take (length h) h ≡ h = take_all (length h) h (omega arith) in
      bad (legal_before d (opening_state d) h n (length h) e (slice_get_within h n e at)
      (subst (IsLegalHistory d) (sym all) finished.legal) at)
  bad_end n None within at bad finished =
      let past : length h ≤ n = none_past h n at in
      let all : take n h ≡ h = take_all n h past in
      let odd : false ≡ true =
      sym bad ∙ ap (λ (l : List Entry). (state_after d l).stopped) all ∙ finished.stopped in
      absurd (cc)

pub not_both : (d : Declared) (h : List Entry) (number : ℕ) → IsIllegalAt d h number
    → ¬ IsFinished d h
not_both d h number at =
    bad_end d h at.before (slice_get h at.before) at.within refl at.bad

pub one_alone : (d : Declared) (h : List Entry) (one other : ℕ) → IsIllegalAt d h one
    → IsIllegalAt d h other → one ≡ other
one_alone d h one other a b =
    dite (dec_le b.before a.before)
    (λ le. dite (dec_le a.before b.before)
    (λ ge. let here = a.counted in let there = b.counted in omega arith)
    (λ above. absurd (bad_before d h b.before a.before (slice_get h b.before) (omega arith)
    a.within a.legal refl b.bad)))
    (λ below. absurd (bad_before d h a.before b.before (slice_get h a.before) (omega arith)
    b.within b.legal refl a.bad))
