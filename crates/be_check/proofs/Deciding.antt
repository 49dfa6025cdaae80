-- Whether an entry is legal is decided, and so is whether a history is finished.
use Rattle.std.proofs.Common.{◌≡◌, ℕ, suc, ◌+◌, ◌<◌, Bool, true, false}
use Rattle.std.proofs.Common.{List, [], ◌∷◌, length, take, Option, Some, None, ◌⊎◌, inl, inr}
use Rattle.std.proofs.Common.{refl, sym, ap, subst, arith}
use Rattle.std.specs.Prelude.{slice_get}
use Rattle.std.specs.Coded.{Coded, codes}
use Rattle.std.proofs.lemmas.List.{take_all}
use Rattle.std.proofs.lemmas.Option.{slice_get_past}
use base.Stored.{Gv, gnil, gnum, gcons}
use mathlib.Core.Logic.{dite}
use native.Mathlib.Decide.{ℕ_discrete}
use Rattle.be_machine.specs.History.{AreLegalFrom, IsFinished, state_after, state_from}
use Rattle.be_machine.specs.Legal.{IsLegal, legal_act}
use Rattle.be_machine.specs.State.{State, opening_state}
use Rattle.be_machine.specs.Step.{step}
use Rattle.be_machine.specs.declared.Act.{Act}
use Rattle.be_machine.specs.declared.Entry.{Entry}
use Rattle.be_script.specs.Script.{Declared}
use Rattle.be_check.specs.Checking.{IsBad, IsIllegalAt}

-- ---- acts

-- the one or the other
abbrev Decided : Type 0 → Type 0
Decided A = A ⊎ (¬ A)

tree_same : (a b : Gv) → Decided (a ≡ b)
tree_same gnil gnil = inl refl
tree_same gnil (gnum n) = inr (λ e. cc)
tree_same gnil (gcons c d) = inr (λ e. cc)
tree_same (gnum m) gnil = inr (λ e. cc)
tree_same (gnum m) (gnum n) =
    dite (ℕ_discrete m n) (λ e. inl (ap gnum e)) (λ apart. inr (λ e. apart (cc)))
tree_same (gnum m) (gcons c d) = inr (λ e. cc)
tree_same (gcons a b) gnil = inr (λ e. cc)
tree_same (gcons a b) (gnum n) = inr (λ e. cc)
tree_same (gcons a b) (gcons c d) =
    elim (tree_same a c) [
      | inl first ↦ elim (tree_same b d) [
        | inl rest ↦ inl (λ i. gcons (first i) (rest i))
        | inr apart ↦ inr (λ e. apart (cc))
      ]
      | inr apart ↦ inr (λ e. apart (cc))
    ]

act_code : Coded (Option Act)
act_code = hlevel codes

act_same : (a b : Option Act) → Decided (a ≡ b)
act_same a b =
    elim (tree_same (act_code.code a) (act_code.code b)) [
      | inl e ↦ inl (act_code.inj a b e)
      | inr apart ↦ inr (λ e. apart (ap act_code.code e))
    ]

is_legal : (d : Declared) (s : State) (e : Entry) → Decided (IsLegal d s e)
is_legal d s e = act_same (legal_act d s e.actor) (Some e.act)

-- ---- histories

-- an entry that isn't legal behind legal ones
record FirstBad (d : Declared) (s : State) (h : List Entry) : Type 0 where
  pub before : ℕ
  pub within : before < length h
  pub legal : AreLegalFrom d s (take before h)
  pub entry : Entry
  pub there : slice_get h before ≡ Some entry
  pub bad : ¬ IsLegal d (state_from d s (take before h)) entry

module _ (d : Declared) where
  here : (s : State) (e : Entry) (es : List Entry) → ¬ IsLegal d s e → FirstBad d s (e ∷ es)
  unfolding AreLegalFrom state_from
  here s e es bad = record {
    before = 0;
    within = omega arith;
    legal = tt;
    entry = e;
    there = refl;
    bad = bad;
  }

  later : (s : State) (e : Entry) (es : List Entry) → IsLegal d s e → FirstBad d (step d s e) es
      → FirstBad d s (e ∷ es)
  unfolding AreLegalFrom state_from
  later s e es legal at = record {
    before = suc at.before;
    within = let lt = at.within in omega arith;
    legal = (legal, at.legal);
    entry = at.entry;
    there = at.there;
    bad = at.bad;
  }

  all_or_first : (s : State) (h : List Entry) → AreLegalFrom d s h ⊎ FirstBad d s h
  unfolding AreLegalFrom
  all_or_first s [] = inl tt
  all_or_first s (e ∷ es) =
      elim (is_legal d s e) [
        | inl legal ↦ elim (all_or_first (step d s e) es) [
          | inl rest ↦ inl (legal, rest)
          | inr at ↦ inr (later s e es legal at)
        ]
        | inr bad ↦ inr (here s e es bad)
      ]

  illegal_at : (h : List Entry) → FirstBad d (opening_state d) h
      → (number : ℕ) × IsIllegalAt d h number
  illegal_at h at = (
    at.before + 1,
    record {
      before = at.before;
      counted = refl;
      within = let lt = at.within in omega arith;
      legal = at.legal;
      bad = subst (IsBad d (state_after d (take at.before h))) (sym at.there) at.bad;
    },
  )

  stopped_or : (h : List Entry) (b : Bool) → (state_after d h).stopped ≡ b
      → AreLegalFrom d (opening_state d) h
      → IsFinished d h ⊎ ((number : ℕ) × IsIllegalAt d h number)
  stopped_or h true is legal = inl (record { legal = legal; stopped = is })
  stopped_or h false is legal =
      let all : take (length h) h ≡ h = take_all (length h) h (omega arith) in
      let past : slice_get h (length h) ≡ None = slice_get_past h (length h) (omega arith) in
      let still : (state_after d (take (length h) h)).stopped ≡ false =
      subst (λ (l : List Entry). (state_after d l).stopped ≡ false) (sym all) is in
      inr (
        length h + 1,
        record {
          before = length h;
          counted = refl;
          within = omega arith;
          legal = subst (AreLegalFrom d (opening_state d)) (sym all) legal;
          bad = subst (IsBad d (state_after d (take (length h) h))) (sym past) still;
        },
      )

  pub finished_or_illegal : (h : List Entry)
      → IsFinished d h ⊎ ((number : ℕ) × IsIllegalAt d h number)
  finished_or_illegal h =
      elim (all_or_first (opening_state d) h) [
        | inl legal ↦ stopped_or h (state_after d h).stopped refl legal
        | inr at ↦ inr (illegal_at h at)
      ]
