-- The parts to which the first entries of a history lead.
use Rattle.std.proofs.Common.{◌≡◌, ℕ, ◌+◌, ◌<◌, ◌≤◌, Bool, true, false, List, [], ◌∷◌, ◌++◌}
use Rattle.std.proofs.Common.{length, map, take, get_or, All, Some, None}
use Rattle.std.proofs.Common.{refl, sym, ap, subst, ◌∙◌, arith}
use Rattle.std.specs.Prelude.{slice_get}
use Rattle.std.proofs.lemmas.List.{take_all, take_more}
use Rattle.std.proofs.lemmas.Option.{slice_get-get_or, slice_get_past}
use Rattle.be_hall.specs.Hands.{numbered}
use Rattle.be_hall.specs.Machine.{AllFit}
use Rattle.be_hall.specs.Numbers.{total}
use Rattle.be_machine.proofs.Histories.{legal_more, state_more}
use Rattle.be_machine.proofs.ProgressFinished.{ends_finished, finished_ends}
use Rattle.be_machine.specs.History.{AreLegalFrom, IsFinished, IsLegalHistory}
use Rattle.be_machine.specs.History.{state_after, state_from}
use Rattle.be_machine.specs.Legal.{IsLegal}
use Rattle.be_machine.specs.Orderly.{EndsInStop}
use Rattle.be_machine.specs.State.{opening_state}
use Rattle.be_machine.specs.Step.{step}
use Rattle.be_machine.specs.declared.Entry.{Entry}
use Rattle.be_check.proofs.Following.{follows_opening, state_opening}
use Rattle.be_check.specs.Following.{Follows, now_of, state_in}
use Rattle.be_parts.specs.Parts.{log_of, meaning_of}
use Rattle.be_parts.specs.declared.part.Part.{Part}
use Rattle.be_rules.proofs.Lawfully.{back}
use Rattle.be_rules.specs.Rules.{IsSound, SliceFits}
use Rattle.be_rules.specs.Shares.{share}
use Rattle.be_rules.specs.Slices.{Slice, slices}
use Rattle.be_script.specs.Script.{Declared}
use Rattle.be_script.specs.Work.{work_of}
use Rattle.be_check.specs.Checking.{IsBad, IsIllegalAt}
use Rattle.be_check.specs.Stepping.{IsMade}

-- the first n entries of a history are legal, and lead to these parts
pub record HasCome (d : Declared) (h : List Entry) (n : ℕ) (parts : List (ℕ × Part))
    : Type 0 where
  pub follows : Follows d parts n
  pub legal : IsLegalHistory d (take n h)
  pub state : state_in d parts ≡ state_after d (take n h)

module _ (d : Declared) (h : List Entry) where
  pub come_first : (parts : List (ℕ × Part)) → Follows d parts 0
      → state_in d parts ≡ opening_state d → HasCome d h 0 parts
  unfolding AreLegalFrom state_from
  come_first parts follows state = record { follows = follows; legal = tt; state = state }

  -- the parts of the opening
  pub come_opening : (xs : List Part) → map meaning_of xs ≡ slices d (opening_state d)
      → IsSound d (map meaning_of xs) → total (share d) (map meaning_of xs) ≤ work_of d
      → AllFit SliceFits 0 (map meaning_of xs) → All (λ part. log_of part ≡ []) xs
      → (parts : List (ℕ × Part)) → parts ≡ numbered 0 xs → HasCome d h 0 parts
  come_opening xs means sound budgets fits logs parts is =
      subst (HasCome d h 0) (sym is)
      (come_first (numbered 0 xs) (follows_opening d xs means sound budgets fits logs)
      (state_opening d xs means sound))

  module _ (n : ℕ) (e : Entry) (within : n < length h) (is : e ≡ get_or h n e) where
    longer : take (n + 1) h ≡ take n h ++ e ∷ []
    longer = take_more h n e within ∙ ap (λ (x : Entry). take n h ++ x ∷ []) (sym is)

    there : slice_get h n ≡ Some e
    there = slice_get-get_or h n e within ∙ ap Some (sym is)

    module _ (parts : List (ℕ × Part)) (come : HasCome d h n parts) where
      pub come_further : (new : List (ℕ × Part)) → IsMade d e n parts new → HasCome d h (n + 1) new
      come_further new made =
          let legal : IsLegal d (state_after d (take n h)) e =
          subst (λ s. IsLegal d s e) come.state made.legal in
          record {
            follows = made.follows;
            legal =
                subst (IsLegalHistory d) (sym longer)
                (legal_more d (opening_state d) (take n h) e come.legal legal);
            state =
                made.state ∙ ap (λ s. step d s e) come.state
                ∙ sym (state_more d (opening_state d) (take n h) e)
                ∙ ap (state_after d) (sym longer);
          }

      pub illegal_here : ¬ IsLegal d (state_in d parts) e → IsIllegalAt d h (n + 1)
      illegal_here wrong =
          let bad : ¬ IsLegal d (state_after d (take n h)) e =
          subst (λ s. ¬ IsLegal d s e) come.state wrong in
          record {
            before = n;
            counted = refl;
            within = omega arith;
            legal = come.legal;
            bad = subst (IsBad d (state_after d (take n h))) (sym there) bad;
          }

  -- ---- behind the last entry

  module _ (n : ℕ) (whole : n ≡ length h) (parts : List (ℕ × Part)) (come : HasCome d h n parts)
    where
      all : take n h ≡ h
      all = take_all n h (omega arith)

      legal : IsLegalHistory d h
      legal = subst (IsLegalHistory d) all come.legal

      pub is_finished : EndsInStop h → IsFinished d h
      is_finished ends = ends_finished d h legal ends

      runs_by : (b : Bool) → (state_after d h).stopped ≡ b → ¬ EndsInStop h → b ≡ false
      runs_by true is endless =
          let finished : IsFinished d h = record { legal = legal; stopped = is } in
          absurd (endless (finished_ends d h finished))
      runs_by false is endless = refl

      pub missing_stop : ¬ EndsInStop h → IsIllegalAt d h (n + 1)
      missing_stop endless =
          let runs : (state_after d h).stopped ≡ false =
          runs_by (state_after d h).stopped refl endless in
          let past : slice_get h n ≡ None = slice_get_past h n (omega arith) in
          let still : (state_after d (take n h)).stopped ≡ false =
          subst (λ (l : List Entry). (state_after d l).stopped ≡ false) (sym all) runs in
          record {
            before = n;
            counted = refl;
            within = omega arith;
            legal = come.legal;
            bad = subst (IsBad d (state_after d (take n h))) (sym past) still;
          }

      -- what is left of the parts is cut from the state after the history
      now_is : now_of parts ≡ slices d (state_after d h)
      now_is =
          come.follows.sound.is
          ∙ ap (slices d) (sym (back d (now_of parts) come.follows.sound) ∙ come.state
          ∙ ap (state_after d) all)

      pub parts_are : (left : List Part) → left ≡ map (λ x. x.1) parts
          → map meaning_of left ≡ slices d (state_after d h)
      parts_are left is = ap (map meaning_of) is ∙ seconds parts ∙ now_is
        where
          seconds : (xs : List (ℕ × Part)) → map meaning_of (map (λ x. x.1) xs) ≡ now_of xs
          seconds [] = refl
          seconds (x ∷ xs) = ap (λ (l : List Slice). meaning_of x.1 ∷ l) (seconds xs)
