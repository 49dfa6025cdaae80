-- The input goes on, or the run stops.
use Rattle.std.proofs.Common.{◌≡◌, ℕ, ◌<◌, ◌≤◌, arith, [], ◌∷◌, Some, ◌⊎◌, inl, inr, refl, sym, ap, ◌∙◌, subst}
use Rattle.std.specs.Prelude.{IfSome}
use Rattle.be_asking.proofs.Small.{small}
use Rattle.be_asking.specs.declared.activity.Activity.TheVariants as who
use Rattle.be_asking.specs.declared.want.Want.TheVariants as want
use Rattle.be_hall.specs.Hands.{Hand, part_at}
use Rattle.be_machine.specs.State.{State}
use Rattle.be_machine.specs.Step.{met}
use Rattle.be_machine.specs.Touched as part
use Rattle.be_machine.specs.Wants.{stops, uses}
use Rattle.be_parts.specs.Effects.{input_stopped, input_used}
use Rattle.be_parts.specs.Kept.{Kept, Logged}
use Rattle.be_parts.specs.Parts.{hand_with}
use Rattle.be_parts.specs.declared.part.Part.{Part}
use Rattle.be_parts.specs.declared.part.Part.TheVariants as kinds
use Rattle.be_rules.specs.Places.{place_of}
use Rattle.be_rules.specs.Rules.{SliceFits}
use Rattle.be_rules.specs.Slices.{Slice, input_in, slice_of}
use Rattle.be_script.specs.Script.{Declared}
use Rattle.be_script.specs.declared.InputLine.{InputLine}
use Rattle.be_script.specs.declared.InputLine.TheVariants.{After}
use Rattle.be_steps.proofs.Making.{held_there, now, read, there}
use Rattle.be_steps.proofs.Whole.{done_whole}
use Rattle.be_steps.specs.Made.{IsMade}
use Rattle.be_steps.specs.Steps.{IsAllowed, IsDone}
use Rattle.be_steps.specs.There.{IsThere}
use Rattle.be_steps.specs.Using.{MayGoOn}

-- ---- the states

-- what an event that waits for an application makes of a part
used_slice : (d : Declared) (s : State) (line : InputLine) (m : ℕ) → line ≡ After m → (x : part.Part) (b : Kept) → IsMade x ((part.input, kinds.Input b) ∷ []) ⊎ (slice_of (met d s (uses line)) x ≡ slice_of s x)
unfolding met
used_slice d s line m is x b = subst (λ (l : InputLine). IsMade x ((part.input, kinds.Input b) ∷ []) ⊎ (slice_of (met d s (uses l)) x ≡ slice_of s x)) (sym is) (by x)
  where
    by : (x : part.Part) → IsMade x ((part.input, kinds.Input b) ∷ []) ⊎ (slice_of (met d s (uses (After m))) x ≡ slice_of s x)
    by part.desk = inr refl
    by part.input = inl (inl refl)
    by (part.cell n) = inr refl
    by (part.looper w) = inr refl
    by (part.port w) = inr refl
    by (part.link w) = inr refl
    by (part.pane w) = inr refl

used_input : (d : Declared) (s : State) (line : InputLine) (m : ℕ) → line ≡ After m → slice_of (met d s (uses line)) part.input ≡ input_used (slice_of s part.input)
unfolding met
used_input d s line m is = ap (λ (l : InputLine). slice_of (met d s (uses l)) part.input) is

stopped_slice : (d : Declared) (s : State) (x : part.Part) (b : Kept) → IsMade x ((part.input, kinds.Input b) ∷ []) ⊎ (slice_of (met d s stops) x ≡ slice_of s x)
unfolding met
stopped_slice d s part.desk b = inr refl
stopped_slice d s part.input b = inl (inl refl)
stopped_slice d s (part.cell n) b = inr refl
stopped_slice d s (part.looper w) b = inr refl
stopped_slice d s (part.port w) b = inr refl
stopped_slice d s (part.link w) b = inr refl
stopped_slice d s (part.pane w) b = inr refl

stopped_input : (d : Declared) (s : State) → slice_of (met d s stops) part.input ≡ input_stopped (slice_of s part.input)
unfolding met
stopped_input d s = refl

-- ---- an event

pub few_by : (slice : Slice) (s : State) → slice ≡ slice_of s part.input → SliceFits 4611686018427387904 slice → IfSome (input_in slice) (λ known. known.0 < 18446744073709551615)
few_by slice s is fits =
    let few : s.events ≤ 4611686018427387904 = subst (SliceFits 4611686018427387904) is fits in
    subst (λ (x : Slice). IfSome (input_in x) (λ known. known.0 < 18446744073709551615)) (sym is) (omega (arith, few))

module _ (d : Declared) (old : Hand Part) (may : MayGoOn d old.parts) where
  abbrev s : State
  s = now d old.parts who.Input (want.Uses may.line) may.allowed

  pub input_there : IsThere d old.parts part.input
  input_there = there d old.parts who.Input (want.Uses may.line) may.allowed part.input (inl refl)

  module _ (place : ℕ) (spot : place ≡ place_of d part.input) (was : Kept) (at : part_at old.parts place ≡ Some (kinds.Input was)) where
    here : part_at old.parts (place_of d part.input) ≡ Some (kinds.Input was)
    here = ap (part_at old.parts) (sym spot) ∙ at

    is : slice_of s part.input ≡ was.slice
    is = read d old.parts who.Input (want.Uses may.line) may.allowed part.input (kinds.Input was) tt here

    pub few_events : IfSome (input_in was.slice) (λ known. known.0 < 18446744073709551615)
    few_events = few_by was.slice s (sym is) (small 4611686018427387904 old.parts place (kinds.Input was) may.allowed.asked.small at)

    pub used_up : (k : Kept) → k.slice ≡ input_used was.slice → k.log ≡ was.log → IsDone d who.Input old (hand_with old place (kinds.Input k))
    used_up k slice log =
        done_whole d old.parts who.Input (want.Uses may.line) may.allowed old (hand_with old place (kinds.Input k)) ((part.input, kinds.Input k) ∷ []) refl refl
        (kinds.Input was, here, ap (λ (l : Logged). Some l) log, ap (λ n. (hand_with old n (kinds.Input k)).parts) spot)
        (inr (tt, used_input d s may.line.now may.app may.waits ∙ ap input_used is ∙ sym slice), tt)
        (λ x. used_slice d s may.line.now may.app may.waits x k)

-- ---- the end

module _ (d : Declared) (old : Hand Part) (allowed : IsAllowed d old.parts who.Closing want.Stops) where
  abbrev last : State
  last = now d old.parts who.Closing want.Stops allowed

  pub input_held : IsThere d old.parts part.input
  input_held = record {
    reachable = record { limits = allowed.asked.limits; fitting = allowed.asked.fitting; there = tt };
    held = held_there d old.parts who.Closing want.Stops allowed part.input tt tt;
  }

  module _ (place : ℕ) (spot : place ≡ place_of d part.input) (was : Kept) (at : part_at old.parts place ≡ Some (kinds.Input was)) where
    held_here : part_at old.parts (place_of d part.input) ≡ Some (kinds.Input was)
    held_here = ap (part_at old.parts) (sym spot) ∙ at

    pub has_stopped : (k : Kept) → k.slice ≡ input_stopped was.slice → k.log ≡ was.log → IsDone d who.Closing old (hand_with old place (kinds.Input k))
    has_stopped k slice log =
        done_whole d old.parts who.Closing want.Stops allowed old (hand_with old place (kinds.Input k)) ((part.input, kinds.Input k) ∷ []) refl refl
        (kinds.Input was, held_here, ap (λ (l : Logged). Some l) log, ap (λ n. (hand_with old n (kinds.Input k)).parts) spot)
        (inr (tt, stopped_input d last ∙ ap input_stopped (read d old.parts who.Closing want.Stops allowed part.input (kinds.Input was) tt held_here) ∙ sym slice), tt)
        (λ x. stopped_slice d last x k)
