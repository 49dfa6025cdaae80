-- What parts note along a legal history is what their runners' own entries say.
use Rattle.std.proofs.Common.{◌≡◌, ℕ, ◌+◌, Bool, true, false, List, [], ◌∷◌, ◌++◌, length, eq-eqb, ne_eqb, Option, Some, None, refl, sym, ap, ◌∙◌, subst, arith}
use Rattle.std.specs.Prelude.{◌==◌, if◌then◌else◌}
use Rattle.std.specs.Option.{option_map_or}
use mathlib.Core.Logic.{dite}
use native.Mathlib.Decide.{ℕ_discrete}
use Rattle.be_machine.specs.Activities.{Activity, Runner, activity_of, app, closing, input, looper, runner, twin}
use Rattle.be_machine.specs.History.{AreLegalFrom, IsLegalHistory, state_after, state_from}
use Rattle.be_machine.specs.State.{opening_state}
use Rattle.be_machine.specs.Step.{step}
use Rattle.be_machine.specs.Traces.{Trace, same_runner, traces_of}
use Rattle.be_machine.specs.declared.Entry.{Entry}
use Rattle.be_machine.proofs.Histories.{InRange, in_range, legal_more, state_more}
use Rattle.be_noting.specs.Noting.{noted_from}
use Rattle.be_rules.proofs.Cut.{put_together}
use Rattle.be_rules.proofs.Lawfully.{whole_after}
use Rattle.be_rules.specs.Rules.{kept_at, world_machine}
use Rattle.be_rules.specs.Slices.{slices, state_of}
use Rattle.be_script.specs.Limits.{IsWithinLimits}
use Rattle.be_script.specs.Script.{Declared}
use Rattle.be_written.proofs.OwnTexts.{traces_are_own_texts}
use Rattle.be_written.specs.Notings.{entry_text, is_made_by, maker_trace, own_texts_from, text_by}
use Rattle.be_written.specs.Runners.{IsRunner, runner_in}
use Rattle.be_written.specs.TraceText.{noted_text}
use Rattle.be_jotted.specs.Jotting.{home_of, told_of}

-- ---- places

same_test : (a b m n : ℕ) → (a ≡ b → m ≡ n) → (m ≡ n → a ≡ b) → (a == b) ≡ (m == n)
same_test a b m n to from = dite (ℕ_discrete m n)
    (λ e. eq-eqb a b (from e) ∙ sym (eq-eqb m n e))
    (λ e. ne_eqb a b (λ is. e (to is)) ∙ sym (ne_eqb m n e))

-- a runner keeps at its home what it makes itself
home_test : (d : Declared) (who maker : Runner) → IsRunner d who → IsRunner d maker → (home_of d who == home_of d maker) ≡ same_runner who maker
home_test d (app m) (app n) a b = same_test (2 + m) (2 + n) m n (λ e. omega arith) (λ e. omega arith)
home_test d (looper w) (looper v) a b = same_test (2 + length d.apps + w) (2 + length d.apps + v) w v (λ e. omega arith) (λ e. omega arith)
home_test d (app m) (looper w) a b = ne_eqb (2 + m) (2 + length d.apps + w) (λ e. omega arith)
home_test d (looper w) (app m) a b = ne_eqb (2 + length d.apps + w) (2 + m) (λ e. omega arith)

either_way : (b : Bool) (text : List ℕ) → text ≡ [] → (if b then text else []) ≡ []
either_way true text none = none
either_way false text none = refl

-- the texts of others are empty
abbrev IsTextOf : Option Activity → List ℕ → Type 0
IsTextOf (Some (runner who)) text = Unit {0}
IsTextOf (Some (twin w)) text = text ≡ []
IsTextOf (Some input) text = text ≡ []
IsTextOf (Some closing) text = text ≡ []
IsTextOf None text = text ≡ []

in_script : (d : Declared) (maker : Runner) → InRange (length d.apps) (length d.windows) (runner maker) → IsRunner d maker
in_script d (app m) lt = lt
in_script d (looper w) lt = lt

kept_here : (d : Declared) (who : Runner) (a : Option Activity) (text : List ℕ) → IsRunner d who → ((maker : Activity) → a ≡ Some maker → InRange (length d.apps) (length d.windows) maker) → IsTextOf a text
    → (if home_of d who == kept_at d a then text else []) ≡ (if option_map_or (same_runner who) (runner_in a) false then text else [])
kept_here d who (Some (runner maker)) text there range is = ap (λ b. if b then text else []) (home_test d who maker there (in_script d maker (range (runner maker) refl)))
kept_here d who (Some (twin w)) text there range none = either_way (home_of d who == kept_at d (Some (twin w))) text none
kept_here d who (Some input) text there range none = either_way (home_of d who == 1) text none
kept_here d who (Some closing) text there range none = either_way (home_of d who == 1) text none
kept_here d who None text there range none = either_way (home_of d who == 1) text none

text_of : (d : Declared) (a : Option Activity) (traces : List Trace) → IsTextOf a (text_by d (runner_in a) traces)
text_of d (Some (runner who)) traces = tt
text_of d (Some (twin w)) traces = refl
text_of d (Some input) traces = refl
text_of d (Some closing) traces = refl
text_of d None traces = refl

-- ---- a history

module _ (d : Declared) (who : Runner) (limits : IsWithinLimits d) (there : IsRunner d who) where
  kept_from : (front es : List Entry) → IsLegalHistory d front → AreLegalFrom d (state_after d front) es
      → noted_from (world_machine d) (told_of d) (home_of d who) (slices d (state_after d front)) es ≡ own_texts_from d who (state_after d front) es
  unfolding AreLegalFrom own_texts_from
  kept_from front [] legal more = refl
  kept_from front (e ∷ es) legal more =
      let s = state_after d front in
      let back : state_of d (slices d s) ≡ s = put_together d s (whole_after d front limits legal) in
      let longer : state_after d (front ++ e ∷ []) ≡ step d s e = state_more d (opening_state d) front e in
      let rest = kept_from (front ++ e ∷ []) es (legal_more d (opening_state d) front e legal more.0) (subst (λ t. AreLegalFrom d t es) (sym longer) more.1) in
      let later : noted_from (world_machine d) (told_of d) (home_of d who) (slices d (step d s e)) es ≡ own_texts_from d who (step d s e) es = subst (λ t. noted_from (world_machine d) (told_of d) (home_of d who) (slices d t) es ≡ own_texts_from d who t es) longer rest in
      let here = kept_here d who (activity_of d e.actor) (entry_text d s e) there (in_range d e.actor) (text_of d (activity_of d e.actor) (maker_trace d s e)) in
      ap (λ t. (if home_of d who == kept_at d (activity_of d e.actor) then entry_text d t e else []) ++ noted_from (world_machine d) (told_of d) (home_of d who) (slices d (step d t e)) es) back
      ∙ ap (λ (text : List ℕ). text ++ noted_from (world_machine d) (told_of d) (home_of d who) (slices d (step d s e)) es) here
      ∙ ap (λ (text : List ℕ). (if is_made_by d who e then entry_text d s e else []) ++ text) later

pub parts_keep_traces : (d : Declared) (h : List Entry) (who : Runner) → IsWithinLimits d → IsLegalHistory d h → IsRunner d who
    → noted_from (world_machine d) (told_of d) (home_of d who) (slices d (opening_state d)) h ≡ noted_text d who (traces_of d who h)
unfolding AreLegalFrom state_from
parts_keep_traces d h who limits legal there = kept_from d who limits there [] h tt legal ∙ sym (traces_are_own_texts d who h)
