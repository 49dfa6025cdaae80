-- What a run that keeps notes leaves.
use Rattle.std.proofs.Common.{◌≡◌, ℕ, zero, suc, ◌<◌, List, [], ◌∷◌, map, length, All, Some}
use Rattle.std.proofs.Common.{refl, sym, ap, ◌∙◌, arith}
use Rattle.std.proofs.lemmas.List.{length-map}
use Rattle.std.proofs.lemmas.List.Elements.{All-head, All-tail}
use Rattle.std.specs.Option.{option_map_or}
use Rattle.std.specs.Prelude.{slice_get}
use mathlib.Core.Option.{some, some-injective, some-ne-none}
use lib.ListN.{get_elem?}
use Rattle.be_jotted.proofs.Homes.{parts_keep_traces}
use Rattle.be_machine.proofs.Histories.{InRange}
use Rattle.be_machine.specs.Activities.{Runner, app, looper, runner}
use Rattle.be_machine.specs.History.{IsFinished, state_after}
use Rattle.be_machine.specs.State.{opening_state}
use Rattle.be_machine.specs.declared.Entry.{Entry}
use Rattle.be_noted.specs.Noting.{noted_of}
use Rattle.be_noting.proofs.NotedRuns.{run_finished, run_notes}
use Rattle.be_noting.specs.Noting.{noted_from}
use Rattle.be_parts.specs.Parts.{meaning_of, notes_of}
use Rattle.be_parts.specs.declared.part.Part.{Part}
use Rattle.be_rules.proofs.Keepers.{kept_there, own_of}
use Rattle.be_rules.proofs.Lawfully.{world_lawful}
use Rattle.be_rules.proofs.ListLemmas.{there_in}
use Rattle.be_rules.specs.Rules.{kept_at, world_machine}
use Rattle.be_rules.specs.Slices.{Slice, all_parts, slice_of, slices}
use Rattle.be_runs.proofs.Follows.{finished, leaves, opening_sound}
use Rattle.be_runs.specs.Runs.{told_in}
use Rattle.be_script.specs.Limits.{IsWithinLimits}
use Rattle.be_script.specs.Script.{Declared}
use Rattle.be_turns.specs.Turning as turning
use Rattle.be_world.specs.Turns.{is_last}
use Rattle.be_written.specs.Notings.{AreTold}
use Rattle.be_written.specs.Runners.{IsRunner}
use Rattle.be_jotted.specs.Jotting.{noted_machine, told_of}

-- ---- lists of parts

there_is : {X : Type 0} (xs : List X) (p : ℕ) → p < length xs
    → (x : X) × (get_elem? xs p ≡ some x) × (slice_get xs p ≡ Some x)
there_is [] p below = absurd (omega arith)
there_is (x ∷ xs) zero below = (x, refl, refl)
there_is (x ∷ xs) (suc p) below = there_is xs p (omega arith)

blank_at : (xs : List Part) (p : ℕ) (x : Part) → All (λ (y : Part). notes_of y ≡ []) xs
    → get_elem? xs p ≡ some x → notes_of x ≡ []
blank_at [] p x blank at = absurd (some-ne-none x (sym at))
blank_at (y ∷ ys) zero x blank at =
    ap notes_of (sym (some-injective y x at))
    ∙ All-head (λ (z : Part). notes_of z ≡ []) y ys blank
blank_at (y ∷ ys) (suc p) x blank at =
    blank_at ys p x (All-tail (λ (z : Part). notes_of z ≡ []) y ys blank) at

in_range_of : (d : Declared) (who : Runner) → IsRunner d who
    → InRange (length d.apps) (length d.windows) (runner who)
in_range_of d (app m) there = there
in_range_of d (looper w) there = there

-- ---- a run

module _ (d : Declared) (limits : IsWithinLimits d) (xs : List Part)
    (opens : map meaning_of xs ≡ slices d (opening_state d))
    (blank : All (λ (x : Part). notes_of x ≡ []) xs) (h : List Entry) (ys : List Part)
    (ran : turning.IsFinished (noted_machine d) (λ (e : Entry). is_last e.act) (map noted_of xs) h
    (map noted_of ys)) where
  -- without the notes
  pub ended : turning.IsFinished (world_machine d) (λ (e : Entry). is_last e.act)
      (map meaning_of xs) h (map meaning_of ys)
  ended = run_finished (world_machine d) (told_of d) noted_of xs h
      (λ (e : Entry). is_last e.act) ys ran

  pub is_finished : IsFinished d h
  is_finished = finished d limits (map meaning_of xs) opens h (map meaning_of ys) ended

  pub parts_are : map meaning_of ys ≡ slices d (state_after d h)
  parts_are = leaves d limits (map meaning_of xs) opens h (map meaning_of ys) ended

  as_many_first : length xs ≡ length (all_parts d)
  as_many_first =
      sym (length-map xs meaning_of) ∙ ap (λ (l : List Slice). length l) opens
      ∙ length-map (all_parts d) (slice_of (opening_state d))

  as_many_last : length ys ≡ length (all_parts d)
  as_many_last =
      sym (length-map ys meaning_of) ∙ ap (λ (l : List Slice). length l) parts_are
      ∙ length-map (all_parts d) (slice_of (state_after d h))

  pub traces_are : AreTold d h (told_in d ys)
  traces_are who there =
      let p : ℕ = kept_at d (Some (runner who)) in
      let below : p < length (all_parts d) =
      there_in (all_parts d) p (own_of (runner who))
      (kept_there d (runner who) (in_range_of d who there)) in
      let first = there_is xs p (omega (arith, below, as_many_first)) in
      let last = there_is ys p (omega (arith, below, as_many_last)) in
      ap (λ o. option_map_or notes_of o []) last.2
      ∙ run_notes (world_machine d) (told_of d) noted_of xs h (λ (e : Entry). is_last e.act) ys ran
      (world_lawful d) (opening_sound d limits (map meaning_of xs) opens) p first.0 last.0
      first.1 last.1 (blank_at xs p first.0 blank first.1)
      ∙ ap (λ (all : List Slice). noted_from (world_machine d) (told_of d) p all h) opens
      ∙ parts_keep_traces d h who limits is_finished.legal there
