-- The entries that a run on one thread picks are those that the machine's schedule chooses.
use Rattle.std.proofs.Common.{◌≡◌, ℕ, ◌<◌, Bool, true, false, List, [], ◌∷◌}
use Rattle.std.proofs.Common.{length, Option, Some, refl, sym, ap, subst, ◌∙◌}
use Rattle.std.specs.Prelude.{◌/◌, ◌%◌, ◌==◌, slice_get, if◌then◌else◌}
use Rattle.std.proofs.Math.ListN.{get_or}
use Rattle.std.proofs.lemmas.Nat.{mod_below}
use Rattle.be_hall.specs.Machine.{Legal}
use Rattle.be_machine.specs.Activities.{activities}
use Rattle.be_machine.specs.Schedule.{chosen, chosen_or_end, chosen_place, entries_from, next_random, ready}
use Rattle.be_machine.specs.State.{State}
use Rattle.be_machine.specs.Step.{step}
use Rattle.be_machine.specs.declared.Entry.{Entry}
use Rattle.be_rules.proofs.Lawfully.{back, sound_after, state}
use Rattle.be_rules.specs.Rules.{IsSound, world_machine}
use Rattle.be_rules.specs.Slices.{Slice, state_of}
use Rattle.be_runs.proofs.Follows.{after, state_next}
use Rattle.be_runs.proofs.Listed.{Make, all_listed, as_many, made_by}
use Rattle.be_script.specs.Script.{Declared}
use Rattle.be_serial.specs.Scheduled.{Picked, next_draw, picked_of, ready_below}
use Rattle.be_world.specs.Turns.{legal_entry}

-- ---- one choice

abbrev place_by : Bool → ℕ → ℕ → ℕ
place_by zero_seed x many = if zero_seed then 0 else (x / 8589934592) % many

abbrev draw_by : Bool → ℕ → ℕ
draw_by zero_seed x = if zero_seed then x else next_random x

module _ {E : Type 0} (f : ℕ → Option E) (ns : List ℕ) (es : List E) (all : Make f ns es)
    (some : 0 < length ns) where
  picked_by : (b : Bool) (x y : ℕ) → (b ≡ false → x ≡ y)
      → (if b then slice_get es 0 else slice_get es (chosen_place (next_random y) (length es)))
      ≡ f (get_or ns (place_by b (draw_by b x) (length ns)) 0)
  picked_by true x y same = made_by f ns es 0 all some
  picked_by false x y same =
      let place : ℕ = (next_random x / 8589934592) % length ns in
      let here : (next_random y / 8589934592) % length es ≡ place =
      ap (λ n. (next_random y / 8589934592) % n) (sym (as_many f ns es all))
      ∙ ap (λ n. (next_random n / 8589934592) % length ns) (sym (same refl)) in
      ap (slice_get es) here ∙ made_by f ns es place all (mod_below _ (length ns) some)

draws_on : (b : Bool) (x y : ℕ) → (b ≡ false → x ≡ y) → b ≡ false → draw_by b x ≡ next_random y
draws_on true x y same is = absurd (cc)
draws_on false x y same is = ap next_random (same is)

-- ---- each choice

module _ (d : Declared) (seed : ℕ) where
  abbrev listed : List Slice → List ℕ
  listed all = ready_below (legal_entry d) all (activities d)

  ready_made : (all : List Slice)
      → Make (legal_entry d all) (listed all) (ready d (state_of d all))
  unfolding ready
  ready_made all = all_listed (legal_entry d) all (activities d)

  chosen_there : (all : List Slice) (e : Entry) (x y : ℕ) → ((seed == 0) ≡ false → x ≡ y)
      → 0 < length (listed all)
      → legal_entry d all (picked_of (world_machine d) (legal_entry d) (activities d) seed
      (next_draw seed x) (listed all)) ≡ Some e
      → chosen seed (next_random y) (ready d (state_of d all)) ≡ Some e
  chosen_there all e x y same some is =
      picked_by (legal_entry d all) (listed all) (ready d (state_of d all)) (ready_made all) some
      (seed == 0) x y same
      ∙ is

  one_turn : (s : State) (e : Entry) (es : List Entry) (y : ℕ)
      → chosen seed (next_random y) (ready d s) ≡ Some e
      → es ≡ entries_from (length es) d seed (next_random y) (step d s e)
      → e ∷ es ≡ entries_from (length (e ∷ es)) d seed y s
  unfolding entries_from
  one_turn s e es y is later =
      ap (λ l. e ∷ l) later
      ∙ sym (ap (chosen_or_end
      (λ x. entries_from (length es) d seed (next_random y) (step d s x))) is)

  pub chosen_each : (h : List Entry) (all : List Slice) (sound : IsSound d all) (x y : ℕ)
      → ((seed == 0) ≡ false → x ≡ y) → Legal (world_machine d) all h
      → Picked (world_machine d) (legal_entry d) (activities d) seed x all h
      → h ≡ entries_from (length h) d seed y (state d all sound)
  unfolding entries_from
  chosen_each [] all sound x y same legal picked = refl
  chosen_each (e ∷ es) all sound x y same legal picked =
      let s : State = state d all sound in
      let is : chosen seed (next_random y) (ready d s) ≡ Some e =
      subst (λ s. chosen seed (next_random y) (ready d s) ≡ Some e) (back d all sound)
      (chosen_there all e x y same picked.0 picked.1) in
      let later : es ≡ entries_from (length es) d seed (next_random y)
      (state d (after d all e) (sound_after d all sound e legal.0)) =
      chosen_each es (after d all e) (sound_after d all sound e legal.0)
      (next_draw seed x) (next_random y) (draws_on (seed == 0) x y same) legal.1 picked.2 in
      one_turn s e es y is
      (later ∙ ap (entries_from (length es) d seed (next_random y)) (state_next d all sound e legal.0))
