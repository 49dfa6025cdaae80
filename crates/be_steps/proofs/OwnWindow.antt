-- The window whose looper a runner owns, where it wants something of that window.
use Rattle.std.proofs.Common.{◌≡◌, ℕ, true, List, Option, Some, None, refl, sym, ap, ◌∙◌}
use Rattle.std.specs.Prelude.{IsSome}
use Rattle.be_asking.proofs.OwnersAnswered.{owns_none}
use Rattle.be_asking.specs.Acts.{OwnsWindow, is_own}
use Rattle.be_asking.specs.Finding.{IsMissing}
use Rattle.be_asking.specs.Wants.{runner_in}
use Rattle.be_asking.specs.declared.activity.Activity.TheVariants as who
use Rattle.be_asking.specs.declared.activity.Runner.{Runner}
use Rattle.be_asking.specs.declared.activity.Runner.TheVariants.{App, Looper}
use Rattle.be_asking.specs.declared.want.Request.{Request}
use Rattle.be_asking.specs.declared.want.Want.TheVariants as want
use Rattle.be_machine.specs.Program.{window_of}
use Rattle.be_machine.specs.State.{State}
use Rattle.be_machine.specs.Legal.{legal_act}
use Rattle.be_machine.specs.Touched.{own_part}
use Rattle.be_parts.specs.declared.part.Part.{Part}
use Rattle.be_rules.proofs.Lawfully.{back}
use Rattle.be_rules.specs.Slices.{state_of}
use Rattle.be_rules.specs.Sure.{owned_window, seen_in}
use Rattle.be_script.specs.Script.{Declared}
use Rattle.be_steps.proofs.Gone.{own_there}
use Rattle.be_steps.proofs.Making.{all, fits_now, now, so}
use Rattle.be_steps.proofs.Owned.{not_missing}
use Rattle.be_steps.specs.Steps.{IsAllowed}

pub owned_seen : (s : State) (r : Runner) → owned_window (seen_in s) (runner_in r) ≡ window_of s (runner_in r)
owned_seen s (App m) = refl
owned_seen s (Looper w) = refl

module _ (d : Declared) (parts : List (ℕ × Part)) (runner : Runner) (q : Request) (allowed : IsAllowed d parts (who.Runner runner) (want.Asks runner q)) where
  -- who owns none may not have it
  pub owns_some : is_own q ≡ true → OwnsWindow d parts runner None → ⊥
  owns_some own none =
      let may : legal_act d (state_of d (all d parts (who.Runner runner) (want.Asks runner q) allowed)) allowed.number ≡ Some allowed.act =
      (allowed.ready (all d parts (who.Runner runner) (want.Asks runner q) allowed) (so d parts (who.Runner runner) (want.Asks runner q) allowed) (fits_now d parts (who.Runner runner) (want.Asks runner q) allowed)).0 in
      let may_not : legal_act d (state_of d (all d parts (who.Runner runner) (want.Asks runner q) allowed)) allowed.number ≡ None =
      owns_none d parts allowed.number runner q allowed.asked none own (all d parts (who.Runner runner) (want.Asks runner q) allowed) (so d parts (who.Runner runner) (want.Asks runner q) allowed) (fits_now d parts (who.Runner runner) (want.Asks runner q) allowed) in
      absurd (cc)

  pub has_window : is_own q ≡ true → (w : Option ℕ) → OwnsWindow d parts runner w → IsSome w
  has_window own (Some w) owns = refl
  has_window own None owns = absurd (owns_some own owns)

  pub own_found : (place : ℕ) → IsMissing d parts (own_part (runner_in runner)) place → ⊥
  own_found place missing = not_missing d parts (own_part (runner_in runner)) place (own_there d parts runner q allowed) missing

  -- in the state
  pub window_now : (w : Option ℕ) → OwnsWindow d parts runner w → window_of (now d parts (who.Runner runner) (want.Asks runner q) allowed) (runner_in runner) ≡ w
  window_now w owns =
      ap (λ (t : State). window_of t (runner_in runner)) (sym (back d (all d parts (who.Runner runner) (want.Asks runner q) allowed) (so d parts (who.Runner runner) (want.Asks runner q) allowed)))
      ∙ owns.1 (all d parts (who.Runner runner) (want.Asks runner q) allowed) (so d parts (who.Runner runner) (want.Asks runner q) allowed) (fits_now d parts (who.Runner runner) (want.Asks runner q) allowed)

  pub seen_now : (w : Option ℕ) → OwnsWindow d parts runner w → owned_window (seen_in (now d parts (who.Runner runner) (want.Asks runner q) allowed)) (runner_in runner) ≡ w
  seen_now w owns = owned_seen (now d parts (who.Runner runner) (want.Asks runner q) allowed) runner ∙ window_now w owns
