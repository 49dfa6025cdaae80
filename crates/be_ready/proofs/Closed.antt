-- The pane of a window whose looper begins an update has no session open.
use Rattle.std.proofs.Common.{◌≡◌, ℕ, List, Some, None, Ok, Err, inl, inr, refl, sym, subst}
use Rattle.std.specs.Prelude.{Result, slice_get}
use Rattle.be_asking.specs.declared.activity.Activity.TheVariants as who
use Rattle.be_asking.specs.declared.activity.Runner.TheVariants as by
use Rattle.be_asking.specs.declared.want.Want.TheVariants as want
use Rattle.be_hall.specs.Hands.{part_at}
use Rattle.be_looper.specs.Duties as duties
use Rattle.be_machine.specs.KeptLimits.{NoSessionAtBegin}
use Rattle.be_machine.specs.State.{State, beginning, handling}
use Rattle.be_machine.specs.Touched as part
use Rattle.be_message.specs.Messages.{Message}
use Rattle.be_pane.specs.Owed.{IsClean}
use Rattle.be_pane.specs.StandsFor.{IsWhole}
use Rattle.be_pane.specs.declared.pane.Pane.{Pane}
use Rattle.be_parts.specs.Kept.{Kept}
use Rattle.be_parts.specs.Stands.{PaneIs, PaneShows}
use Rattle.be_parts.specs.declared.part.Part.{Part}
use Rattle.be_parts.specs.declared.part.Part.TheVariants as kinds
use Rattle.be_pane.proofs.OwedLemmas.{closed_both}
use Rattle.be_rules.specs.Places.{place_of}
use Rattle.be_rules.specs.Slices.{Slice, shown_of}
use Rattle.be_script.specs.Script.{Declared}
use Rattle.be_steps.proofs.Making.{now, read, so, there, wanted_now}
use Rattle.be_steps.specs.Steps.{IsAllowed}
use Rattle.be_steps.specs.Surveyed.{IsSurveyedIn}
use Rattle.be_steps.specs.There.{IsThere}
use Rattle.be_update.specs.Surveys.{IsSurveyOf, Surveyed}
use Rattle.be_machine.proofs.KeptSessions.{begins_there}

-- an answer isn't a fault
pub not_both : {A B : Type 0} {x : A} {y : B} (r : Result A B) → r ≡ Ok x → r ≡ Err y → ⊥
not_both {x} {y} r ok err = absurd (cc)

module _ (d : Declared) (parts : List (ℕ × Part)) (w : ℕ) (allowed : IsAllowed d parts (who.Runner (by.Looper w)) (want.Begins w)) where
  abbrev s : State
  s = now d parts (who.Runner (by.Looper w)) (want.Begins w) allowed

  pub pane_there : IsThere d parts (part.pane w)
  pane_there = there d parts (who.Runner (by.Looper w)) (want.Begins w) allowed (part.pane w) (inr (inr (inl refl)))

  module _ (kept : Kept) (at : part_at parts (place_of d (part.pane w)) ≡ Some (kinds.Pane kept)) (p : Pane) (stands : PaneIs kept.slice p) where
    shows : PaneShows w (shown_of s w) p
    shows =
        subst (λ (o : Slice). PaneIs o p)
        (sym (read d parts (who.Runner (by.Looper w)) (want.Begins w) allowed (part.pane w) (kinds.Pane kept) pane_there.reachable.there at)) stands

    pub is_whole : IsWhole p
    is_whole = shows.whole

    pub is_closed : NoSessionAtBegin → p.session ≡ None
    is_closed law =
        let sound = so d parts (who.Runner (by.Looper w)) (want.Begins w) allowed in
        let hand : (hand : duties.Hand Message) × (slice_get s.loopers w ≡ Some (handling hand beginning)) =
        begins_there d s w (wanted_now d parts (who.Runner (by.Looper w)) (want.Begins w) allowed) in
        closed_both p.session shows.kept.session shows.stands.session
        (law d sound.history w hand.0 shows.kept sound.limits sound.legal hand.1 shows.is_kept).1

    pub found_some : (survey : Surveyed) → IsSurveyOf survey p → (IsClean p.spans → ⊥) → IsSurveyedIn d parts w (Some survey)
    found_some survey is waits = record { kept = kept; there = at; pane = p; stands = stands; found = (is, waits) }

    pub found_none : IsClean p.spans → IsSurveyedIn d parts w None
    found_none clean = record { kept = kept; there = at; pane = p; stands = stands; found = clean }
