-- A runner's part that was changed, and is at another place of its program.
use Rattle.std.proofs.Common.{◌≡◌, ℕ, List, [], ◌∷◌, Option, Some, inl, refl, sym, ap, ◌∙◌}
use Rattle.be_actor.specs.declared.Place.{Place}
use Rattle.be_asking.specs.Wants.{runner_in}
use Rattle.be_asking.specs.declared.activity.Activity.TheVariants as who
use Rattle.be_asking.specs.declared.activity.Runner.{Runner}
use Rattle.be_asking.specs.declared.activity.Runner.TheVariants.{App, Looper}
use Rattle.be_asking.specs.declared.want.Request.{Request}
use Rattle.be_asking.specs.declared.want.Want.TheVariants as want
use Rattle.be_hall.specs.Hands.{Hand, part_at}
use Rattle.be_machine.specs.Touched.{own_part}
use Rattle.be_parts.specs.Kept.{Kept, Logged}
use Rattle.be_parts.specs.Parts.{logged_of, meaning_of}
use Rattle.be_parts.specs.declared.part.Part.{Part}
use Rattle.be_rules.specs.Places.{place_of}
use Rattle.be_rules.specs.Slices.{Slice, input, slice_of}
use Rattle.std.specs.Option.{option_map_or}
use Rattle.std.specs.Prelude.{false}
use Rattle.be_script.specs.Script.{Declared}
use Rattle.be_steps.proofs.Making.{now, read, there}
use Rattle.be_steps.specs.Going.{HasGoneFrom, own_kind}
use Rattle.be_steps.specs.Made.{AreMade}
use Rattle.be_steps.specs.Steps.{IsAllowed}
use Rattle.be_steps.specs.There.{IsThere}

pub own_logged : (runner : Runner) (k : Kept) → logged_of (own_kind runner k) ≡ Some k.log
own_logged (App m) k = refl
own_logged (Looper w) k = refl

pub own_means : (runner : Runner) (k : Kept) → meaning_of (own_kind runner k) ≡ k.slice
own_means (App m) k = refl
own_means (Looper w) k = refl

same_kind : (runner : Runner) (k l : Kept) → Some (own_kind runner k) ≡ Some (own_kind runner l) → k.slice ≡ l.slice
same_kind runner k l e = sym (own_means runner k) ∙ ap (λ (o : Option Part). option_map_or meaning_of o (input 0 false)) e ∙ own_means runner l

-- the runner's part is the last that was made
pub own_made : (d : Declared) (runner : Runner) (f : Slice → Slice) (place : Place) (old new : Hand Part) (gone : HasGoneFrom d runner f place old new) → AreMade d ((own_part (runner_in runner), own_kind runner gone.1) ∷ []) old.parts new.parts
own_made d runner f place old new gone = (
  own_kind runner gone.0,
  gone.2,
  own_logged runner gone.1 ∙ ap (λ (l : Logged). Some l) gone.5 ∙ sym (own_logged runner gone.0),
  ap (λ (h : Hand Part). h.parts) gone.3,
)

module _ (d : Declared) (inhand : List (ℕ × Part)) (runner : Runner) (request : Request) (allowed : IsAllowed d inhand (who.Runner runner) (want.Asks runner request)) where
  pub own_there : IsThere d inhand (own_part (runner_in runner))
  own_there = there d inhand (who.Runner runner) (want.Asks runner request) allowed (own_part (runner_in runner)) (inl refl)

  pub own_is : (was : Kept) → part_at inhand (place_of d (own_part (runner_in runner))) ≡ Some (own_kind runner was) → slice_of (now d inhand (who.Runner runner) (want.Asks runner request) allowed) (own_part (runner_in runner)) ≡ was.slice
  own_is was at = read d inhand (who.Runner runner) (want.Asks runner request) allowed (own_part (runner_in runner)) (own_kind runner was) own_there.reachable.there at ∙ own_means runner was
