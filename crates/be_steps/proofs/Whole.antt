-- Parts in hand some of which were changed, where all others are what they were, in hand or not.
use Rattle.std.proofs.Common.{◌≡◌, ℕ, ◌<◌, List, Some, ◌⊎◌, inl, inr, ⊎_elim, sym, ap, ◌∙◌, length, subst}
use Rattle.std.specs.Prelude.{map}
use Rattle.std.proofs.lemmas.List.{length-map}
use mathlib.Core.Option.{some}
use lib.ListN.{get_elem?}
use Rattle.be_asking.proofs.InHand.{meant_there}
use Rattle.be_asking.proofs.Spotted.{spot}
use Rattle.be_asking.specs.declared.activity.Activity.{Activity}
use Rattle.be_asking.specs.declared.want.Want.{Want}
use Rattle.be_hall.specs.Hands.{Hand, part_at}
use Rattle.be_machine.specs.Touched as part
use Rattle.be_parts.specs.Parts.{meaning_of}
use Rattle.be_parts.specs.declared.part.Part.{Part}
use Rattle.be_rules.proofs.ListLemmas.{elem_map, some_there, there_in}
use Rattle.be_rules.specs.Slices.{Slice, all_parts, slice_of, slices}
use Rattle.be_script.specs.Script.{Declared}
use Rattle.be_steps.proofs.Making.{all, done_as, fits_now, made_key, now, so, then_is}
use Rattle.be_steps.specs.Made.{AreIn, AreMade, IsMade}
use Rattle.be_steps.specs.Steps.{IsAllowed, IsDone}

-- what is at a place of the images is the image of what is there
elem_of : {X Y : Type 0} (f : X → Y) (xs : List X) (i : ℕ) (y : Y) → get_elem? (map f xs) i ≡ some y → (x : X) × (get_elem? xs i ≡ some x)
elem_of f xs i y at =
    let lt : i < length (map f xs) = there_in (map f xs) i y at in
    some_there xs i (subst (λ n. i < n) (length-map xs f) lt)

module _ (d : Declared) (inhand : List (ℕ × Part)) (who : Activity) (want : Want) (allowed : IsAllowed d inhand who want) where
  before : (p : ℕ) (y : Part) → part_at inhand p ≡ Some y → get_elem? (slices d (now d inhand who want allowed)) p ≡ some (meaning_of y)
  before p y at = ap (λ l. get_elem? l p) (sym (so d inhand who want allowed).is) ∙ meant_there inhand (all d inhand who want allowed) p y at (fits_now d inhand who want allowed)

  pub done_whole : (old new : Hand Part) (changes : List (part.Part × Part)) → old.parts ≡ inhand → new.room ≡ old.room → AreMade d changes inhand new.parts → AreIn d (then_is d inhand who want allowed) changes
      → ((x : part.Part) → IsMade x changes ⊎ (slice_of (then_is d inhand who want allowed) x ≡ slice_of (now d inhand who want allowed) x)) → IsDone d who old new
  done_whole old new changes is room made right whole =
      done_as d inhand who want allowed old new changes is room made right (λ p y at.
      let x : (x : part.Part) × (get_elem? (all_parts d) p ≡ some x) = elem_of (slice_of (now d inhand who want allowed)) (all_parts d) p (meaning_of y) (before p y at) in
      ⊎_elim
      (λ key. inr (made_key d changes x.0 p (spot d p x.0 x.1) key))
      (λ same. inl (elem_map (slice_of (then_is d inhand who want allowed)) (all_parts d) p x.0 x.1
      ∙ ap (λ (z : Slice). some z) same
      ∙ sym (elem_map (slice_of (now d inhand who want allowed)) (all_parts d) p x.0 x.1)
      ∙ before p y at))
      (whole x.0))
