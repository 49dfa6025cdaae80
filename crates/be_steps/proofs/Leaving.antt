-- What a part in hand means once a step is made.
use Rattle.std.proofs.Common.{◌≡◌, ℕ, List, sym, ◌∙◌, subst}
use Rattle.be_asking.specs.declared.activity.Activity.{Activity}
use Rattle.be_asking.specs.declared.want.Want.{Want}
use Rattle.be_hall.specs.Hands.{Hand, meant}
use Rattle.be_hall.specs.Machine.{IsHeld}
use Rattle.be_machine.specs.Touched as part
use Rattle.be_parts.specs.Parts.{meaning_of}
use Rattle.be_parts.specs.declared.part.Part.{Part}
use Rattle.be_rules.proofs.ListLemmas.{same_elements}
use Rattle.be_rules.specs.Places.{IsPart, place_of}
use Rattle.be_rules.specs.Slices.{Slice, slice_of}
use Rattle.be_script.specs.Script.{Declared, declared_by}
use Rattle.be_script.specs.declared.Script.{Script}
use Rattle.be_steps.proofs.Making.{after_mine, everywhere, slice_there, then_is}
use Rattle.be_steps.specs.Steps.{IsAllowed, LeavesAt}
use Rattle.std.specs.declared.snapshot.Snapshot.{Snapshot}

module _ (d : Declared) (inhand : List (ℕ × Part)) (who : Activity) (want : Want) (allowed : IsAllowed d inhand who want) (x : part.Part) (there : IsPart d x) where
  -- the state's
  pub left : IsHeld (meant meaning_of inhand) (place_of d x) → LeavesAt d inhand who (place_of d x) (slice_of (then_is d inhand who want allowed) x)
  left held e number other sound' fits' = (everywhere d inhand who want allowed e number other sound' fits' (place_of d x) held ∙ slice_there d (then_is d inhand who want allowed) x there, tt)

  -- and no other
  pub left_is : (v : Slice) → LeavesAt d inhand who (place_of d x) v → v ≡ slice_of (then_is d inhand who want allowed) x
  left_is v leaves = same_elements v (slice_of (then_is d inhand who want allowed) x) (sym (after_mine d inhand who want allowed (place_of d x) v leaves) ∙ slice_there d (then_is d inhand who want allowed) x there)

pub left_as : (s s' : Script) (b b' : Snapshot (Hand Part)) (who : Activity) (place : ℕ) → s' ≡ s → b' ≡ b → ((want : Want) × IsAllowed (declared_by s) b.value.parts who want) → ((x : part.Part) × IsPart (declared_by s) x × (place ≡ place_of (declared_by s) x) × IsHeld (meant meaning_of b.value.parts) place) → (v : Slice) × LeavesAt (declared_by s') b'.value.parts who place v
left_as s s' b b' who place p q allowed there =
    let d = declared_by s in
    let v : Slice = slice_of (then_is d b.value.parts who allowed.0 allowed.1) there.0 in
    let is : LeavesAt d b.value.parts who place v = subst (λ n. LeavesAt d b.value.parts who n v) (sym there.2) (left d b.value.parts who allowed.0 allowed.1 there.0 there.1 (subst (IsHeld (meant meaning_of b.value.parts)) there.2 there.3)) in
    (v, subst (λ (t : Script). LeavesAt (declared_by t) b'.value.parts who place v) (sym p) (subst (λ (h : Snapshot (Hand Part)). LeavesAt d h.value.parts who place v) (sym q) is))

-- what was told of copies is so of the originals
pub left_back : (s s' : Script) (b b' : Snapshot (Hand Part)) (who : Activity) (place : ℕ) (v : Slice) → s' ≡ s → b' ≡ b → LeavesAt (declared_by s') b'.value.parts who place v → LeavesAt (declared_by s) b.value.parts who place v
left_back s s' b b' who place v p q is = subst (λ (t : Script). LeavesAt (declared_by t) b.value.parts who place v) p (subst (λ (h : Snapshot (Hand Part)). LeavesAt (declared_by s') h.value.parts who place v) q is)
