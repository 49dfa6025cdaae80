-- What an activity that may act needs is in hand.
use Rattle.std.proofs.Common.{◌≡◌, ℕ, List, Option, Some, None, refl}
use Rattle.be_asking.proofs.InHand.{is_held}
use Rattle.be_asking.specs.declared.activity.Activity.{Activity}
use Rattle.be_asking.specs.declared.want.Want.{Want}
use Rattle.be_hall.specs.Hands.{meant, part_at}
use Rattle.be_hall.specs.Machine.{IsHeld}
use Rattle.be_parts.specs.Parts.{meaning_of}
use Rattle.be_parts.specs.declared.part.Part.{Part}
use Rattle.be_rules.specs.Found.{NeedsPart}
use Rattle.be_script.specs.Script.{Declared}
use Rattle.be_steps.proofs.Making.{all, fits_now, so}
use Rattle.be_steps.specs.Steps.{IsAllowed}

-- a part that isn't in hand isn't needed
pub never_needs : (d : Declared) (parts : List (ℕ × Part)) (who : Activity) (want : Want) (allowed : IsAllowed d parts who want) (p : ℕ) → NeedsPart d (meant meaning_of parts) allowed.number p → ⊥
never_needs d parts who want allowed p (out, touched) =
    out
    ((allowed.ready (all d parts who want allowed) (so d parts who want allowed) (fits_now d parts who want allowed)).1 p
    (touched (record { actor = allowed.number; act = allowed.act }) refl (all d parts who want allowed) (so d parts who want allowed) (fits_now d parts who want allowed)))

-- what isn't missing is in hand
pub held_unless : (parts : List (ℕ × Part)) (p : ℕ) (o : Option Part) → part_at parts p ≡ o → (o ≡ None → ⊥) → IsHeld (meant meaning_of parts) p
held_unless parts p (Some y) is some = is_held parts p y is
held_unless parts p None is some = absurd (some refl)
