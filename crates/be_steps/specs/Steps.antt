-- What an activity's entry makes of the parts in hand.
use Rattle.std.specs.Prelude.{◌≡◌, ℕ, true, List, [], ◌∷◌, Some}
use Rattle.be_asking.specs.Deeds.{IsAsked}
use Rattle.be_asking.specs.Wants.{activity_in}
use Rattle.be_asking.specs.declared.activity.Activity.{Activity}
use Rattle.be_asking.specs.declared.want.Want.{Want}
use Rattle.be_hall.specs.Hands.{Hand, meant, places_of, rises_from}
use Rattle.be_hall.specs.Machine.{Fits, IsReady}
use Rattle.be_machine.specs.Activities.{activity_of}
use Rattle.be_machine.specs.declared.Act.{Act}
use Rattle.be_machine.specs.declared.Entry.{Entry}
use Rattle.be_machine.specs.Step.{step}
use Rattle.be_parts.specs.Parts.{log_of, meaning_of, notes_of, spare_of}
use Rattle.be_parts.specs.declared.part.Part.{Part}
use Rattle.be_rules.specs.Rules.{IsSound, world_machine}
use Rattle.be_rules.specs.Slices.{Slice, slices, state_of}
use Rattle.be_script.specs.Script.{Declared}

-- the activity wants this, may have it now, and all that its entry touches is in hand
pub record IsAllowed
    (d : Declared) (parts : List (ℕ × Part)) (who : Activity) (want : Want)
    : Type 0 where
  pub number : ℕ
  pub asked : IsAsked d parts number who want
  pub act : Act
  pub ready :
      IsReady (world_machine d) (meant meaning_of parts) (record { actor = number; act = act })
  pub ascending : rises_from 0 (places_of parts) ≡ true

-- Whatever the other parts are, an entry of the activity leaves the parts in hand with the new
-- meanings. That is said of each entry of the activity, whatever its act, since a step goes by who
-- makes it: the act is what the history keeps of it. Room, places, logs with
-- their spare room, and notes stay.
pub record IsDone (d : Declared) (who : Activity) (old new : Hand Part) : Type 0 where
  pub room : new.room ≡ old.room
  pub places : places_of new.parts ≡ places_of old.parts
  pub after :
      (e : Entry) → activity_of d e.actor ≡ Some (activity_in who)
      → (all : List Slice) → IsSound d all → Fits all (meant meaning_of old.parts)
      → Fits (slices d (step d (state_of d all) e)) (meant meaning_of new.parts)
  pub logs : meant log_of new.parts ≡ meant log_of old.parts
  pub spare : meant spare_of new.parts ≡ meant spare_of old.parts
  pub notes : meant notes_of new.parts ≡ meant notes_of old.parts

-- what the part at this place means after an entry of the activity, whatever the others are
abbrev pub LeavesAt : Declared → List (ℕ × Part) → Activity → ℕ → Slice → Type 0
LeavesAt d parts who place slice =
    (e : Entry) → activity_of d e.actor ≡ Some (activity_in who)
    → (all : List Slice) → IsSound d all → Fits all (meant meaning_of parts)
    → Fits (slices d (step d (state_of d all) e)) ((place, slice) ∷ [])
