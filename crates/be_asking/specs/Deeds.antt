-- What an activity may do, told by the parts in hand.
use Rattle.std.specs.Prelude.{◌≡◌, ℕ, List, Some}
use Rattle.be_hall.specs.Machine.{HeldFit, IsReady, SomeFits}
use Rattle.be_hall.specs.Hands.{meant}
use Rattle.be_machine.specs.Activities.{activity_of}
use Rattle.be_machine.specs.declared.Act.{Act}
use Rattle.be_machine.specs.declared.Act.TheVariants as act
use Rattle.be_parts.specs.Parts.{meaning_of}
use Rattle.be_parts.specs.declared.part.Part.{Part}
use Rattle.be_rules.specs.Found.{CannotAct, NeedsPart}
use Rattle.be_rules.specs.Rules.{SliceFits, world_machine}
use Rattle.be_rules.specs.Slices.{Slice}
use Rattle.be_script.specs.Limits.{IsWithinLimits}
use Rattle.be_script.specs.Script.{Declared}
use Rattle.be_asking.specs.Wants.{IsWanted, activity_in}
use Rattle.be_asking.specs.declared.activity.Activity.{Activity}
use Rattle.be_asking.specs.declared.deed.Answer.{Answer}
use Rattle.be_asking.specs.declared.deed.Answer.TheVariants.{May, NotYet, Needs}
use Rattle.be_asking.specs.declared.deed.Deed.{Deed}
use Rattle.be_asking.specs.declared.deed.Deed.TheVariants as deed
use Rattle.be_asking.specs.declared.want.Want.{Want}
use Rattle.be_asking.specs.declared.want.Wanted.TheVariants.{Wants}

abbrev pub act_in : Deed → Act
act_in (deed.Notes text) = act.Note text.now
act_in (deed.Makes made) = made

-- in every sound list with these parts the act is the activity's, and touches no other part
abbrev pub MayAct : Declared → List (ℕ × Slice) → ℕ → Act → Type 0
MayAct d held a act = IsReady (world_machine d) held (record { actor = a; act = act })

-- it holds in every sound list with these parts
abbrev pub IsAnswer : Declared → List (ℕ × Slice) → ℕ → Answer → Type 0
IsAnswer d held a (May deed) = MayAct d held a (act_in deed)
IsAnswer d held a NotYet = CannotAct d held a
IsAnswer d held a (Needs p) = NeedsPart d held a p

-- these parts are of a script within the limits, and the activity of number a wants this
pub record IsAsked
    (d : Declared) (parts : List (ℕ × Part)) (a : ℕ) (who : Activity) (want : Want)
    : Type 0 where
  pub limits : IsWithinLimits d
  pub number : activity_of d a ≡ Some (activity_in who)
  pub fitting : SomeFits (world_machine d) (meant meaning_of parts)
  -- the counts are those of at most 2 ^ 62 entries
  pub small : HeldFit SliceFits 4611686018427387904 (meant meaning_of parts)
  pub wanted : IsWanted d (meant meaning_of parts) a (activity_in who) (Wants want)
