-- What is told of an activity's next entry.
use Rattle.std.proofs.Common.{◌≡◌, ℕ, ◌<◌, Bool, List, length, Option, Some, None, refl, ap, ◌∙◌}
use Rattle.std.specs.Prelude as std
use Rattle.std.specs.Prelude.{option_map, option_and_then}
use Rattle.be_asking.specs.Deeds.{MayAct}
use Rattle.be_asking.specs.Having.{AreAllHeld, TellsAct}
use Rattle.be_asking.specs.Wants.{IsWanted}
use Rattle.be_asking.specs.declared.want.Wanted.TheVariants.{Nothing}
use Rattle.be_hall.specs.Hands.{meant, places_of, up_from}
use Rattle.be_hall.specs.Machine.{Fits, IsHeld, SomeFits}
use Rattle.be_hall.proofs.Gathered.{all_in}
use Rattle.be_machine.specs.Activities.{Activity, activity_of}
use Rattle.be_machine.specs.declared.Act.{Act}
use Rattle.be_machine.specs.declared.Act.TheVariants.{Stop}
use Rattle.be_machine.specs.declared.Entry.{Entry}
use Rattle.be_machine.specs.Legal.{legal_act, want_act}
use Rattle.be_machine.specs.Wants.{want_of}
use Rattle.be_parts.specs.Parts.{meaning_of}
use Rattle.be_parts.specs.declared.part.Part.{Part}
use Rattle.be_rules.specs.Found.{CannotAct, NeedsPart}
use Rattle.be_rules.specs.Rules.{IsSound, world_machine}
use Rattle.be_rules.specs.Slices.{Slice, all_parts, state_of}
use Rattle.be_script.specs.Script.{Declared}
use Rattle.be_turns.specs.Turning.{is_some}
use Rattle.be_asking.proofs.AllHeld.{touched_below}
use Rattle.be_world.specs.Turns.{HasEntry, entry_by, legal_entry}

same_some : (a : ℕ) (o : Option Act) → std.is_some o ≡ is_some (option_map (entry_by a) o)
same_some a (Some act) = refl
same_some a None = refl

module _ (d : Declared) (a : ℕ) where
  -- of an activity that isn't there
  pub nobody : activity_of d a ≡ None → (all : List Slice) → legal_entry d all a ≡ None
  unfolding legal_act
  nobody none all = ap (λ o. option_map (entry_by a)
      (option_and_then (want_act d (state_of d all))
      (option_and_then (want_of d (state_of d all)) o))) none

  module _ (held : List (ℕ × Slice)) where
    pub may_act : (act : Act) → MayAct d held a act → (all : List Slice) → IsSound d all
        → Fits all held → legal_entry d all a ≡ Some (entry_by a act)
    may_act act may all sound fits = ap (option_map (entry_by a)) (may all sound fits).0

    pub may_not : CannotAct d held a → (all : List Slice) → IsSound d all → Fits all held
        → legal_entry d all a ≡ None
    may_not cannot all sound fits = ap (option_map (entry_by a)) (cannot all sound fits)

    pub has_entry : (has : Bool) → TellsAct d held a has → HasEntry d held a has
    has_entry has tells all sound fits = tells all sound fits
        ∙ same_some a (legal_act d (state_of d all) a)

    module _ (who : Activity) (number : activity_of d a ≡ Some who) where
      -- it wants nothing any more
      pub ended : IsWanted d held a who Nothing → (all : List Slice) → IsSound d all
          → Fits all held → legal_entry d all a ≡ None
      unfolding legal_act
      ended nothing all sound fits =
          ap (λ o. option_map (entry_by a)
          (option_and_then (want_act d (state_of d all))
          (option_and_then (want_of d (state_of d all)) o))) number
          ∙ ap (λ o. option_map (entry_by a) (option_and_then (want_act d (state_of d all)) o))
          (nothing all sound fits).0

      -- the part that is needed is one of the script's
      pub needs : (p : ℕ) → SomeFits (world_machine d) held → NeedsPart d held a p
          → (p < length (all_parts d)) × (IsHeld held p → ⊥)
      needs p some_list need =
          let e : Entry = entry_by a Stop in (
            touched_below d a who number (state_of d some_list.0) e p refl
                (need.1 e refl some_list.0 some_list.1 some_list.2),
            need.0,
          )

-- none is needed where all are in hand
pub none_needed : (d : Declared) (a p : ℕ) (who : Activity) (parts : List (ℕ × Part))
    → activity_of d a ≡ Some who → SomeFits (world_machine d) (meant meaning_of parts)
    → places_of parts ≡ up_from 0 (length (all_parts d))
    → NeedsPart d (meant meaning_of parts) a p → ⊥
none_needed d a p who parts number some_list places need =
    let n = needs d a (meant meaning_of parts) who number p some_list need in
    n.1 (all_in meaning_of (length (all_parts d)) parts places p n.0)

pub all_held : (d : Declared) (parts : List (ℕ × Part))
    → places_of parts ≡ up_from 0 (length (all_parts d)) → AreAllHeld d (meant meaning_of parts)
all_held d parts places p below = all_in meaning_of (length (all_parts d)) parts places p below
