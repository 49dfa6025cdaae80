-- The parts in hand are of their kinds, and an activity needs its own.
use Rattle.std.proofs.Common.{◌≡◌, ℕ, List, Option, Some, None, refl, sym, ap, ◌∙◌, subst}
use Rattle.be_asking.proofs.InHand.{slice_read, not_held}
use Rattle.be_hall.specs.Hands.{meant, part_at}
use Rattle.be_hall.specs.Machine.{Fits, SomeFits}
use Rattle.be_machine.specs.Activities.{Activity, activity_of}
use Rattle.be_machine.specs.State.{State}
use Rattle.be_machine.specs.Touched as part
use Rattle.be_parts.specs.declared.part.Part.{Part}
use Rattle.be_parts.specs.Kinds.{Kind, HasKind, IsOfKind, kind_of, of_desk, of_input, of_cell, of_looper, of_port, of_link, of_pane}
use Rattle.be_parts.specs.Parts.{meaning_of}
use Rattle.be_rules.proofs.Everywhere.{needs_own}
use Rattle.be_rules.proofs.Lawfully.{state}
use Rattle.be_rules.specs.Found.{NeedsPart}
use Rattle.be_rules.specs.Places.{IsPart, place_of}
use Rattle.be_rules.specs.Rules.{IsSound, kept_at, world_machine}
use Rattle.be_rules.specs.Slices.{Slice, slice_of}
use Rattle.be_script.specs.Script.{Declared}

-- the kind of a part
abbrev pub kind_for : part.Part → Kind
kind_for part.desk = of_desk
kind_for part.input = of_input
kind_for (part.cell m) = of_cell
kind_for (part.looper w) = of_looper
kind_for (part.port w) = of_port
kind_for (part.link w) = of_link
kind_for (part.pane w) = of_pane

same_kind : (s : State) (x : part.Part) → kind_of (slice_of s x) ≡ kind_for x
same_kind s part.desk = refl
same_kind s part.input = refl
same_kind s (part.cell m) = refl
same_kind s (part.looper w) = refl
same_kind s (part.port w) = refl
same_kind s (part.link w) = refl
same_kind s (part.pane w) = refl

module _ (d : Declared) (parts : List (ℕ × Part)) where
  kind_by : (all : List Slice) (sound : IsSound d all) → Fits all (meant meaning_of parts) → (x : part.Part) → IsPart d x → (o : Option Part) → part_at parts (place_of d x) ≡ o → HasKind (kind_for x) o
  kind_by all sound fits x there (Some y) at = ap kind_of (sym (slice_read d parts all sound fits y x there at)) ∙ same_kind (state d all sound) x
  kind_by all sound fits x there None at = tt

  -- where a part is in hand, it is of its kind
  pub kind_there : SomeFits (world_machine d) (meant meaning_of parts) → (x : part.Part) → IsPart d x → (p : ℕ) → p ≡ place_of d x → IsOfKind (kind_for x) parts p
  kind_there (all, sound, fits) x there p is = subst (IsOfKind (kind_for x) parts) (sym is) (kind_by all sound fits x there (part_at parts (place_of d x)) refl)

  -- the part that keeps an activity's entries isn't in hand
  pub own_needed : (a p : ℕ) (who : Activity) → activity_of d a ≡ Some who → p ≡ kept_at d (Some who) → part_at parts p ≡ None → NeedsPart d (meant meaning_of parts) a p
  own_needed a p who number is out = needs_own d (meant meaning_of parts) a p (is ∙ ap (kept_at d) (sym number)) (not_held parts p out)
