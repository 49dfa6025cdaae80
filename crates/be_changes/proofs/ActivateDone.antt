-- A window is activated: the panes, and then the desk.
use Rattle.std.proofs.Common.{◌≡◌, ℕ, List, map, Option, Some, sym, ap, ◌∙◌, subst}
use Rattle.std.proofs.lemmas.Option.{same_Some}
use Rattle.be_asking.specs.declared.activity.Activity.TheVariants as who
use Rattle.be_changes.proofs.MadeLists.{others_stay}
use Rattle.be_changes.proofs.PartLists.{no_pane}
use Rattle.be_changes.specs.Activations.{HasActivated, IsToActivate}
use Rattle.be_changes.specs.Left.{HasLeft}
use Rattle.be_changes.specs.Panes.{PanesAreToChange, pane_places}
use Rattle.be_changes.specs.declared.events.Activation.{Activation}
use Rattle.be_desk.specs.Plans.{Planned}
use Rattle.be_hall.specs.Hands.{Hand, part_at}
use Rattle.be_machine.specs.Touched as part
use Rattle.be_parts.specs.Desks.{IsChangedBy, IsPlanFor}
use Rattle.be_parts.specs.Parts.{hand_with, meaning_of}
use Rattle.be_parts.specs.declared.part.Part.{Part}
use Rattle.be_parts.specs.declared.part.Part.TheVariants as kinds
use Rattle.be_rules.specs.Places.{place_of}
use Rattle.be_rules.specs.Slices.{Slice}
use Rattle.be_script.specs.Script.{Declared}
use Rattle.be_desk.specs.declared.planned.Renewed.{Renewed}

module _ (d : Declared) (parts : List (ℕ × Part)) (old between : Hand Part) (o : Option Activation) (ready : IsToActivate d parts old.parts o) (m : Activation) (is : o ≡ Some m) (places : List ℕ) (same : places ≡ m.places.items) where
  known : IsToActivate d parts old.parts (Some m)
  known = subst (IsToActivate d parts old.parts) is ready

  pub activate_panes : PanesAreToChange d parts old.parts who.Input m.plan places
  activate_panes = subst (PanesAreToChange d parts old.parts who.Input m.plan) (sym same) known.0

  module _ (named : List ℕ) (left : HasLeft d parts who.Input (map part.pane named) old between) (where_desk : ℕ) (spot : where_desk ≡ place_of d part.desk) where
    desk_stays : part_at between.parts where_desk ≡ Some (kinds.Desk known.1.0)
    desk_stays = ap (part_at between.parts) spot ∙ others_stay d parts who.Input (map part.pane named) old between part.desk tt (no_pane part.desk (λ u never. absurd (cc)) named) left ∙ known.1.1

    pub activate_desk : (k : Slice) × (part_at between.parts where_desk ≡ Some (kinds.Desk k))
    activate_desk = (known.1.0, desk_stays)

    pub activate_plan : (k : Slice) (then_plan : Planned) (spans : List (Option Renewed)) → then_plan ≡ record m.plan { spans = spans } → part_at between.parts where_desk ≡ Some (kinds.Desk k) → IsPlanFor then_plan k
    activate_plan k then_plan spans are at =
        subst (λ (t : Planned). IsPlanFor t k) (sym are)
        (subst (IsPlanFor m.plan) (ap meaning_of (same_Some (kinds.Desk known.1.0) (kinds.Desk k) (sym desk_stays ∙ at))) known.1.2)

    pub has_activated : (k v : Slice) (then_plan : Planned) (spans : List (Option Renewed)) → then_plan ≡ record m.plan { spans = spans } → places ≡ pane_places d named → part_at between.parts where_desk ≡ Some (kinds.Desk k) → IsChangedBy then_plan k v
        → HasActivated d parts o old (hand_with between where_desk (kinds.Desk v))
    has_activated k v then_plan spans are places_are at changed =
        subst (λ (x : Option Activation). HasActivated d parts x old (hand_with between where_desk (kinds.Desk v))) (sym is) (
          between,
          (named, sym same ∙ places_are, left),
          (
            k,
            v,
            ap (part_at between.parts) (sym spot) ∙ at,
            ap (λ n. hand_with between n (kinds.Desk v)) spot,
            subst (λ (t : Planned). IsChangedBy t k v) are changed,
          ),
        )
