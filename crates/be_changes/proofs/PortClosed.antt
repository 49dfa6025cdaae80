-- The port of a window that is closed.
use Rattle.std.proofs.Common.{◌≡◌, ℕ, List, Some, inl, refl, sym, ap, ◌∙◌, subst}
use Rattle.be_asking.specs.declared.activity.Activity.{Activity}
use Rattle.be_changes.proofs.MadeLists.{one_left}
use Rattle.be_changes.specs.Left.{HasLeft}
use Rattle.be_changes.specs.Ports.{AreToClose, IsToClose, MeansPort}
use Rattle.be_geom.specs.declared.change.Change.{Change}
use Rattle.be_geom.specs.declared.change.Change.TheVariants.{Close}
use Rattle.be_hall.specs.Hands.{Hand, meant, part_at}
use Rattle.be_hall.specs.Machine.{IsHeld}
use Rattle.be_machine.specs.Touched as part
use Rattle.be_parts.specs.Parts.{hand_with, meaning_of}
use Rattle.be_parts.specs.Ports.{HasClosed}
use Rattle.be_parts.specs.declared.part.Part.{Part}
use Rattle.be_parts.specs.declared.part.Part.TheVariants as kinds
use Rattle.be_rules.specs.Places.{IsPart, place_of}
use Rattle.be_rules.specs.Slices.{Slice}
use Rattle.be_rules.specs.Sure.{IsAmong, port_for}
use Rattle.be_script.specs.Script.{Declared}
use Rattle.be_steps.specs.Steps.{LeavesAt}

module _ (d : Declared) (parts : List (ℕ × Part)) (old : Hand Part) (who : Activity) (w : ℕ) (change : Change) (ready : AreToClose d parts old.parts who w change) (closes : change ≡ Close) (place : ℕ) (spot : place ≡ place_of d (part.port w)) where
  this : IsToClose d parts old.parts who (part.port w)
  this = ready (part.port w) (subst (λ c. IsAmong (part.port w) (port_for w c)) (sym closes) (inl refl))

  pub close_there : (x : part.Part) × IsPart d x × (place ≡ place_of d x) × IsHeld (meant meaning_of parts) place
  close_there = (part.port w, this.there, spot, subst (IsHeld (meant meaning_of parts)) (sym spot) this.held)

  pub close_port_is : MeansPort old.parts place
  close_port_is = subst (MeansPort old.parts) (sym spot) this.port

  pub close_leads : (k v : Slice) → part_at old.parts place ≡ Some (kinds.Port k) → LeavesAt d parts who place v → HasClosed k v
  close_leads k v at leaves = this.leads (kinds.Port k) (ap (part_at old.parts) (sym spot) ∙ at) v (subst (λ p. LeavesAt d parts who p v) spot leaves)

  pub port_closed : (k z v : Slice) → part_at old.parts place ≡ Some (kinds.Port k) → LeavesAt d parts who place v → z ≡ v → HasLeft d parts who (port_for w change) old (hand_with old place (kinds.Port z))
  port_closed k z v at leaves is =
      subst (λ c. HasLeft d parts who (port_for w c) old (hand_with old place (kinds.Port z))) (sym closes)
      (one_left d parts who old (part.port w) place (kinds.Port k) (kinds.Port z) spot this.there at refl
      (subst (λ (s : Slice). LeavesAt d parts who (place_of d (part.port w)) s) (sym is) (subst (λ p. LeavesAt d parts who p v) spot leaves)))
