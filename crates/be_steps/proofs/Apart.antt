-- Different parts lie at different places.
use Rattle.std.proofs.Common.{◌≡◌, sym, ap, ◌∙◌}
use lib.ListN.{get_elem?}
use Rattle.be_machine.specs.Touched.{Part}
use Rattle.be_rules.proofs.ListLemmas.{same_elements}
use Rattle.be_rules.proofs.Local.{at_place}
use Rattle.be_rules.specs.Places.{IsPart, place_of}
use Rattle.be_rules.specs.Slices.{all_parts}
use Rattle.be_script.specs.Script.{Declared}

pub apart : (d : Declared) (x y : Part) → IsPart d x → IsPart d y → (x ≡ y → ⊥) → place_of d x ≡ place_of d y → ⊥
apart d x y there other different same = different (same_elements x y (sym (at_place d x there) ∙ ap (get_elem? (all_parts d)) same ∙ at_place d y other))
