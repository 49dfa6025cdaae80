-- A part in hand is of the kind that its place says.
use Rattle.std.proofs.Common.{◌≡◌, ℕ, List, Option, Some, None, refl, sym, ap}
use Rattle.be_hall.specs.Hands.{part_at}
use Rattle.be_machine.specs.Touched as part
use Rattle.be_parts.specs.Kinds.{HasKind, IsOfKind, Kind, kind_of}
use Rattle.be_parts.specs.Parts.{meaning_of}
use Rattle.be_parts.specs.declared.part.Part.{Part}
use Rattle.be_rules.specs.Places.{place_of}
use Rattle.be_rules.specs.Slices.{slice_of}
use Rattle.be_rules.proofs.Lawfully.{state}
use Rattle.be_script.specs.Script.{Declared}
use Rattle.be_asking.specs.Finding.{IsReachable}
use Rattle.be_asking.proofs.InHand.{slice_read}

kind_by : (kind : Kind) (o : Option Part) → ((y : Part) → o ≡ Some y → kind_of (meaning_of y) ≡ kind) → HasKind kind o
kind_by kind (Some y) h = h y refl
kind_by kind None h = tt

pub kind_there : (d : Declared) (parts : List (ℕ × Part)) (x : part.Part) (r : IsReachable d parts x) → IsOfKind (kind_of (slice_of (state d r.fitting.0 r.fitting.1) x)) parts (place_of d x)
kind_there d parts x r =
    kind_by (kind_of (slice_of (state d r.fitting.0 r.fitting.1) x)) (part_at parts (place_of d x))
    (λ y at. ap kind_of (sym (slice_read d parts r.fitting.0 r.fitting.1 r.fitting.2 y x r.there at)))
