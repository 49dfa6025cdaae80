use Rattle.std.proofs.Common.{◌≡◌}
use Rattle.std.specs.Prelude.{map, take}
use Rattle.be_machine.specs.Touched as part
use Rattle.be_rules.specs.Places.{place_of}
use Rattle.be_script.specs.Script.{declared_by}
use Rattle.be_ready.proofs.plans.places_of.Given as goal

abbrev pub invariant-loop-w : goal.invariant-loop-w
invariant-loop-w l = l.places.items ≡ map (λ u. place_of (declared_by l.fn.script) (part.pane u)) (take l.w-index l.fn.names)
