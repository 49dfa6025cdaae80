use Rattle.be_span.specs.Painting.{IsPainted}
use Rattle.be_paint.specs.Exposing.{exposed_by}
use Rattle.be_paint.proofs.ExposingLemmas.{exposed_to}
use Rattle.be_paint.proofs.invalidating.expose_area.Given as goal

abbrev pub invariant-loop-view : goal.invariant-loop-view
invariant-loop-view l =
    IsPainted (exposed_by l.reach l.colors) (exposed_to l.reach l.area l.view) l.initial.spans l.spans
