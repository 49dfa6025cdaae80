use Rattle.std.proofs.Common.{◌≡◌, ℤ, to_z, of_z, w16, rules}
use Rattle.be_command.specs.Kinds.{coordinate}
use Rattle.be_command.specs.Places.{after_word, next_said}
use Rattle.be_command.proofs.TakesLemmas.{takes_both, takes_as}
use Rattle.be_command.proofs.reading.Reading.point.Goals as goal

pub returns : goal.returns
returns c =
    let x : to_z w16 (of_z w16 c.coordinate.result) ≡ c.coordinate.result = search rules in
    let y : to_z w16 (of_z w16 c.coordinate-2.result) ≡ c.coordinate-2.result = search rules in
    rw (x, y)
    (takes_as _ _ (λ (p : ℤ × ℤ). record { x = p.0; y = p.1 }) _ _ _
    (takes_both _ _ _ _ _ (next_said coordinate) after_word _ _ c.coordinate.ensures c.coordinate-2.ensures))
