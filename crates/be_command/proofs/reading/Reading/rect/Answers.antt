use Rattle.std.proofs.Common.{◌≡◌, ℤ, to_z, of_z, w16, rules}
use Rattle.be_command.specs.Kinds.{coordinate, pair_at, after_pair}
use Rattle.be_command.specs.Places.{after_word, next_said}
use Rattle.be_command.proofs.TakesLemmas.{takes_both, takes_as}
use Rattle.be_command.proofs.reading.Reading.rect.Goals as goal

pub returns : goal.returns
returns c =
    let left : to_z w16 (of_z w16 c.coordinate.result) ≡ c.coordinate.result = search rules in
    let top : to_z w16 (of_z w16 c.coordinate-2.result) ≡ c.coordinate-2.result = search rules in
    let right : to_z w16 (of_z w16 c.coordinate-3.result) ≡ c.coordinate-3.result = search rules in
    let bottom : to_z w16 (of_z w16 c.coordinate-4.result) ≡ c.coordinate-4.result = search rules in
    rw (left, top, right, bottom)
    (takes_as _ _ (λ (r : (ℤ × ℤ) × (ℤ × ℤ)). record { left = r.0.0; top = r.0.1; right = r.1.0; bottom = r.1.1 }) _ _ _
    (takes_both _ _ _ _ _ (pair_at coordinate) after_pair _ _
    (takes_both _ _ _ _ _ (next_said coordinate) after_word _ _ c.coordinate.ensures c.coordinate-2.ensures)
    (takes_both _ _ _ _ _ (next_said coordinate) after_word _ _ c.coordinate-3.ensures c.coordinate-4.ensures)))
