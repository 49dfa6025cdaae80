use Rattle.std.proofs.Common.{◌≡◌, ℤ, to_z, of_z, w16, refl, rules}
use Rattle.be_command.specs.Kinds.{coordinate}
use Rattle.be_reader.specs.Kinds.{At, behind, both, word_said}
use Rattle.be_reader.proofs.TakesLemmas.{behind_four, takes_as, takes_both, takes_same, takes_two}
use Rattle.be_reader.proofs.reading.Reading.frame.Goals as goal

pub returns : goal.returns
returns c =
    let left : to_z w16 (of_z w16 c.coordinate.result) ≡ c.coordinate.result = search rules in
    let top : to_z w16 (of_z w16 c.coordinate-2.result) ≡ c.coordinate-2.result = search rules in
    let right : to_z w16 (of_z w16 c.coordinate-3.result) ≡ c.coordinate-3.result = search rules in
    let bottom : to_z w16 (of_z w16 c.coordinate-4.result) ≡ c.coordinate-4.result = search rules in
    rw (left, top, right, bottom)
    (takes_as _ _ (λ (r : (ℤ × ℤ) × (ℤ × ℤ)). record { left = r.0.0; top = r.0.1; right = r.1.0; bottom = r.1.1 }) _ _ _
    (takes_same _ _ _ _ _ _ _ refl (behind_four c.args.self.now.at)
    (takes_both _ _ _ _ _ (λ (at : At). both (word_said coordinate 0 at) (word_said coordinate 1 at)) (behind 2) _ _
    (takes_two _ _ _ coordinate coordinate _ _ c.coordinate.ensures c.coordinate-2.ensures)
    (takes_two _ _ _ coordinate coordinate _ _ c.coordinate-3.ensures c.coordinate-4.ensures))))
