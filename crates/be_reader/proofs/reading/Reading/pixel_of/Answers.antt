use Rattle.std.proofs.Common.{◌≡◌, ℤ, to_z, of_z, w16, rules, pos, ◌-ℤ◌}
use Rattle.be_command.specs.Kinds.{numbered}
use Rattle.be_reader.proofs.TakesLemmas.{takes_as, takes_two}
use Rattle.be_reader.proofs.reading.Reading.pixel_of.Goals as goal

pub returns : goal.returns
returns c =
    let x : to_z w16 (of_z w16 c.pixel.result) ≡ c.pixel.result = search rules in
    let y : to_z w16 (of_z w16 c.pixel-2.result) ≡ c.pixel-2.result = search rules in
    rw (x, y)
    (takes_as _ _ (λ (p : ℤ × ℤ). record { x = p.0; y = p.1 }) _ _ _
    (takes_two _ _ _ (numbered (pos 0) (pos c.args.width -ℤ pos 1)) (numbered (pos 0) (pos c.args.height -ℤ pos 1)) _ _ c.pixel.ensures c.pixel-2.ensures))
