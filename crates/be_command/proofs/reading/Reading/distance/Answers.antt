use Rattle.std.proofs.Common.{◌≡◌, pos, negsuc, to_z, of_z, w32, rules}
use Rattle.be_command.specs.Kinds.{numbered}
use Rattle.be_command.specs.Places.{after_word, next_said}
use Rattle.be_command.proofs.TakesLemmas.{takes_both}
use Rattle.be_command.proofs.reading.Reading.distance.Goals as goal

pub returns : goal.returns
returns c =
    let right : to_z w32 (of_z w32 c.number.result) ≡ c.number.result = search rules in
    let down : to_z w32 (of_z w32 c.number-2.result) ≡ c.number-2.result = search rules in
    rw (right, down) (takes_both _ _ _ _ _ (next_said (numbered (negsuc 65534) (pos 65535))) after_word _ _ c.number.ensures c.number-2.ensures)
