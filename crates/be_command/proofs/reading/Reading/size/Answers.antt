use Rattle.std.proofs.Common.{◌≡◌, pos, to_z, of_z, w16, rules}
use Rattle.be_command.specs.Kinds.{numbered}
use Rattle.be_command.specs.Places.{after_word, next_said}
use Rattle.be_command.proofs.TakesLemmas.{takes_both}
use Rattle.be_command.proofs.reading.Reading.size.Goals as goal

pub returns : goal.returns
returns c =
    let width : to_z w16 (of_z w16 c.extent.result) ≡ c.extent.result = search rules in
    let height : to_z w16 (of_z w16 c.extent-2.result) ≡ c.extent-2.result = search rules in
    rw (width, height) (takes_both _ _ _ _ _ (next_said (numbered (pos 0) (pos 32767))) after_word _ _ c.extent.ensures c.extent-2.ensures)
