use Rattle.std.proofs.Common.{◌≡◌, ◌++◌, drop, flat_map}
use Rattle.be_written.specs.MessageText.{escaped}
use Rattle.be_written.proofs.message.write_text.Given as goal

-- what is written and what is left to write are the whole text
abbrev pub invariant-loop-byte : goal.invariant-loop-byte
invariant-loop-byte l = l.page ++ flat_map escaped (drop l.byte-index l.text) ≡ l.fn.page ++ flat_map escaped l.text
