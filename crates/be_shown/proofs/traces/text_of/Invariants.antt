use Rattle.std.proofs.Common.{◌≡◌, take}
use Rattle.be_parts.specs.Kept.{joined}
use Rattle.be_shown.proofs.traces.text_of.Given as goal

abbrev pub invariant-loop-text : goal.invariant-loop-text
invariant-loop-text l = l.whole.items ≡ joined (take l.text-index l.text-items)
