use Rattle.std.proofs.Common.{◌≡◌, ◌++◌, drop}
use Rattle.be_command.specs.Spelling.{rects_words}
use Rattle.be_command.proofs.spelling.push_rects.Given as goal

abbrev pub invariant-loop-rect : goal.invariant-loop-rect
invariant-loop-rect l = l.line.items ++ rects_words (drop l.rect-index l.rects) ≡ l.initial.line.items ++ rects_words l.rects
