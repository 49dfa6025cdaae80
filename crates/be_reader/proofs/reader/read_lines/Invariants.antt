use Rattle.std.proofs.Common.{◌≡◌, ◌≤◌, length, ◌+◌}
use Rattle.be_lex.specs.Lines.{lines_of}
use Rattle.be_reader.specs.Grammar.{read_lines}
use Rattle.be_said.specs.Keeps.{Keeps}
use Rattle.be_said.specs.SoFar.{nothing_said}
use Rattle.be_reader.proofs.reader.read_lines.Given as goal

-- what is left says what all of it says, what was said keeps its limits, and no number is above the bytes
abbrev pub invariant-loop-line : goal.invariant-loop-line
invariant-loop-line l =
    (read_lines l.number l.said (lines_of l.lines) ≡ read_lines 1 nothing_said (lines_of l.fn.bytes)) × Keeps l.said × (l.number + length l.lines ≤ length l.fn.bytes + 1)

abbrev pub decreases-loop-line : goal.decreases-loop-line
decreases-loop-line l = length l.lines
