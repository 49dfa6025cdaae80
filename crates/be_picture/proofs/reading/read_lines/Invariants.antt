use Rattle.std.proofs.Common.{◌≡◌, ◌≤◌, [], length, ◌+◌}
use Rattle.be_lex.specs.Lines.{lines_of}
use Rattle.be_picture.specs.Text.{read_lines}
use Rattle.be_picture.proofs.reading.read_lines.Given as goal

-- what is left makes what all makes, and no number is above the bytes
abbrev pub invariant-loop-line : goal.invariant-loop-line
invariant-loop-line l =
    (read_lines l.names l.number l.recorder (lines_of l.lines)
    ≡ read_lines l.names 1 [] (lines_of l.fn.bytes))
    × (l.number + length l.lines ≤ length l.fn.bytes + 1)

abbrev pub decreases-loop-line : goal.decreases-loop-line
decreases-loop-line l = length l.lines
