use Rattle.std.proofs.Common.{◌≡◌, ◌++◌}
use Rattle.std.specs.Option.{option_map}
use Rattle.be_line.specs.Kinds.{pixels_in}
use Rattle.be_reader.proofs.pixels.read_row.Given as goal

abbrev pub invariant-loop-left : goal.invariant-loop-left
invariant-loop-left l = option_map (λ more. l.colors.items ++ more) (pixels_in l.left l.rest) ≡ pixels_in l.count l.word

abbrev pub decreases-loop-left : goal.decreases-loop-left
decreases-loop-left l = l.left
