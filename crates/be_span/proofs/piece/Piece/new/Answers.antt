-- One pixel.
use Rattle.std.proofs.Common.{rules}
use Rattle.be_span.specs.Spans.{area_of}
use Rattle.be_span.proofs.piece.Piece.new.Goals as goal

pub invariant_of-result : goal.invariant_of-result
unfolding area_of
invariant_of-result c = (record { across = search rules; down = search rules }, search rules)
