use Rattle.be_color.specs.declared.colors.Color.TheVariants.{Solid}
use Rattle.be_span.proofs.MaskLemmas.{IsPaintedBut}
use Rattle.be_span.proofs.masks.paint_each.Given as goal

abbrev pub invariant-bits : goal.invariant-bits
invariant-bits l = record { cells : IsPaintedBut l.fn.brush (Solid l.fn.rgb) l.fn.mask l.rest l.fn.cells l.cells }

abbrev pub decreases-bits : goal.decreases-bits
decreases-bits l = l.rest
