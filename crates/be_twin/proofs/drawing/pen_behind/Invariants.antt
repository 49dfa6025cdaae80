use Rattle.std.proofs.Common.{◌≡◌, drop}
use Rattle.be_paint.specs.Inks.{pen_after_text}
use Rattle.be_twin.proofs.drawing.pen_behind.Given as goal

abbrev pub invariant-loop-code : goal.invariant-loop-code
invariant-loop-code l = pen_after_text (drop l._code-index l.codes) l.x ≡ pen_after_text l.codes l.fn.x
