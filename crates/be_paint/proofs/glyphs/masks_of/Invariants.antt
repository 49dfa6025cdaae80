use Rattle.std.proofs.Common.{◌≡◌, pos, negsuc, ◌≤ℤ◌, length}
use Rattle.std.proofs.Math.ListN.{drop}
use Rattle.be_paint.proofs.GlyphLemmas.{AreGathered}
use Rattle.be_paint.proofs.glyphs.masks_of.Given as goal

abbrev pub invariant-loop-code : goal.invariant-loop-code
invariant-loop-code l = record {
  least : negsuc 32767 ≤ℤ l.left;
  most : l.left ≤ℤ pos 32767;
  seven : length l.masks ≡ 7;
  gathered : AreGathered l.codes (drop l.code-index l.codes) l.fn.pen l.left l.fn.x l.masks;
}
