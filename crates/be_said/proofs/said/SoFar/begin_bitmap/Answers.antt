use Rattle.std.proofs.Common.{sym, subst, arith}
use Rattle.be_said.specs.Fits.{Fits}
use Rattle.be_said.specs.Deeds.{begins_bitmap}
use Rattle.be_said.specs.Said.{seen_said}
use Rattle.be_said.proofs.BitmapKept.{bitmap-kept}
use Rattle.be_said.proofs.DueLemmas.{bitmap-done, bitmap-many}
use Rattle.be_said.proofs.said.SoFar.begin_bitmap.Goals as goal

pub returns-then-len-ge-BITMAPS : goal.returns-then-len-ge-BITMAPS
returns-then-len-ge-BITMAPS c = rw (← c.self.view_is) (bitmap-many _ _ _ _ (omega arith))

pub invariant_of-self : goal.invariant_of-self
invariant_of-self c =
    let fits : Fits (seen_said c.self.inside) (begins_bitmap c.args.name c.args.width c.args.height) = subst (λ s. Fits s (begins_bitmap c.args.name c.args.width c.args.height)) (sym c.self.view_is) c.requires in
    rw c.new.ensures.items (bitmap-kept _ _ _ _ _ c.self.invariant fits.0 (omega arith) fits.1 fits.3 fits.4 fits.5)

pub returns : goal.returns
returns c = rw (← c.self.view_is, c.new.ensures.items) (bitmap-done _ _ _ _ (omega arith))
