use Rattle.std.proofs.Common.{ℤ, Bool, true, ◌&&◌, ap}
use Rattle.be_facts.proofs.Truths.{and_true}
use Rattle.be_span.specs.Slices.{painted}
use Rattle.be_descent.specs.Drawing.{may_draw}
use Rattle.be_descent.specs.Inks.{frame_of, picture_color}
use Rattle.be_descent.specs.Places.{has_moved}
use Rattle.be_descent.proofs.PaintLemmas.{same_painted}
use Rattle.be_descent.proofs.image.paint_image.Goals as goal

pub returns : goal.returns
returns c =
    let image = c.args.image.now in
    let may : ℤ → ℤ → Bool = may_draw c.args.reach.now in
    let box : ℤ → ℤ → Bool = has_moved (frame_of image.bitmap.now) image.way in
    same_painted (λ x y. painted image.brush (picture_color image.bitmap.now image.way x y))
    (λ x y. box x y && (may x y && true)) (λ x y. box x y && may x y)
    c.args.spans.now c.paint_rect.new.spans (λ x y. ap (λ b. box x y && b) (and_true (may x y)))
    (rw c.frame_of-rect.ensures at c.paint_rect.ensures)
