use Rattle.std.proofs.Common.{◌+◌, ℤ, Bool, ◌&&◌, ap, arith}
use Rattle.be_geom.specs.Rects.{rect_has}
use Rattle.be_descent.specs.Clips.{first_hold, states_allow}
use Rattle.be_descent.proofs.ClipLemmas.{all_allow}
use Rattle.be_descent.proofs.PaintLemmas.{same_painted}
use Rattle.be_descent.proofs.clips.ClipsLay.lay.Goals as goal

pub returns : goal.returns
returns g c =
    let self = c.args.self.now in
    let at : ℤ → ℤ → Bool = g.L.Lay.at self.next.now in
    let area = c.args.area in
    let count = c.saved-count.result + 1 in
    let number = c.saved-count.ensures.number in
    same_painted (g.L.Lay.rule self.next.now)
    (λ x y. rect_has area x y && (first_hold self.states.now count self.corner x y && at x y))
    (λ x y. rect_has area x y && (states_allow self.states.now self.corner x y && at x y))
    c.args.spans.now c.within_first.new.spans
    (λ x y. ap (λ b. rect_has area x y && (b && at x y))
    (all_allow self.states.now count self.corner x y (omega (arith, number))))
    c.within_first.ensures
