use Rattle.std.proofs.Common.{ℕ, List, [], ◌∷◌, codes}
use Rattle.std.specs.Fmt.{decimal}
use Rattle.be_made.proofs.DrawnLemmas.{two_drawn}
use Rattle.be_made.proofs.Lines.{press_written}
use Rattle.be_written.specs.Lines.{line_of}
use Rattle.be_made.proofs.presses.write_press.Goals as goal

pub returns : goal.returns
returns c =
    let old : List ℕ = c.args.text.now.items in
    let is =
    press_written old _ _ _ _ (decimal c.below-x.result) (decimal c.below-y.result)
    c.in_ok-extend_from_slice.ensures.items c.in_ok-write_number.ensures
    c.in_ok-write_number-2.ensures c.in_ok-push.ensures.items in
    two_drawn 640 480 c.args.draws.now c.below-x.new.self c.below-y.new.self c.below-x.result
    c.below-y.result (λ x y. line_of (codes "press" ∷ decimal x ∷ decimal y ∷ [])) old
    c.push.new.self.items
    (record { place = c.below-x.ensures.place; drawn = c.below-x.ensures.drawn })
    (record { place = c.below-y.ensures.place; drawn = c.below-y.ensures.drawn }) is
