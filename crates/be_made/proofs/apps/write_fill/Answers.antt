use Rattle.std.proofs.Common.{ℕ, ◌+◌, List, [], ◌∷◌, codes}
use Rattle.std.specs.Fmt.{decimal}
use Rattle.be_made.specs.Made.{command_words}
use Rattle.be_made.proofs.DrawnLemmas.{two_drawn}
use Rattle.be_made.proofs.Lines.{fill_written}
use Rattle.be_written.specs.Lines.{line_of}
use Rattle.be_made.proofs.apps.write_fill.Goals as goal

pub returns : goal.returns
unfolding command_words
returns c =
    let old : List ℕ = c.args.text.now.items in
    let is =
    fill_written old _ _ _ _ _ _ (decimal c.below-left.result) (decimal c.below-top.result)
    (decimal (c.below-left.result + 30)) (decimal (c.below-top.result + 20))
    c.in_ok-extend_from_slice.ensures.items c.in_ok-write_number.ensures
    c.in_ok-write_number-2.ensures c.in_ok-write_number-3.ensures c.in_ok-write_number-4.ensures
    c.in_ok-extend_from_slice-2.ensures.items in
    two_drawn 100 80 c.args.draws.now c.below-left.new.self c.below-top.new.self
    c.below-left.result c.below-top.result
    (λ p q. line_of (codes "fill" ∷ codes "root" ∷ decimal p ∷ decimal q ∷ decimal (p + 30)
    ∷ decimal (q + 20) ∷ codes "high" ∷ [])) old c.extend_from_slice-2.new.self.items
    (record { place = c.below-left.ensures.place; drawn = c.below-left.ensures.drawn })
    (record { place = c.below-top.ensures.place; drawn = c.below-top.ensures.drawn }) is
