use Rattle.std.proofs.Common.{ℕ, List, [], ◌∷◌, codes}
use Rattle.be_made.specs.Made.{command_words, step_word}
use Rattle.be_made.proofs.DrawnLemmas.{two_drawn}
use Rattle.be_made.proofs.Lines.{move_written}
use Rattle.be_written.specs.Lines.{line_of}
use Rattle.be_made.proofs.apps.write_move.Goals as goal

pub returns : goal.returns
unfolding command_words
returns c =
    let old : List ℕ = c.args.text.now.items in
    let is =
    move_written old _ _ _ _ (step_word c.below-across.result) (step_word c.below-down.result)
    c.in_ok-extend_from_slice.ensures.items c.in_ok-write_distance.ensures
    c.in_ok-write_distance-2.ensures c.in_ok-push.ensures.items in
    two_drawn 41 41 c.args.draws.now c.below-across.new.self c.below-down.new.self
    c.below-across.result c.below-down.result
    (λ dx dy. line_of (codes "moveby" ∷ step_word dx ∷ step_word dy ∷ [])) old
    c.push.new.self.items
    (record { place = c.below-across.ensures.place; drawn = c.below-across.ensures.drawn })
    (record { place = c.below-down.ensures.place; drawn = c.below-down.ensures.drawn }) is
