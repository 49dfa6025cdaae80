use Rattle.std.proofs.Common.{ℕ, List, [], ◌∷◌, codes}
use Rattle.be_made.specs.Made.{color_word, command_words}
use Rattle.be_made.proofs.DrawnLemmas.{one_drawn}
use Rattle.be_made.proofs.Lines.{high_written}
use Rattle.be_written.specs.Lines.{line_of}
use Rattle.be_made.proofs.apps.write_high.Goals as goal

pub returns : goal.returns
unfolding command_words
returns c =
    let old : List ℕ = c.args.text.now.items in
    let is =
    high_written old _ _ _ (color_word c.below-color.result) c.in_ok-extend_from_slice.ensures.items
    c.in_ok-write_color.ensures c.in_ok-push.ensures.items in
    one_drawn 16777216 c.args.draws.now c.below-color.new.self c.below-color.result
    (λ color. line_of (codes "high" ∷ codes "root" ∷ color_word color ∷ [])) old
    c.push.new.self.items
    (record { place = c.below-color.ensures.place; drawn = c.below-color.ensures.drawn }) is
