use Rattle.std.proofs.Common.{ℕ, ◌+◌, List, [], ◌∷◌, ◌++◌, codes}
use Rattle.std.specs.Fmt.{decimal}
use Rattle.be_made.specs.Made.{color_word, name}
use Rattle.be_made.proofs.DrawnLemmas.{five_drawn}
use Rattle.be_made.proofs.Lines.{window_written}
use Rattle.be_written.specs.Lines.{line_of}
use Rattle.be_made.proofs.windows.write_window.Goals as goal

pub returns : goal.returns
returns c =
    let old : List ℕ = c.args.text.now.items in
    let is =
    window_written old _ _ _ _ _ _ _ _ _ (name (codes "w") c.args.window)
    (decimal c.below-left.result) (decimal c.below-top.result)
    (decimal (c.below-left.result + (c.below-width.result + 20)))
    (decimal (c.below-top.result + (c.below-height.result + 20))) (color_word c.below-color.result)
    c.in_ok-extend_from_slice.ensures.items c.in_ok-write_name.ensures c.in_ok-write_number.ensures
    c.in_ok-write_number-2.ensures c.in_ok-write_number-3.ensures c.in_ok-write_number-4.ensures
    c.in_ok-extend_from_slice-2.ensures.items c.in_ok-write_color.ensures
    c.in_ok-push.ensures.items in
    five_drawn c.args.draws.now c.below-left.new.self c.below-top.new.self c.below-width.new.self
    c.below-height.new.self c.below-color.new.self c.below-left.result c.below-top.result
    c.below-width.result c.below-height.result c.below-color.result
    (λ l t w h color. line_of (codes "window" ∷ name (codes "w") c.args.window ∷ decimal l
    ∷ decimal t ∷ decimal (l + (w + 20)) ∷ decimal (t + (h + 20))
    ∷ (codes "color=" ++ color_word color) ∷ [])) old c.push.new.self.items
    (record { place = c.below-left.ensures.place; drawn = c.below-left.ensures.drawn })
    (record { place = c.below-top.ensures.place; drawn = c.below-top.ensures.drawn })
    (record { place = c.below-width.ensures.place; drawn = c.below-width.ensures.drawn })
    (record { place = c.below-height.ensures.place; drawn = c.below-height.ensures.drawn })
    (record { place = c.below-color.ensures.place; drawn = c.below-color.ensures.drawn }) is
