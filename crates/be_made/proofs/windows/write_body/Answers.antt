use Rattle.std.proofs.Common.{ℕ, ◌+◌, List, [], ◌∷◌, ◌++◌, codes}
use Rattle.std.specs.Fmt.{decimal}
use Rattle.be_made.specs.Made.{name}
use Rattle.be_made.proofs.DrawnLemmas.{two_drawn}
use Rattle.be_made.proofs.Lines.{body_written}
use Rattle.be_written.specs.Lines.{line_of}
use Rattle.be_made.proofs.windows.write_body.Goals as goal

pub returns : goal.returns
returns c =
    let old : List ℕ = c.args.text.now.items in
    let is =
    body_written old _ _ _ _ _ _ (name (codes "w") c.args.window)
    (decimal (c.below-across.result + 4)) (decimal (c.below-down.result + 4))
    c.in_ok-extend_from_slice.ensures.items c.in_ok-write_name.ensures
    c.in_ok-extend_from_slice-2.ensures.items c.in_ok-write_number.ensures
    c.in_ok-write_number-2.ensures c.in_ok-extend_from_slice-3.ensures.items in
    two_drawn 20 20 c.args.draws.now c.below-across.new.self c.below-down.new.self
    c.below-across.result c.below-down.result
    (λ p q. line_of (codes "draw" ∷ name (codes "w") c.args.window ∷ codes "root" ∷ [])
    ++ line_of (codes "fill" ∷ codes "root" ∷ codes "4" ∷ codes "4" ∷ decimal (p + 4)
    ∷ decimal (q + 4) ∷ codes "mixed" ∷ []) ++ line_of (codes "end" ∷ [])) old
    c.extend_from_slice-3.new.self.items
    (record { place = c.below-across.ensures.place; drawn = c.below-across.ensures.drawn })
    (record { place = c.below-down.ensures.place; drawn = c.below-down.ensures.drawn }) is
