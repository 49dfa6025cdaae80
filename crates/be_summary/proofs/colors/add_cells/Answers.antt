use Rattle.std.proofs.Common.{false, List, [], ◌∷◌, ◌++◌, get_or, take, refl, sym, ap, subst, ◌∙◌}
use Rattle.std.proofs.lemmas.List.{append_assoc, take_more}
use Rattle.be_span.specs.declared.Cell.{Cell}
use Rattle.be_summary.specs.Colors.{HasColors}
use Rattle.be_summary.proofs.colors.add_cells.Goals as goal

pub loop-cell-preserved : goal.loop-cell-preserved
loop-cell-preserved c =
    λ others has.
    let cells = c.args.cells.now in
    let i = c.loop-cell.cell-index in
    let none : Cell =
    record { rgb = record { red = 0; green = 0; blue = 0 }; dirty = false } in
    let cell = get_or cells i none in
    subst (λ (cs : List Cell). HasColors cs c.add_color.new.colors)
    (append_assoc others (take i cells) (cell ∷ [])
    ∙ sym (ap (λ (l : List Cell). others ++ l) (take_more cells i none c.loop-cell-test.true)))
    (c.in_ok-add_color.ensures (others ++ take i cells) cell refl
    (c.loop-cell.invariant others has))
