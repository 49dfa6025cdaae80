-- None of the cells that have a pixel.
use Rattle.std.proofs.Common.{sym, ap, ◌∙◌, take, count_by}
use Rattle.std.proofs.lemmas.Bool.{eqb-true}
use Rattle.be_span.specs.declared.Cell.{Cell}
use Rattle.be_span.specs.Spans.{cell_in, is_dirty}
use Rattle.be_span.proofs.PieceLemmas.{none_dirty}
use Rattle.be_span.proofs.piece.Piece.is_clean.Goals as goal

pub returns : goal.returns
returns c none x y =
    let count = sym c.dirty_among.ensures ∙ eqb-true c.dirty_among.result 0 none in
    let area = ap (λ n. count_by (λ (d : Cell). d.dirty) (take n c.self.inside.cells)) (sym c.area_of.ensures) in
    ap (λ s. is_dirty (cell_in s x y)) (sym c.self.view_is)
    ∙ none_dirty c.self.inside.area c.self.inside.cells x y c.self.invariant.0 (area ∙ count)
