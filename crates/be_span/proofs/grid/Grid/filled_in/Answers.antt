-- One colour all over.
use Rattle.std.proofs.Common.{◌≡◌, IsOk, All, Option, Some, None, [], ◌∷◌, length, cond, arith, ap, ◌∙◌}
use Rattle.std.specs.Prelude.{if◌then◌else◌}
use Rattle.std.specs.Vec.{vec_len}
use Rattle.be_span.specs.declared.Cell.{Cell}
use Rattle.be_span.specs.Spans.{clean_cell, pixels_of}
use Rattle.be_span.proofs.CellLemmas.{cell_all}
use Rattle.be_span.proofs.grid.Grid.filled_in.Goals as goal

pub returns-clause-cells : goal.returns-clause-cells
returns-clause-cells c x y has =
    let area = c.area_of.ensures in
    let fits = c.requires.room in
    let none_yet = c.requires.none in
    let done : IsOk c.resize.result = c.resize.ensures.succeeds (omega arith) in
    let len = c.resize.ensures.len ∙ ap (λ b. if b then c.area_of.result else vec_len c.args.room) done in
    let whole : length c.resize.new.self.items ≡ pixels_of (c.args.frame ∷ []) = omega arith in
    let all : All (λ d. d ≡ clean_cell c.args.rgb) c.resize.new.self.items = λ k d less. c.resize.ensures.by_index.1 k d done (omega arith) (omega arith) in
    let none : Option Cell = None in
    cell_all (c.args.frame ∷ []) c.resize.new.self.items (clean_cell c.args.rgb) x y whole all
    ∙ ap (λ b. cond b (Some (clean_cell c.args.rgb)) none) has
