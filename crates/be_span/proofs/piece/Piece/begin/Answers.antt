-- What is written for each pixel.
use Rattle.std.proofs.Common.{◌≡◌, ap, cond, ◌∙◌, arith, rules, length, [], ◌∷◌}
use Rattle.std.specs.Option.{option_map}
use Rattle.be_span.specs.declared.Cell.{Cell}
use Rattle.be_span.specs.Spans.{cell_in}
use Rattle.be_span.proofs.CellLemmas.{spans}
use Rattle.be_span.proofs.PieceLemmas.{has_cell}
use Rattle.be_span.proofs.piece.Piece.begin.Goals as goal

pub returns-clause-cells : goal.returns-clause-cells
returns-clause-cells g c x y has =
    let all : length c.self.inside.cells ≡ 1024 = search rules in
    let room = c.requires.room in
    let const : Cell → Cell = λ d. g.W.Write.cell c.args.write.now x y in
    c.write.ensures.cells x y
    ∙ ap (λ b. cond b (option_map const (cell_in (spans (c.args.area ∷ []) c.self.inside.cells) x y)) (cell_in (spans (c.args.area ∷ []) c.self.inside.cells) x y)) has
    ∙ ap (option_map const) (has_cell c.args.area c.self.inside.cells x y c.requires.some (omega arith) has)
