-- A row written.
use Rattle.std.proofs.Common.{arith, ap, sym, refl, ◌∙◌, pos, ◌+ℤ◌, ◌+◌, ◌-◌, ◌<◌, ◌≤◌, ◌⊎◌, [], ◌∷◌}
use Rattle.std.specs.Option.{option_map}
use Rattle.std.proofs.lemmas.Int.{to_z-of_z}
use Rattle.std.proofs.lemmas.Option.{slice_get-get_or}
use Rattle.be_span.specs.Spans.{black_cell}
use Rattle.be_span.proofs.CellLemmas.{part_length, put_inside, put_others, stood_cell, stays_beside}
use Rattle.be_span.proofs.block.write_in.Goals as goal

pub start_of-start-requires-clause-run : goal.start_of-start-requires-clause-run
start_of-start-requires-clause-run g c = simp (to_z-of_z, c.ranges.x, c.ranges.y) c.requires.run

pub returns-clause-written : goal.returns-clause-written
returns-clause-written g c k less =
    let old = c.args.cells.now in
    let start = c.start_of-start.result in
    let n = start + c.args.count - start in
    let fits = c.requires.fits in
    let within = c.start_of-start.ensures.within in
    let part = part_length old _ start c.args.count refl (omega arith) in
    let long = c.write.ensures.len in
    let stand = simp (to_z-of_z, c.ranges.x, c.ranges.y) at c.start_of-start.ensures.stand in
    let cells = simp (to_z-of_z, c.ranges.x, c.ranges.y) at c.write.ensures.cells in
    let was = stood_cell (c.args.frame ∷ []) old start c.args.count c.args.x c.args.y k stand less
    ∙ slice_get-get_or old (start + k) black_cell (omega arith) in
    stood_cell (c.args.frame ∷ []) _ start c.args.count c.args.x c.args.y k stand less
    ∙ put_inside start n old c.write.new.cells k (omega arith) (omega arith)
    ∙ cells k (omega arith)
    ∙ ap (option_map (λ d. g.W.Write.cell c.args.write.now (c.args.x +ℤ pos k) c.args.y)) (sym was)

pub returns-clause-others : goal.returns-clause-others
returns-clause-others g c z w beside =
    let old = c.args.cells.now in
    let start = c.start_of-start.result in
    let n = start + c.args.count - start in
    let fits = c.requires.fits in
    let within = c.start_of-start.ensures.within in
    let part = part_length old _ start c.args.count refl (omega arith) in
    let long = c.write.ensures.len in
    let stand = simp (to_z-of_z, c.ranges.x, c.ranges.y) at c.start_of-start.ensures.stand in
    stays_beside (c.args.frame ∷ []) old _ start c.args.count c.args.x c.args.y z w stand
    (λ q h. let apart : (q < start) ⊎ (start + n ≤ q) = grind arith in
    put_others start n old c.write.new.cells q (omega arith) (omega arith) apart) beside
