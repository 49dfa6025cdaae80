-- A row altered.
use Rattle.std.proofs.Common.{arith, rules, SFits, w16, [], ◌∷◌, pos, ◌+ℤ◌}
use Rattle.std.proofs.lemmas.Int.{ints, to_z-of_z}
use Rattle.be_span.specs.Painting.{changed, AreInRange}
use Rattle.be_span.proofs.CellLemmas.{changed_cell_in, stays_beside}
use Rattle.be_span.proofs.PieceLemmas.{row_of_run}
use Rattle.be_span.proofs.block.alter_in.Goals as goal

pub start_of-start-requires-clause-run : goal.start_of-start-requires-clause-run
start_of-start-requires-clause-run g c = simp (to_z-of_z, c.ranges.x, c.ranges.y) c.requires.run

pub alter_part-requires-clause-range : goal.alter_part-requires-clause-range
alter_part-requires-clause-range g c =
    let row = row_of_run c.args.frame c.args.x c.args.y c.args.count c.requires.some c.requires.run in
    let left_fits : SFits w16 c.args.frame.left = search rules in
    let top_fits : SFits w16 c.args.frame.top = search rules in
    let right_fits : SFits w16 c.args.frame.right = search rules in
    let bottom_fits : SFits w16 c.args.frame.bottom = search rules in
    let left = row.left in
    let right = row.right in
    let top = row.top in
    let bottom = row.bottom in
    let range : AreInRange c.args.x c.args.y c.args.count = record {
      left = omega (arith, ints);
      right = omega (arith, ints);
      top = omega (arith, ints);
      bottom = omega (arith, ints);
    } in
    simp (to_z-of_z, c.ranges.x, c.ranges.y) range

pub returns-clause-altered : goal.returns-clause-altered
returns-clause-altered g c k less =
    let stand = simp (to_z-of_z, c.ranges.x, c.ranges.y) at c.start_of-start.ensures.stand in
    let altered = simp (to_z-of_z, c.ranges.x, c.ranges.y) at c.alter_part.ensures.part.inside in
    changed_cell_in (c.args.frame ∷ []) c.args.cells.now c.alter_part.new.cells (changed (g.A.Alter.rule c.args.alter.now) (g.A.Alter.at c.args.alter.now) (c.args.x +ℤ pos k) c.args.y) c.start_of-start.result c.args.count c.args.x c.args.y k stand (altered k less) less

pub returns-clause-others : goal.returns-clause-others
returns-clause-others g c z w beside =
    let stand = simp (to_z-of_z, c.ranges.x, c.ranges.y) at c.start_of-start.ensures.stand in
    stays_beside (c.args.frame ∷ []) c.args.cells.now c.alter_part.new.cells c.start_of-start.result c.args.count c.args.x c.args.y z w stand c.alter_part.ensures.part.others beside
