-- From row to row.
use Rattle.std.proofs.Common.{refl, ◌∙◌, arith, rules, SFits, w32}
use Rattle.std.proofs.lemmas.Int.{to_z-of_z}
use Rattle.std.specs.Option.{option_map}
use Rattle.be_geom.specs.Rects.{rect_has}
use Rattle.be_span.specs.Painting.{changed}
use Rattle.be_span.specs.Spans.{block, cell_in}
use Rattle.be_span.proofs.BlockLemmas.{all_done, changed_here, in_row, none_done, row_done, row_is}
use Rattle.be_span.proofs.alter.alter_rows.Goals as goal

pub loop-row-init : goal.loop-row-init
loop-row-init g c = record { len = refl; counted = c.requires.counted; done = none_done _ _ _ }

pub alter_in-left-requires-clause-run : goal.alter_in-left-requires-clause-run
alter_in-left-requires-clause-run g c k less =
    let x : SFits w32 c.row_of-first.result.x = search rules in
    let y : SFits w32 c.row_of-first.result.y = search rules in
    simp to_z-of_z (c.requires.inside _ _ (in_row c.args.rect _ _ _ _ _ k c.requires.some c.row_of-first.ensures.across c.row_of-first.ensures.down c.width_of-width.ensures c.height_of-row-end.ensures c.loop-row-test.true less))

pub alter_in-left-requires-clause-known : goal.alter_in-left-requires-clause-known
alter_in-left-requires-clause-known g c k less =
    let x : SFits w32 c.row_of-first.result.x = search rules in
    let y : SFits w32 c.row_of-first.result.y = search rules in
    simp to_z-of_z (c.requires.known _ _ (in_row c.args.rect _ _ _ _ _ k c.requires.some c.row_of-first.ensures.across c.row_of-first.ensures.down c.width_of-width.ensures c.height_of-row-end.ensures c.loop-row-test.true less))

pub loop-row-preserved : goal.loop-row-preserved
loop-row-preserved g c =
    let x : SFits w32 c.row_of-first.result.x = search rules in
    let y : SFits w32 c.row_of-first.result.y = search rules in
    let here = row_is c.args.rect _ _ _ _ _ c.requires.some c.row_of-first.ensures.across c.row_of-first.ensures.down c.width_of-width.ensures c.height_of-row-end.ensures c.loop-row-test.true in
    let done = simp to_z-of_z at c.alter_in-left.ensures.altered in
    let others = simp to_z-of_z at c.alter_in-left.ensures.others in
    record {
      len = c.alter_in-left.ensures.len ∙ c.loop-row.invariant.len;
      counted = c.alter_in-left.ensures.counted;
      done = row_done (λ x y. option_map (changed (g.A.Alter.rule c.args.alter.now) (g.A.Alter.at c.args.alter.now) x y)) (block c.args.frame c.args.cells.now) (block c.args.frame c.loop-row.cells) (block c.args.frame c.alter_in-left.new.cells) c.args.rect _ _ _ _ _ here c.loop-row.invariant.done done others;
    }

pub returns-clause-painted : goal.returns-clause-painted
returns-clause-painted g c =
    let rule = g.A.Alter.rule c.args.alter.now in
    let at = g.A.Alter.at c.args.alter.now in
    let old = block c.args.frame c.args.cells.now in
    record {
      region = refl;
      cells = λ x y. all_done (λ x y. option_map (changed rule at x y)) old (block c.args.frame c.loop-row.cells) c.args.rect c.loop-row.row c.height_of-row-end.result c.requires.some c.height_of-row-end.ensures (omega arith) c.loop-row.invariant.done x y
          ∙ changed_here rule at x y (rect_has c.args.rect x y) (cell_in old x y);
    }
