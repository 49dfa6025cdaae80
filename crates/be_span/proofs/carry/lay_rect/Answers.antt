-- Row by row.
use Rattle.std.proofs.Common.{refl, ap, ◌∙◌, arith, pos, ◌+ℤ◌, ◌-ℤ◌}
use Rattle.be_region.specs.Regions.{region_has}
use Rattle.be_span.specs.Spans.{cell_in, laid}
use Rattle.be_span.proofs.BlockLemmas.{all_done, in_row, none_done, row_done, row_is}
use Rattle.be_span.proofs.LaidLemmas.{laid_from}
use Rattle.be_span.proofs.carry.lay_rect.Goals as goal

pub loop-row-init : goal.loop-row-init
loop-row-init c = record { region = refl; done = none_done _ _ _ }

pub lay_row-requires-clause-inside : goal.lay_row-requires-clause-inside
lay_row-requires-clause-inside c k less =
    ap (λ l. region_has l (c.row_of-target.result.x +ℤ pos k) c.row_of-target.result.y) c.loop-row.invariant.region
    ∙ c.requires.inside _ _ (in_row c.args.rect _ _ _ _ _ k c.requires.some c.row_of-target.ensures.across c.row_of-target.ensures.down c.width_of-width.ensures c.height_of-height.ensures c.loop-row-test.true less)

pub loop-row-preserved : goal.loop-row-preserved
loop-row-preserved c =
    let here = row_is c.args.rect _ _ _ _ _ c.requires.some c.row_of-target.ensures.across c.row_of-target.ensures.down c.width_of-width.ensures c.height_of-height.ensures c.loop-row-test.true in
    let way = c.args.way in
    record {
      region = c.lay_row.ensures.region ∙ c.loop-row.invariant.region;
      done = row_done (λ x y. laid (cell_in c.args.from.now (x -ℤ way.x) (y -ℤ way.y))) c.args.to.now c.loop-row.to c.lay_row.new.to c.args.rect _ _ _ _ _ here c.loop-row.invariant.done
          (λ k less. c.lay_row.ensures.cells.inside k less ∙ laid_from c.args.from.now _ _ _ _ way.x way.y k _ c.moved_back.ensures.across c.moved_back.ensures.down)
          c.lay_row.ensures.cells.beside;
    }

pub returns-clause-cells : goal.returns-clause-cells
returns-clause-cells c =
    all_done (λ x y. laid (cell_in c.args.from.now (x -ℤ c.args.way.x) (y -ℤ c.args.way.y))) c.args.to.now c.loop-row.to c.args.rect c.loop-row.row c.height_of-height.result c.requires.some c.height_of-height.ensures (omega arith) c.loop-row.invariant.done
