use Rattle.std.proofs.Common.{SFits, w32, rules}
use Rattle.std.proofs.lemmas.Int.{to_z-of_z}
use Rattle.be_shape.specs.Rows.{row_has}
use Rattle.be_shape.proofs.RasterLemmas.{next_run_of}
use Rattle.be_shape.proofs.Raster.next_run.Goals as goal

pub returns-clause-run : goal.returns-clause-run
returns-clause-run c =
    let f0 : SFits w32 c.in_ok-run.run'.first = search rules in
    let f1 : SFits w32 c.in_ok-run.run'.last = search rules in
    let f2 : SFits w32 c.args.from = c.ranges.from in
    let f3 : SFits w32 c.args.y = c.ranges.y in
    rw (to_z-of_z w32 c.in_ok-run.run'.first f0, to_z-of_z w32 c.in_ok-run.run'.last f1) (next_run_of c.args.self.now c.args.y c.args.from (row_has c.row.result) c.in_ok-run.run' (simp to_z-of_z at c.row.ensures.pixels) (simp to_z-of_z at c.in_ok-run.ensures.some))
