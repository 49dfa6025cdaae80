-- The run of the region, moved.
use Rattle.std.proofs.Common.{◌-ℤ◌, rules, SFits, w32}
use Rattle.std.proofs.lemmas.Int.{to_z-of_z}
use Rattle.be_region.specs.Regions.{region_has}
use Rattle.be_desk.proofs.StretchLemmas.{way_fits, moved_run}
use Rattle.be_desk.proofs.renewal.Renewal.moved_run.Goals as goal

pub returns-clause-answer : goal.returns-clause-answer
returns-clause-answer c =
    let x = c.ranges.x in
    let y = c.ranges.y in
    let dx = c.ranges.dx in
    let dy = c.ranges.dy in
    let fx = way_fits c.args.x c.args.dx (c.requires.left, search rules) c.requires.across in
    let fy = way_fits c.args.y c.args.dy c.requires.row c.requires.down in
    rw c.region.ensures.region at (simp to_z-of_z at c.run_at-owned.ensures.answer)

pub returns-clause-run : goal.returns-clause-run
returns-clause-run c =
    let x = c.ranges.x in
    let y = c.ranges.y in
    let end = c.ranges.end in
    let dx = c.ranges.dx in
    let dy = c.ranges.dy in
    let fx = way_fits c.args.x c.args.dx (c.requires.left, search rules) c.requires.across in
    let fy = way_fits c.args.y c.args.dy c.requires.row c.requires.down in
    let l : SFits w32 c.run_at-owned.result.1 = search rules in
    let r : SFits w32 c.last_column.result = search rules in
    let run = rw c.region.ensures.region at (simp to_z-of_z at c.run_at-owned.ensures.run) in
    let within = simp to_z-of_z at c.last_column.ensures.within in
    let lasts = simp to_z-of_z at c.last_column.ensures.lasts in
    let one = simp to_z-of_z at c.last_column.ensures.one in
    simp to_z-of_z (moved_run (λ z. region_has c.args.self.now.pane.now.spans.rects z (c.args.y -ℤ c.args.dy)) c.args.x c.args.dx c.args.end c.run_at-owned.result.1 c.last_column.result run (search rules) within lasts one)
