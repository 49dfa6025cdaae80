-- The run of the region, up to the end.
use Rattle.std.proofs.Common.{rules, SFits, w32, arith}
use Rattle.std.proofs.lemmas.Int.{to_z-of_z, ints, clamps}
use Rattle.be_region.specs.Regions.{region_has}
use Rattle.be_desk.proofs.StretchLemmas.{cut_run}
use Rattle.be_desk.proofs.renewal.Renewal.owned_run.Goals as goal

pub returns-clause-run : goal.returns-clause-run
returns-clause-run c =
    let x = c.ranges.x in
    let y = c.ranges.y in
    let end = c.ranges.end in
    let l : SFits w32 c.run_at-owned.result.1 = search rules in
    let m : SFits w32 c.min.result = search rules in
    let run = rw c.region.ensures.region at (simp to_z-of_z at c.run_at-owned.ensures.run) in
    let ahead = run.forward in
    let most = c.requires in
    let value = simp to_z-of_z at c.min.ensures.value in
    simp to_z-of_z (cut_run (λ z. region_has c.args.self.now.pane.now.spans.rects z c.args.y) c.args.x c.args.end c.run_at-owned.result.1 c.min.result run (omega (arith, ints, clamps)) (omega (arith, ints, clamps)) (omega (arith, ints, clamps)))
