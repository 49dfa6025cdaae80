-- The run of the tree, on the screen.
use Rattle.std.proofs.Common.{◌≡◌, ◌-ℤ◌, rules, SFits, w16, w32}
use Rattle.std.proofs.lemmas.Int.{to_z-of_z}
use Rattle.be_geom.proofs.StretchLemmas.{less_fits}
use Rattle.be_views.specs.Pixels.{view_at}
use Rattle.be_desk.proofs.StretchLemmas.{moved_run}
use Rattle.be_desk.proofs.kept.view_run.Goals as goal

pub returns-clause-answer : goal.returns-clause-answer
returns-clause-answer c =
    let x = c.ranges.x in
    let y = c.ranges.y in
    let end = c.ranges.end in
    let wx : SFits w16 c.args.corner.x = search rules in
    let wy : SFits w16 c.args.corner.y = search rules in
    let vx : SFits w32 c.args.corner.x = search rules in
    let vy : SFits w32 c.args.corner.y = search rules in
    let fx = less_fits c.args.x c.args.corner.x (c.requires.left, search rules) wx in
    let fy = less_fits c.args.y c.args.corner.y c.requires.row wy in
    let left : c.from-left.result ≡ c.args.corner.x = simp to_z-of_z at c.from-left.ensures in
    let top : c.from-top.result ≡ c.args.corner.y = simp to_z-of_z at c.from-top.ensures in
    simp to_z-of_z at (rw (left, top) at c.run_at-view.ensures.answer)

pub returns-clause-run : goal.returns-clause-run
returns-clause-run c =
    let x = c.ranges.x in
    let y = c.ranges.y in
    let end = c.ranges.end in
    let wx : SFits w16 c.args.corner.x = search rules in
    let wy : SFits w16 c.args.corner.y = search rules in
    let vx : SFits w32 c.args.corner.x = search rules in
    let vy : SFits w32 c.args.corner.y = search rules in
    let fx = less_fits c.args.x c.args.corner.x (c.requires.left, search rules) wx in
    let fy = less_fits c.args.y c.args.corner.y c.requires.row wy in
    let left : c.from-left.result ≡ c.args.corner.x = simp to_z-of_z at c.from-left.ensures in
    let top : c.from-top.result ≡ c.args.corner.y = simp to_z-of_z at c.from-top.ensures in
    let l : SFits w32 c.run_at-view.result.1 = search rules in
    let r : SFits w32 c.last_column.result = search rules in
    let run = simp to_z-of_z at (rw (left, top) at c.run_at-view.ensures.run) in
    let within = simp to_z-of_z at c.last_column.ensures.within in
    let lasts = simp to_z-of_z at (rw left at c.last_column.ensures.lasts) in
    let one = simp to_z-of_z at (rw left at c.last_column.ensures.one) in
    simp to_z-of_z (moved_run (λ z. view_at c.args.tree.now z (c.args.y -ℤ c.args.corner.y)) c.args.x c.args.corner.x c.args.end c.run_at-view.result.1 c.last_column.result run (search rules) within lasts one)
