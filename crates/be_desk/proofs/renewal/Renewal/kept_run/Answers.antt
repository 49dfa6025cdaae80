-- The run of a move.
use Rattle.std.proofs.Common.{rules, SFits, w32, subst, sym}
use Rattle.std.proofs.lemmas.Int.{to_z-of_z}
use Rattle.be_desk.specs.declared.renewal.Motion.{Motion}
use Rattle.be_geom.specs.Stretches.{IsStretch}
use Rattle.be_desk.specs.Renewals.{is_kept_by}
use Rattle.be_desk.proofs.renewal.Renewal.kept_run.Goals as goal

pub returns-in-Moving-clause-run : goal.returns-in-Moving-clause-run
returns-in-Moving-clause-run c =
    let x = c.ranges.x in
    let y = c.ranges.y in
    let end = c.ranges.end in
    let fx : SFits w32 c.in-Moving.dx = search rules in
    let fy : SFits w32 c.in-Moving.dy = search rules in
    let run = simp to_z-of_z at c.moved_run.ensures.run in
    subst (λ (m : Motion). IsStretch (λ z. is_kept_by m c.args.self.now z c.args.y) c.args.x c.args.end c.moved_run.result.1) (sym c.in-Moving.is) run
