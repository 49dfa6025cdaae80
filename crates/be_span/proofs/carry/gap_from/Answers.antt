-- No pixel up to the end of the gap is in the region.
use Rattle.std.proofs.Common.{rules, SFits, w32, subst, List}
use Rattle.std.proofs.lemmas.Int.{to_z-of_z}
use Rattle.be_geom.specs.declared.rect.Rect.{Rect}
use Rattle.be_region.specs.Regions.{region_has}
use Rattle.be_region.specs.Runs.{IsRun}
use Rattle.be_span.proofs.LaidLemmas.{gap_none}
use Rattle.be_span.proofs.carry.gap_from.Goals as goal

pub returns-clause-none : goal.returns-clause-none
returns-clause-none c k less =
    let x : SFits w32 c.args.pixel.x = search rules in
    let y : SFits w32 c.args.pixel.y = search rules in
    let last : SFits w32 c.run_at-last.result.1 = search rules in
    let run = simp to_z-of_z at c.run_at-last.ensures.run in
    let long = simp to_z-of_z at c.columns.ensures.columns in
    let run' = subst (λ (l : List Rect). IsRun (λ z. region_has l z c.args.pixel.y) c.args.pixel.x c.run_at-last.result.1) c.region.ensures.region run in
    gap_none c.args.spans.now c.args.pixel.x c.args.pixel.y c.run_at-last.result.1 c.columns.result c.args.rest c.min.result k run' c.requires.outside long c.min.ensures less
