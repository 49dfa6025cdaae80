-- A row, from its left on.
use Rattle.std.proofs.Common.{arith, ap, ◌∙◌, refl, pos, ◌+ℤ◌, ◌+◌}
use Rattle.be_region.specs.Regions.{region_has}
use Rattle.be_span.proofs.LaidLemmas.{run_none, run_at, run_more, further}
use Rattle.be_span.proofs.carry.lay_row.Goals as goal

pub loop-done-init : goal.loop-done-init
loop-done-init c = record { within = omega arith; region = refl; cells = run_none _ _ _ _ }

pub lay_run-done-requires-clause-inside : goal.lay_run-done-requires-clause-inside
lay_run-done-requires-clause-inside c k less =
    ap (λ l. region_has l (c.ahead-in-loop-done.result.x +ℤ pos k) c.ahead-in-loop-done.result.y) c.loop-done.invariant.region
    ∙ ap (λ z. region_has c.args.to.now.rects (z +ℤ pos k) c.ahead-in-loop-done.result.y) c.ahead-in-loop-done.ensures.across
    ∙ ap (λ z. region_has c.args.to.now.rects z c.ahead-in-loop-done.result.y) (further c.args.target.x c.loop-done.done k)
    ∙ ap (region_has c.args.to.now.rects (c.args.target.x +ℤ pos (c.loop-done.done + k))) c.ahead-in-loop-done.ensures.down
    ∙ c.requires.inside (c.loop-done.done + k) (omega arith)

pub loop-done-preserved : goal.loop-done-preserved
loop-done-preserved c =
    let n = c.lay_run-done.result in
    let now = c.loop-done.to in
    let new = c.lay_run-done.new.to in
    let more = run_at c.args.from.now c.ahead.result.x c.ahead.result.y _ _ now new c.ahead-in-loop-done.result.x c.ahead-in-loop-done.result.y _ _ n c.ahead.ensures.across c.ahead.ensures.down c.ahead-in-loop-done.ensures.across c.ahead-in-loop-done.ensures.down c.lay_run-done.ensures.cells in
    let few = c.lay_run-done.ensures.within in
    record {
      within = omega arith;
      region = c.lay_run-done.ensures.region ∙ c.loop-done.invariant.region;
      cells = run_more c.args.from.now c.args.source.x c.args.source.y c.args.to.now now new c.args.target.x c.args.target.y c.loop-done.done n c.loop-done.invariant.cells more;
    }
