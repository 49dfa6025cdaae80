-- Run by run.
use Rattle.std.proofs.Common.{rules, ◌≡◌, SFits, w32, to_z, sym, subst, ap, ◌∙◌, pos, ℤ, ◌+ℤ◌, ◌≤ℤ◌, ◌<ℤ◌, refl, arith}
use Rattle.std.proofs.lemmas.Int.{to_z-of_z, ints}
use Rattle.be_region.specs.Regions.{region_has}
use Rattle.be_span.specs.declared.Cell.{Cell}
use Rattle.be_span.specs.Cells.{exposed_as}
use Rattle.be_desk.specs.Exposing.{IsRuledRow}
use Rattle.be_desk.specs.Renewals.{exposed_by}
use Rattle.be_desk.proofs.RuleLemmas.{row_none, row_more, fewer_left}
use Rattle.be_desk.proofs.exposing.expose_row.Goals as goal

pub runs-init : goal.runs-init
runs-init c =
    let y = c.ranges.y in
    let left = c.ranges.left in
    let right = c.ranges.right in
    let forward = c.requires.forward in
    simp to_z-of_z record { from = omega (arith, ints); to = omega (arith, ints); region = refl; cells = row_none (exposed_by c.args.renewal.now) c.args.spans.now c.args.left c.args.y }

pub runs-preserved : goal.runs-preserved
runs-preserved c =
    let fy = c.ranges.y in
    let fl = c.ranges.left in
    let fr = c.ranges.right in
    let l : SFits w32 c.exposure_run-color.result.1 = search rules in
    let answer = simp to_z-of_z at c.exposure_run-color.ensures.answer in
    let run = simp to_z-of_z at c.exposure_run-color.ensures.run in
    let more = simp to_z-of_z at c.expose_run.ensures.cells in
    let x : ℤ = to_z w32 c.runs.x-bits in
    let y = c.args.y in
    let last = c.exposure_run-color.result.1 in
    let color = c.exposure_run-color.result.0 in
    let r = c.args.renewal.now in
    let forward = run.forward in
    let within = run.within in
    let low = c.requires.left in
    let high = c.requires.right in
    let from = simp to_z-of_z at c.runs.invariant.from in
    let next : SFits w32 (c.exposure_run-color.result.1 +ℤ pos 1) = search rules in
    let same : (z : ℤ) (c : Cell) → x ≤ℤ z → z <ℤ (last +ℤ pos 1) → exposed_as color c ≡ exposed_by r z y c = λ z d from to. ap (λ o. exposed_as o d) (answer ∙ sym (run.same z from (omega (arith, ints)))) in
    simp to_z-of_z record {
      from = omega (arith, ints);
      to = omega (arith, ints);
      region = c.expose_run.ensures.region ∙ c.runs.invariant.region;
      cells = row_more (exposed_by r) (λ z w. exposed_as color) c.args.spans.now c.runs.spans c.expose_run.new.spans c.args.left x y (last +ℤ pos 1) (omega (arith, ints)) (omega (arith, ints)) (simp to_z-of_z at c.runs.invariant.cells) more same;
    }

pub expose_run-requires-clause-inside : goal.expose_run-requires-clause-inside
expose_run-requires-clause-inside c =
    let fy = c.ranges.y in
    let fl = c.ranges.left in
    let fr = c.ranges.right in
    let l : SFits w32 c.exposure_run-color.result.1 = search rules in
    let run = simp to_z-of_z at c.exposure_run-color.ensures.run in
    let within = run.within in
    let low = c.requires.left in
    let high = c.requires.right in
    let from = simp to_z-of_z at c.runs.invariant.from in
    simp to_z-of_z (λ z before to. ap (λ rs. region_has rs z c.args.y) c.runs.invariant.region ∙ c.requires.inside z (omega (arith, ints)) (omega (arith, ints)))

pub runs-smaller : goal.runs-smaller
runs-smaller c =
    let fy = c.ranges.y in
    let fl = c.ranges.left in
    let fr = c.ranges.right in
    let l : SFits w32 c.exposure_run-color.result.1 = search rules in
    let run = simp to_z-of_z at c.exposure_run-color.ensures.run in
    let forward = run.forward in
    let within = run.within in
    let high = c.requires.right in
    let next : SFits w32 (c.exposure_run-color.result.1 +ℤ pos 1) = search rules in
    simp to_z-of_z (fewer_left (to_z w32 c.runs.x-bits) (c.exposure_run-color.result.1 +ℤ pos 1) (omega (arith, ints)) (omega (arith, ints)))

pub returns-clause-cells : goal.returns-clause-cells
returns-clause-cells c =
    let fy = c.ranges.y in
    let fl = c.ranges.left in
    let fr = c.ranges.right in
    let high = c.requires.right in
    let wider : SFits w32 (c.args.right +ℤ pos 1) = search rules in
    let x : ℤ = to_z w32 c.runs.x-bits in
    let test = simp to_z-of_z at c.runs-test.false in
    let to = simp to_z-of_z at c.runs.invariant.to in
    let end : x ≡ c.args.right +ℤ pos 1 = omega (arith, ints) in
    subst (λ (v : ℤ). IsRuledRow (exposed_by c.args.renewal.now) c.args.spans.now c.runs.spans c.args.left c.args.y v) end (simp to_z-of_z at c.runs.invariant.cells)
