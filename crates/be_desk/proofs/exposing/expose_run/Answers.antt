-- Side by side, in one colour.
use Rattle.std.specs.Prelude.{unsigned_abs}
use Rattle.std.proofs.Common.{rules, SFits, w32, sym, subst, Option, Some, pos, ◌+ℤ◌, ◌-ℤ◌, arith}
use Rattle.std.proofs.lemmas.Int.{to_z-of_z, ints}
use Rattle.be_color.specs.declared.colors.Color.{Color}
use Rattle.be_span.specs.Cells.{exposed_as}
use Rattle.be_desk.specs.Exposing.{IsRuledRow}
use Rattle.be_desk.proofs.RuleLemmas.{count_is, ruled_run}
use Rattle.be_desk.proofs.exposing.expose_run.Goals as goal

pub expose_row-requires : goal.expose_row-requires
expose_row-requires c =
    let l = c.ranges.last in
    let x = c.ranges.x in
    let y = c.ranges.y in
    let low = c.requires.left in
    let ahead = c.requires.forward in
    let high = c.requires.right in
    let wide : SFits w32 (c.args.last -ℤ c.args.x) = search rules in
    let wider : SFits w32 (c.args.last -ℤ c.args.x +ℤ pos 1) = search rules in
    let count = count_is c.args.x c.args.last c.requires.forward in
    simp to_z-of_z (λ k less. c.requires.inside (c.args.x +ℤ pos k) (omega (arith, ints)) (omega (arith, ints)))

pub returns-clause-cells : goal.returns-clause-cells
returns-clause-cells c =
    let l = c.ranges.last in
    let x = c.ranges.x in
    let y = c.ranges.y in
    let low = c.requires.left in
    let ahead = c.requires.forward in
    let high = c.requires.right in
    let wide : SFits w32 (c.args.last -ℤ c.args.x) = search rules in
    let wider : SFits w32 (c.args.last -ℤ c.args.x +ℤ pos 1) = search rules in
    let count = count_is c.args.x c.args.last c.requires.forward in
    let exposed = simp to_z-of_z at c.expose_row.ensures.exposed in
    let others = simp to_z-of_z at c.expose_row.ensures.others in
    subst (λ (o : Option Color). IsRuledRow (λ z w. exposed_as o) c.args.spans.now c.expose_row.new.self c.args.x c.args.y (c.args.last +ℤ pos 1)) (sym c.in-Some.is)
    (ruled_run (exposed_as (Some c.in-Some.color)) c.args.spans.now c.expose_row.new.self c.args.x c.args.y c.args.last (unsigned_abs (c.args.last -ℤ c.args.x +ℤ pos 1)) count exposed others)
