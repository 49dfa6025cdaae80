-- Row by row.
use Rattle.std.proofs.Common.{rules, SFits, w16, w32, refl, ap, ◌≡◌, ◌∙◌, ℤ, pos, to_z, ◌+ℤ◌, arith}
use Rattle.std.proofs.lemmas.Int.{to_z-of_z, ints}
use Rattle.be_region.specs.Regions.{region_has}
use Rattle.be_span.proofs.GridLemmas.{has_from}
use Rattle.be_desk.specs.Renewals.{exposed_by}
use Rattle.be_desk.proofs.RuleLemmas.{above_none, above_more, above_all, fewer_left}
use Rattle.be_desk.proofs.exposing.expose_rect.Goals as goal

pub rows-init : goal.rows-init
rows-init c =
    let ft : SFits w32 c.args.rect.top = search rules in
    let gt : SFits w16 c.args.rect.top = search rules in
    let top : c.from-y.result ≡ c.args.rect.top = simp to_z-of_z at c.from-y.ensures in
    let some = c.requires.some.down in
    rw top (simp to_z-of_z record { from = omega (arith, ints); to = omega (arith, ints); region = refl; cells = above_none (exposed_by c.args.renewal.now) c.args.spans.now c.args.rect })

pub expose_row-requires-clause-inside : goal.expose_row-requires-clause-inside
expose_row-requires-clause-inside c =
    let ft : SFits w32 c.args.rect.top = search rules in
    let gt : SFits w16 c.args.rect.top = search rules in
    let fl : SFits w32 c.args.rect.left = search rules in
    let gl : SFits w16 c.args.rect.left = search rules in
    let fr : SFits w32 c.args.rect.right = search rules in
    let gr : SFits w16 c.args.rect.right = search rules in
    let fb : SFits w32 c.args.rect.bottom = search rules in
    let gb : SFits w16 c.args.rect.bottom = search rules in
    let br : SFits w32 c.from-bottom.result = search rules in
    let bottom = simp to_z-of_z at c.from-bottom.ensures in
    let lr : SFits w32 c.from-left.result = search rules in
    let left = simp to_z-of_z at c.from-left.ensures in
    let rr : SFits w32 c.from-right.result = search rules in
    let right = simp to_z-of_z at c.from-right.ensures in
    let test = simp to_z-of_z at c.rows-test.true in
    let from = c.rows.invariant.from in
    let y : ℤ = to_z w32 c.rows.y-bits in
    rw (left, right) (simp to_z-of_z (λ x before to. ap (λ rs. region_has rs x y) c.rows.invariant.region ∙ c.requires.inside x y (has_from c.args.rect x y record { left = before; right = to; top = from; bottom = omega (arith, ints) })))

pub rows-preserved : goal.rows-preserved
rows-preserved c =
    let ft : SFits w32 c.args.rect.top = search rules in
    let gt : SFits w16 c.args.rect.top = search rules in
    let fl : SFits w32 c.args.rect.left = search rules in
    let gl : SFits w16 c.args.rect.left = search rules in
    let fr : SFits w32 c.args.rect.right = search rules in
    let gr : SFits w16 c.args.rect.right = search rules in
    let fb : SFits w32 c.args.rect.bottom = search rules in
    let gb : SFits w16 c.args.rect.bottom = search rules in
    let br : SFits w32 c.from-bottom.result = search rules in
    let bottom = simp to_z-of_z at c.from-bottom.ensures in
    let lr : SFits w32 c.from-left.result = search rules in
    let left = simp to_z-of_z at c.from-left.ensures in
    let rr : SFits w32 c.from-right.result = search rules in
    let right = simp to_z-of_z at c.from-right.ensures in
    let test = simp to_z-of_z at c.rows-test.true in
    let from = c.rows.invariant.from in
    let y : ℤ = to_z w32 c.rows.y-bits in
    let next : SFits w32 (to_z w32 c.rows.y-bits +ℤ pos 1) = search rules in
    let row = simp to_z-of_z at (rw (left, right) at c.expose_row.ensures.cells) in
    simp to_z-of_z record {
      from = omega (arith, ints);
      to = omega (arith, ints);
      region = c.expose_row.ensures.region ∙ c.rows.invariant.region;
      cells = above_more (exposed_by c.args.renewal.now) c.args.spans.now c.rows.spans c.expose_row.new.spans c.args.rect y from c.rows.invariant.cells row;
    }

pub returns-clause-cells : goal.returns-clause-cells
returns-clause-cells c x z =
    let fb : SFits w32 c.args.rect.bottom = search rules in
    let gb : SFits w16 c.args.rect.bottom = search rules in
    let br : SFits w32 c.from-bottom.result = search rules in
    let bottom = simp to_z-of_z at c.from-bottom.ensures in
    let test = simp to_z-of_z at c.rows-test.false in
    let to = c.rows.invariant.to in
    let y : ℤ = to_z w32 c.rows.y-bits in
    above_all (exposed_by c.args.renewal.now) c.args.spans.now c.rows.spans c.args.rect y x z (omega (arith, ints)) c.rows.invariant.cells

pub rows-smaller : goal.rows-smaller
rows-smaller c =
    let fb : SFits w32 c.args.rect.bottom = search rules in
    let gb : SFits w16 c.args.rect.bottom = search rules in
    let br : SFits w32 c.from-bottom.result = search rules in
    let bottom = simp to_z-of_z at c.from-bottom.ensures in
    let test = simp to_z-of_z at c.rows-test.true in
    let y : ℤ = to_z w32 c.rows.y-bits in
    let next : SFits w32 (to_z w32 c.rows.y-bits +ℤ pos 1) = search rules in
    simp to_z-of_z (fewer_left y (y +ℤ pos 1) (omega (arith, ints)) (omega (arith, ints)))
