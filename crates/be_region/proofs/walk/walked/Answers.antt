use Rattle.std.proofs.Common.{rules, ◌≡◌, ℤ, pos, ◌+ℤ◌, to_z, ◌++◌, length, take, drop, Vec, Global, SFits, w16, w32, ◌∙◌, arith}
use Rattle.std.proofs.lemmas.Int.{ints, to_z-of_z}
use Rattle.std.proofs.lemmas.Result.{IfOk-weaker}
use Rattle.be_geom.specs.declared.rect.Rect.{Rect}
use Rattle.be_region.specs.Regions.{region_has}
use Rattle.be_region.specs.Rules.{keeps}
use Rattle.be_region.specs.Bands.{AreBands}
use Rattle.be_region.specs.Spans.{kept_of, bands_of}
use Rattle.be_region.proofs.BandLemmas.{all_bands, first_stays, made_behind}
use Rattle.be_region.proofs.WalkLemmas.{rows_first, rows_next, rows_smaller, all_made}
use Rattle.be_region.proofs.walk.walked.Goals as goal

pub walk-init : goal.walk-init
walk-init c =
    let f : SFits w32 c.first_row.result = search rules in
    let g : SFits w32 c.first_row-2.result = search rules in
    let k : SFits w32 c.min-y.result = search rules in
    let value = simp to_z-of_z at c.min-y.ensures.value in
    let e = c.first_row.ensures in
    let e' = c.first_row-2.ensures in
    let p = c.new-one.ensures in
    let q = c.new-other.ensures in
    rw (p, q) (rows_first c.args.rule c.args.rects.items c.args.one.now c.args.other.now c.behind-bands.result _ c.first_row.result c.first_row-2.result (to_z-of_z w32 c.min-y.result k ∙ value) (rw p at e.from) (rw q at e'.from) (rw p at e.none) (rw q at e'.none) c.behind-bands.ensures.none c.behind-bands.ensures.bands c.behind-bands.ensures.kept e.low e'.low e.high)

pub add-requires-clause-above : goal.add-requires-clause-above
add-requires-clause-above c =
    let low = c.walk.invariant.low in
    let b = c.last_row_of_both-bottom.ensures in
    let down = b.low in
    let high = b.high in
    let f : SFits w16 (to_z w32 c.walk.y-bits) = search rules in
    rw (to_z-of_z w16 (to_z w32 c.walk.y-bits) f) c.walk.invariant.above

pub below-one-requires : goal.below-one-requires
below-one-requires c =
    let f : SFits w32 c.last_row_of_both-bottom.result = search rules in
    rw (to_z-of_z w32 c.last_row_of_both-bottom.result f) c.last_row_of_both-bottom.ensures.one_ends

pub below-other-requires : goal.below-other-requires
below-other-requires c =
    let f : SFits w32 c.last_row_of_both-bottom.result = search rules in
    rw (to_z-of_z w32 c.last_row_of_both-bottom.result f) c.last_row_of_both-bottom.ensures.other_ends

pub walk-smaller : goal.walk-smaller
walk-smaller c =
    let b = c.last_row_of_both-bottom.ensures in
    let low = c.walk.invariant.low in
    let down = b.low in
    let high = b.high in
    rows_smaller _ _ (omega (arith, ints)) (omega (arith, ints))

pub walk-preserved : goal.walk-preserved
walk-preserved c =
    let b = c.last_row_of_both-bottom.ensures in
    let h = c.walk.invariant in
    let low = h.low in
    let down = b.low in
    let high = b.high in
    let f : SFits w32 c.last_row_of_both-bottom.result = search rules in
    let g : SFits w16 c.last_row_of_both-bottom.result = search rules in
    let i : SFits w32 (c.last_row_of_both-bottom.result +ℤ pos 1) = search rules in
    let j : SFits w16 (to_z w32 c.walk.y-bits) = search rules in
    let above = simp to_z-of_z at c.in_ok-add.ensures.above in
    let pixels = simp to_z-of_z at c.in_ok-add.ensures.pixels in
    let p = simp to_z-of_z at c.below-one.ensures in
    let q = simp to_z-of_z at c.below-other.ensures in
    simp to_z-of_z (rows_next c.args.rule c.args.rects.items c.args.one.now c.args.other.now c.walk.bands c.add.new.self c.walk.one c.walk.other c.below-one.result c.below-other.result (to_z w32 c.walk.y-bits) c.last_row_of_both-bottom.result c.keep_columns.new.spans.items c.line.result.now c.line-in-walk.result.now h b.low b.high b.one_same b.other_same c.line.ensures.columns c.line-in-walk.ensures.columns c.in_ok-keep_columns.ensures.columns c.in_ok-add.ensures.bands c.in_ok-add.ensures.kept above pixels p.from q.from p.same q.same)

pub returns-clause-first : goal.returns-clause-first
returns-clause-first c =
    let b = c.walk.bands in
    IfOk-weaker c.finish.result (λ (v : Vec Rect Global). v.items ≡ kept_of b ++ bands_of b) (λ (v : Vec Rect Global). take (length c.args.rects.items) v.items ≡ c.args.rects.items) (λ v e. rw e (first_stays c.args.rects.items (kept_of b) (bands_of b) c.walk.invariant.stays)) c.finish.ensures

pub returns-clause-bands : goal.returns-clause-bands
returns-clause-bands c =
    let b = c.walk.bands in
    IfOk-weaker c.finish.result (λ (v : Vec Rect Global). v.items ≡ kept_of b ++ bands_of b) (λ (v : Vec Rect Global). AreBands (drop (length c.args.rects.items) v.items)) (λ v e. rw (e, made_behind c.args.rects.items (kept_of b) (bands_of b) c.walk.invariant.stays) (all_bands b c.walk.invariant.is_open)) c.finish.ensures

pub returns-clause-pixels : goal.returns-clause-pixels
returns-clause-pixels c =
    let b = c.walk.bands in
    let over = c.are_over.ensures.0 c.walk-test.false in
    let made = all_made c.args.rule c.args.rects.items c.args.one.now c.args.other.now b c.walk.one c.walk.other _ c.walk.invariant over.0 over.1 in
    IfOk-weaker c.finish.result (λ (v : Vec Rect Global). v.items ≡ kept_of b ++ bands_of b) (λ (v : Vec Rect Global). (x z : ℤ) → region_has (drop (length c.args.rects.items) v.items) x z ≡ keeps c.args.rule (region_has c.args.one.now x z) (region_has c.args.other.now x z)) (λ v e x z. rw (e, made_behind c.args.rects.items (kept_of b) (bands_of b) c.walk.invariant.stays) (made x z)) c.finish.ensures
