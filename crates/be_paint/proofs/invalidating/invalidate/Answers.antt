use Rattle.std.proofs.Common.{SFits, w32, refl, rules, sym, ap, subst, ◌∙◌}
use Rattle.std.proofs.lemmas.Bool.{true≢false}
use Rattle.be_facts.proofs.Truths.{and_false_second}
use Rattle.be_descent.specs.Places.{has_moved}
use Rattle.be_geom.specs.Rects.{rect_has}
use Rattle.be_region.specs.Frames.{IsFrame}
use Rattle.be_region.specs.Regions.{region_has}
use Rattle.be_paint.proofs.ExposingLemmas.{area_invalidated, none_invalidated}
use Rattle.be_paint.proofs.invalidating.invalidate.Goals as goal

pub returns-in_default-frame-clause-invalidated : goal.returns-in_default-frame-clause-invalidated
returns-in_default-frame-clause-invalidated c seen stands =
    let none = c.in_default-frame.ensures.none.0 refl in
    none_invalidated c.args.reach.now c.in-Some.site seen c.args.rect c.args.colors.now
    c.args.spans.now stands c.in-Some.ensures.some
    (λ x y has. absurd (true≢false (sym has ∙ ap (λ l. region_has l x y)
    (sym c.region.ensures.region) ∙ none x y)))

pub returns-in_default-part_in-clause-invalidated : goal.returns-in_default-part_in-clause-invalidated
returns-in_default-part_in-clause-invalidated c seen stands =
    let site = c.in-Some.site in
    let ox : SFits w32 c.in-Some.site.origin.right = search rules in
    let oy : SFits w32 c.in-Some.site.origin.down = search rules in
    let frame = c.in-Some-frame.frame in
    let whole : IsFrame frame c.args.spans.now.rects = subst (IsFrame frame)
    c.region.ensures.region c.in-Some-frame.ensures.some in
    let none = c.in_default-part_in.ensures.none in
    none_invalidated c.args.reach.now site seen c.args.rect c.args.colors.now c.args.spans.now
    stands c.in-Some.ensures.some
    (λ x y has. and_false_second (rect_has frame x y) (has_moved c.args.rect site.origin x y)
    (none x y) (whole.holds x y has))

pub returns-clause-invalidated : goal.returns-clause-invalidated
returns-clause-invalidated c seen stands =
    let site = c.in-Some.site in
    let ox : SFits w32 c.in-Some.site.origin.right = search rules in
    let oy : SFits w32 c.in-Some.site.origin.down = search rules in
    let frame = c.in-Some-frame.frame in
    let whole : IsFrame frame c.args.spans.now.rects = subst (IsFrame frame)
    c.region.ensures.region c.in-Some-frame.ensures.some in
    area_invalidated c.args.reach.now site seen c.args.rect frame c.in-Some-part_in.area
    c.args.colors.now c.args.spans.now c.expose_area.new.spans stands c.in-Some.ensures.some whole
    c.in-Some-part_in.ensures.some.both c.expose_area.ensures
