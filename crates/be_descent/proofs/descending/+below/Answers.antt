use Rattle.std.proofs.Common.{SFits, w16, List, sym, subst, rules, arith}
use Rattle.be_geom.specs.declared.rect.Rect.{Rect}
use Rattle.be_region.specs.Regions.{IsNotEmpty}
use Rattle.be_span.specs.Runs.{IsSpanOf}
use Rattle.be_descent.proofs.CutLemmas.{extent_small, first_inside, rest_all, second_inside}
use Rattle.be_descent.proofs.descending.+below.Goals as goal

pub below-requires-in-Two : goal.below-requires-in-Two
below-requires-in-Two g t c κs within =
    let halves = c.in-Two.ensures.halves in
    let out = c.in-Two.out in
    let l : SFits w16 out.left = search rules in
    let u : SFits w16 out.top = search rules in
    let r : SFits w16 out.right = search rules in
    let b : SFits w16 out.bottom = search rules in
    let small = extent_small out halves.first_some l u r b in
    let cases = c.in-Some.ensures.cases in
    let d = c.decreases in
    let inside = first_inside c.args.area out c.in-Two.inner c.args.span.rect halves
    c.requires.inside in
    let rest = rest_all IsNotEmpty c.in-Some.frame.now c.in-Some.rest.now c.args.frames.now cases.0
    c.requires.frames in
    (omega (arith, small, cases, d), ((λ a m. search rules), (c.requires.span, (inside, rest))))

pub below-requires-in-Two-2 : goal.below-requires-in-Two-2
below-requires-in-Two-2 g t c κs within =
    let halves = c.in-Two.ensures.halves in
    let less = halves.second_smaller in
    let d = c.decreases in
    let span = subst (λ (rs : List Rect). IsSpanOf rs c.args.span)
    (sym c.below-in-Two.ensures.region) c.requires.span in
    let inside = second_inside c.args.area c.in-Two.out c.in-Two.inner c.args.span.rect halves
    c.requires.inside in
    (omega (arith, less, d), ((λ a m. search rules), (span, (inside, c.requires.frames))))
