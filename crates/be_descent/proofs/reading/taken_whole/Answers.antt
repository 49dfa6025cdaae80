use Rattle.std.proofs.Common.{◌≡◌, ◌-◌, ◌-ℤ◌, ℤ, true, not, List, refl, sym, ap, ap₂, subst, ◌∙◌}
use Rattle.std.proofs.Common.{◌&&◌}
use Rattle.std.proofs.lemmas.Option.{get_or_from_slice_get}
use Rattle.be_facts.proofs.Truths.{and_false_second, and_second}
use Rattle.be_geom.specs.declared.rect.Rect.{Rect}
use Rattle.be_geom.specs.Rects.{rect_has}
use Rattle.be_geom.proofs.SameRects.{rect_same}
use Rattle.be_span.proofs.LaidLemmas.{rect_inside}
use Rattle.be_descent.specs.Pieces.{has_shown}
use Rattle.be_descent.specs.Places.{has_moved, lies_at, IsNext}
use Rattle.be_descent.proofs.reading.taken_whole.Goals as goal

pub returns : goal.returns
returns c =
    let rs = c.args.spans.now.rects in
    let source = c.args.source.now in
    let way = source.way in
    let area = c.args.area in
    let shown = c.in_ok-shown.shown in
    let found = c.in_ok-found.found in
    let d = c.span-span.result.rect in
    let next = subst (λ (rs : List Rect). IsNext rs 0 way area found) c.region.ensures.region
    c.in_ok-found.ensures.some in
    let part = rect_same c.in_ok-part_in.field-0 area c.ne.result c.ne.ensures c.if-ne.false in
    let whole = rect_same found.part area c.ne-2.result c.ne-2.ensures c.if-ne-2.false in
    let in_span : (x y : ℤ) → rect_has area x y ≡ true → has_moved d way x y ≡ true = λ x y has.
    ap (λ r. has_moved r way x y) (sym (get_or_from_slice_get rs (found.after - 1) d d
    c.span-span.ensures.rect)) ∙ next.one d x y (ap (λ r. rect_has r x y) whole ∙ has) in
    record {
      spans = refl;
      way = refl;
      known = λ x y has. ap (λ r. has_moved r way x y) c.rect.ensures ∙ in_span x y has;
      read = λ x y has.
          let u : ℤ = x -ℤ way.right in
          let v : ℤ = y -ℤ way.down in
          ap₂ (λ a b. a && not b)
          (ap (λ o. has_shown o u v) c.in_ok-shown.was
          ∙ and_second (rect_has area x y) (has_moved shown way x y)
          (sym (c.in_ok-part_in.ensures.some.both x y) ∙ ap (λ r. rect_has r x y) part ∙ has))
          (and_false_second (rect_has area x y) (lies_at source.frames.now way x y)
          (c.are_apart.ensures c.if-not-are_apart.false x y) has);
      owned = λ x y has. rect_inside rs (found.after - 1) d (x -ℤ way.right) (y -ℤ way.down)
          c.span-span.ensures.rect (in_span x y has);
      whole = c.region.ensures.whole;
    }
