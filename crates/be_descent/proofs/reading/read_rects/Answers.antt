use Rattle.std.proofs.Common.{◌-◌, ◌&&◌, true, ◌-ℤ◌, List, sym, ap, subst, ◌∙◌, arith}
use Rattle.std.proofs.lemmas.Option.{get_or_from_slice_get}
use Rattle.be_facts.proofs.Truths.{and_true}
use Rattle.be_geom.specs.declared.rect.Rect.{Rect}
use Rattle.be_geom.specs.Rects.{rect_has}
use Rattle.be_region.specs.Regions.{region_has}
use Rattle.be_span.specs.Painting.{Rule}
use Rattle.be_span.specs.Spans.{cell_in}
use Rattle.be_descent.specs.Pieces.{as_read}
use Rattle.be_descent.specs.Places.{has_moved, IsNext}
use Rattle.be_descent.proofs.PaintLemmas.{all_to, next_to, none_yet, same_painted}
use Rattle.be_descent.proofs.reading.read_rects.Goals as goal

pub loop-found-init : goal.loop-found-init
loop-found-init c = record {
  within = omega arith;
  done = none_yet (λ x y d. as_read (cell_in c.args.spans.now (x -ℤ c.args.way.right)
      (y -ℤ c.args.way.down))) c.args.spans.now.rects c.args.way c.args.part (λ x y. true)
      c.args.piece.now;
}

pub span-span-requires : goal.span-span-requires
span-span-requires c =
    let next = subst (λ (rs : List Rect). IsNext rs c.loop-found.place c.args.way c.args.part
    c.in-Some.found) c.region.ensures.region c.in-Some.ensures.some in
    let ahead = next.ahead in
    let there = next.there in
    omega arith

pub write-requires-clause-own : goal.write-requires-clause-own
write-requires-clause-own c x y has =
    ap (λ rs. region_has rs x y) c.loop-found.invariant.done.region
    ∙ c.requires.own x y (c.in-Some.ensures.some.inside x y has)

pub write-requires-clause-known : goal.write-requires-clause-known
write-requires-clause-known c x y has =
    let next = subst (λ (rs : List Rect). IsNext rs c.loop-found.place c.args.way c.args.part
    c.in-Some.found) c.region.ensures.region c.in-Some.ensures.some in
    let d = c.span-span.result.rect in
    ap (λ r. has_moved r c.args.way x y) (c.rect.ensures ∙ sym (get_or_from_slice_get c.args.spans.now.rects
    (c.in-Some.found.after - 1) d d c.span-span.ensures.rect)) ∙ next.one d x y has

pub loop-found-preserved : goal.loop-found-preserved
loop-found-preserved c =
    let rs = c.args.spans.now.rects in
    let next = subst (λ (rs : List Rect). IsNext rs c.loop-found.place c.args.way c.args.part
    c.in-Some.found) c.region.ensures.region c.in-Some.ensures.some in
    let rule : Rule = λ x y d. as_read (cell_in c.args.spans.now (x -ℤ c.args.way.right)
    (y -ℤ c.args.way.down)) in
    record {
      within = next.there;
      done = next_to rule rs c.loop-found.place c.args.way c.args.part c.in-Some.found
          (λ x y. true) c.args.piece.now c.loop-found.piece c.write.new.self next
          c.loop-found.invariant.done
          (same_painted rule (rect_has c.in-Some.found.part)
          (λ x y. rect_has c.in-Some.found.part x y && true) c.loop-found.piece c.write.new.self
          (λ x y. sym (and_true (rect_has c.in-Some.found.part x y))) c.write.ensures);
    }

pub returns : goal.returns
returns c =
    let rs = c.args.spans.now.rects in
    let rule : Rule = λ x y d. as_read (cell_in c.args.spans.now (x -ℤ c.args.way.right)
    (y -ℤ c.args.way.down)) in
    let none = rw c.region.ensures.region at c.in_default.ensures.none in
    all_to rule rs c.loop-found.place c.args.way c.args.part (λ x y. true) c.args.piece.now
    c.loop-found.piece none c.loop-found.invariant.done
