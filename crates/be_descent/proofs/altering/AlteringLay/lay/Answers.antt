use Rattle.std.proofs.Common.{ℤ, Bool, ◌&&◌, ap, sym, ◌∙◌}
use Rattle.be_geom.specs.Rects.{rect_has}
use Rattle.be_descent.specs.Places.{has_moved}
use Rattle.be_descent.proofs.CutLemmas.{inside_of}
use Rattle.be_descent.proofs.PaintLemmas.{none_painted, same_painted}
use Rattle.be_facts.proofs.Truths.{and_first, and_second}
use Rattle.be_descent.proofs.RegionLemmas.{and_joined, none_more}
use Rattle.be_descent.proofs.SpanLemmas.{has_here, here}
use Rattle.be_descent.proofs.altering.AlteringLay.lay.Goals as goal

pub alter-requires-clause-inside : goal.alter-requires-clause-inside
alter-requires-clause-inside g c =
    let some = c.in-Some.ensures.some in
    inside_of c.in-Some.part c.args.area c.args.span.rect some.some
    (λ x y e. and_first (rect_has c.args.area x y) (has_moved c.args.self.now.area here x y)
    (sym (some.both x y) ∙ e)) c.requires.inside

pub alter-requires-clause-known : goal.alter-requires-clause-known
alter-requires-clause-known g c x y e =
    let some = c.in-Some.ensures.some in
    let s = c.args.self.now in
    s.known x y (sym (has_here s.area x y)
    ∙ and_second (rect_has c.args.area x y) (has_moved s.area here x y) (sym (some.both x y) ∙ e))

pub returns-in-Some : goal.returns-in-Some
returns-in-Some g c =
    let s = c.args.self.now in
    let area = c.args.area in
    let some = c.in-Some.ensures.some in
    let at : ℤ → ℤ → Bool = g.A.Alter.at s.alter.now in
    same_painted (g.A.Alter.rule s.alter.now) (λ x y. rect_has c.in-Some.part x y && at x y)
    (λ x y. rect_has area x y && (rect_has s.area x y && at x y)) c.args.spans.now
    c.alter.new.self
    (λ x y. ap (λ b. b && at x y) (some.both x y ∙ ap (λ b. rect_has area x y && b) (has_here s.area x y))
    ∙ and_joined (rect_has area x y) (rect_has s.area x y) (at x y)) c.alter.ensures

pub returns-in_default : goal.returns-in_default
returns-in_default g c =
    let s = c.args.self.now in
    let area = c.args.area in
    let at : ℤ → ℤ → Bool = g.A.Alter.at s.alter.now in
    none_painted (g.A.Alter.rule s.alter.now)
    (λ x y. rect_has area x y && (rect_has s.area x y && at x y)) c.args.spans.now
    (λ x y. none_more (rect_has area x y) (rect_has s.area x y) (at x y)
    (ap (λ b. rect_has area x y && b) (sym (has_here s.area x y)) ∙ c.in_default.ensures.none x y))
