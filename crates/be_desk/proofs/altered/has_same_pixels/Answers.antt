use Rattle.std.specs.Prelude.{slice_get}
use Rattle.std.proofs.Common.{arith, refl, sym, ap, ◌∙◌}
use Rattle.std.proofs.lemmas.Bool.{false≢true}
use Rattle.std.proofs.lemmas.Option.{same_Some}
use Rattle.be_region.proofs.LawLemmas.{same_bands}
use Rattle.be_desk.proofs.SameLemmas.{same_length, same_pixels}
use Rattle.be_desk.proofs.altered.has_same_pixels.Goals as goal

pub returns-then-count : goal.returns-then-count
returns-then-count c = (
  λ h. absurd (false≢true h),
  λ same. absurd (c.if-count.true (c.count.ensures.number ∙ same_length c.args.one.now c.args.other.now (same_bands c.args.one.now c.args.other.now c.count.ensures.bands c.count-2.ensures.bands same) ∙ sym c.count-2.ensures.number)),
)

pub returns-then-not-is_same : goal.returns-then-not-is_same
returns-then-not-is_same c = (
  λ h. absurd (false≢true h),
  λ same.
      let e = same_bands c.args.one.now c.args.other.now c.count.ensures.bands c.count-2.ensures.bands same in
      let rects = sym c.unwrap.ensures ∙ c.rect_at.ensures.at_place ∙ ap (λ (l : _). slice_get l c.loop-place.place) e ∙ sym c.rect_at-in-loop-place.ensures.at_place ∙ c.unwrap-in-loop-place.ensures in
      sym c.if-not-is_same.true ∙ c.is_same.ensures.1 (same_Some c.unwrap.result c.unwrap-in-loop-place.result rects),
)

pub returns : goal.returns
returns c = (
  λ _. same_pixels c.args.one.now c.args.other.now (sym c.count.ensures.number ∙ c.if-count.false ∙ c.count-2.ensures.number) (λ k within. c.loop-place.invariant k (omega arith)),
  λ same. refl,
)
