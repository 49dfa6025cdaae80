use Rattle.std.proofs.Common.{length, sym, ap, ◌∙◌, subst}
use Rattle.be_said.specs.Begun.{seen_begun}
use Rattle.be_said.specs.Due.{IsDue}
use Rattle.be_said.specs.Fits.{IsRow}
use Rattle.be_said.specs.Said.{seen_said}
use Rattle.be_said.proofs.BitmapKept.{bitmap-open, one_row, row-as, row_width}
use Rattle.be_said.proofs.said.SoFar.add_row.Goals as goal

pub invariant_of-self : goal.invariant_of-self
invariant_of-self c =
    rw c.replace.ensures.after (bitmap-open _ _ _ _ _ _ c.self.invariant (ap seen_begun (sym c.replace.ensures.value ∙ c.in-Bitmap.is)))

pub with_colors-requires : goal.with_colors-requires
with_colors-requires c =
    let is = ap seen_begun (sym c.replace.ensures.value ∙ c.in-Bitmap.is) in
    let fits : IsRow (seen_begun c.self.inside.begun) (length c.args.row.items) = subst (λ s. IsRow s.begun (length c.args.row.items)) (sym c.self.view_is) c.requires in
    rw (c.replace.ensures.after, c.in_ok-append-in-Bitmap.ensures.items)
    (one_row (seen_said c.self.inside) _ _ _ _ _ _ c.self.invariant is (row_width _ _ _ _ _ _ fits is))

pub returns : goal.returns
returns c =
    let is = ap seen_begun (sym c.replace.ensures.value ∙ c.in-Bitmap.is) in
    rw (← c.self.view_is)
    (subst (λ due. IsDue due c.with_colors.result) (sym (row-as (seen_said c.self.inside) _ _ _ _ _ is)) (rw c.in_ok-append-in-Bitmap.ensures.items at c.with_colors.ensures))
