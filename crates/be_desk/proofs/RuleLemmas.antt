-- Cells changed by a rule, run by run, row by row and rectangle by rectangle.
use Rattle.std.proofs.Common.{◌≡◌, ℕ, ◌+◌, ◌-◌, ◌<◌, ℤ, pos, ◌+ℤ◌, ◌-ℤ◌, ◌≤ℤ◌, ◌<ℤ◌, ◌⊎◌, inl, inr, cond, refl, sym, ap, ◌∙◌, subst, arith}
use borrow.Author.Differences.{up, down}
use Rattle.std.specs.Option.{option_map}
use Rattle.std.specs.Prelude.{unsigned_abs}
use Rattle.std.proofs.lemmas.Int.{ints, by_lt_z}
use Rattle.std.proofs.lemmas.Bool.{cond-true, cond-false}
use Rattle.be_facts.proofs.Truths.{true_or_false}
use Rattle.be_facts.proofs.Numbers.{unsigned_abs_is}
use Rattle.be_geom.specs.declared.rect.Rect.{Rect}
use Rattle.be_geom.specs.Rects.{rect_has}
use Rattle.be_geom.proofs.RectLemmas.{out_of}
use Rattle.be_span.specs.declared.Cell.{Cell}
use Rattle.be_span.specs.Runs.{IsBeside}
use Rattle.be_span.specs.Spans.{Spans, cell_in}
use Rattle.be_span.proofs.GridLemmas.{IsIn, in_from}
use Rattle.be_span.proofs.CellLemmas.{same_map}
use Rattle.be_span.specs.Painting.{Rule}
use Rattle.be_desk.specs.Exposing.{IsRuledRow, IsRuledAbove}

-- ---- what is left to do

-- how many columns or rows follow
abbrev pub columns_after : ℤ → ℕ
columns_after last = (2147483647 + down last) - up last

pub fewer_left : (last new : ℤ) → last <ℤ new → new ≤ℤ pos 2147483647 → columns_after new < columns_after last
fewer_left last new ahead range = omega (arith, ints)

-- ---- a run

pub count_is : (x last : ℤ) → x ≤ℤ last → pos (unsigned_abs (last -ℤ x +ℤ pos 1)) ≡ last -ℤ x +ℤ pos 1
count_is x last h = unsigned_abs_is (last -ℤ x +ℤ pos 1) (omega (arith, ints))

-- the same rule for each cell of a run, told column by column
pub ruled_run : (f : Cell → Cell) (old new : Spans) (x y last : ℤ) (n : ℕ) → pos n ≡ last -ℤ x +ℤ pos 1 → ((k : ℕ) → k < n → cell_in new (x +ℤ pos k) y ≡ option_map f (cell_in old (x +ℤ pos k) y)) → ((z w : ℤ) → IsBeside x y n z w → cell_in new z w ≡ cell_in old z w) → IsRuledRow (λ z w. f) old new x y (last +ℤ pos 1)
ruled_run f old new x y last n long inside beside = record {
  inside = λ z from to. at (unsigned_abs (z -ℤ x)) z (column z from) (omega (arith, ints));
  beside = λ z w h. beside z w (outside z w h);
}
  where
    column : (z : ℤ) → x ≤ℤ z → x +ℤ pos (unsigned_abs (z -ℤ x)) ≡ z
    column z from = let e = unsigned_abs_is (z -ℤ x) (omega (arith, ints)) in omega (arith, ints)

    at : (k : ℕ) (z : ℤ) → x +ℤ pos k ≡ z → z ≤ℤ last → cell_in new z y ≡ option_map f (cell_in old z y)
    at k z e to = let P : ℤ → Type 0 = λ a. cell_in new a y ≡ option_map f (cell_in old a y) in subst P e (inside k (omega (arith, ints)))

    outside : (z w : ℤ) → (w ≡ y → ⊥) ⊎ (z <ℤ x) ⊎ ((last +ℤ pos 1) ≤ℤ z) → IsBeside x y n z w
    outside z w (inl h) = inl h
    outside z w (inr (inl h)) = inr (inl h)
    outside z w (inr (inr h)) = inr (inr (omega (arith, ints)))

-- ---- a row

pub row_none : (rule : Rule) (old : Spans) (x y : ℤ) → IsRuledRow rule old old x y x
row_none rule old x y = record { inside = λ z from to. absurd (omega (arith, ints)); beside = λ z w h. refl }

-- some pixels more
pub row_more : (rule other : Rule) (old now new : Spans) (left x y end : ℤ) → left ≤ℤ x → x ≤ℤ end → IsRuledRow rule old now left y x → IsRuledRow other now new x y end → ((z : ℤ) (c : Cell) → x ≤ℤ z → z <ℤ end → other z y c ≡ rule z y c) → IsRuledRow rule old new left y end
row_more rule other old now new left x y end low ahead so_far more same = record {
  inside = λ z from to. by_lt_z z x
      (λ before. more.beside z y (inr (inl before)) ∙ so_far.inside z from before)
      (λ behind.
      more.inside z behind to
      ∙ ap (option_map (other z y)) (so_far.beside z y (inr (inr behind)))
      ∙ same_map (other z y) (rule z y) (λ c. same z c behind to) (cell_in old z y));
  beside = λ z w h. more.beside z w (second z w h) ∙ so_far.beside z w (first z w h);
}
  where
    second : (z w : ℤ) → (w ≡ y → ⊥) ⊎ (z <ℤ left) ⊎ (end ≤ℤ z) → (w ≡ y → ⊥) ⊎ (z <ℤ x) ⊎ (end ≤ℤ z)
    second z w (inl h) = inl h
    second z w (inr (inl h)) = inr (inl (omega (arith, ints)))
    second z w (inr (inr h)) = inr (inr h)

    first : (z w : ℤ) → (w ≡ y → ⊥) ⊎ (z <ℤ left) ⊎ (end ≤ℤ z) → (w ≡ y → ⊥) ⊎ (z <ℤ left) ⊎ (x ≤ℤ z)
    first z w (inl h) = inl h
    first z w (inr (inl h)) = inr (inl h)
    first z w (inr (inr h)) = inr (inr (omega (arith, ints)))

-- ---- a rectangle

pub above_none : (rule : Rule) (old : Spans) (r : Rect) → IsRuledAbove rule old old r r.top
above_none rule old r = record {
  inside = λ x y left right from to. absurd (omega (arith, ints));
  beside = λ x y h. refl;
}

-- one row more
pub above_more : (rule : Rule) (old now new : Spans) (r : Rect) (y : ℤ) → r.top ≤ℤ y → IsRuledAbove rule old now r y → IsRuledRow rule now new r.left y (r.right +ℤ pos 1) → IsRuledAbove rule old new r (y +ℤ pos 1)
above_more rule old now new r y low so_far row = record {
  inside = λ x w left right top bottom. by_lt_z w y
      (λ above. row.beside x w (inl (λ e. apart w above e)) ∙ so_far.inside x w left right top above)
      (λ here. in_row x w left right (same w here bottom));
  beside = λ x w h. row.beside x w (row_side x w h) ∙ so_far.beside x w (above_side x w h);
}
  where
    apart : (w : ℤ) → w <ℤ y → w ≡ y → ⊥
    apart w h e = omega (arith, ints)

    same : (w : ℤ) → y ≤ℤ w → w <ℤ (y +ℤ pos 1) → y ≡ w
    same w h k = omega (arith, ints)

    at_row : (x : ℤ) → r.left ≤ℤ x → x ≤ℤ r.right → cell_in new x y ≡ option_map (rule x y) (cell_in old x y)
    at_row x left right = row.inside x left (omega (arith, ints)) ∙ ap (option_map (rule x y)) (so_far.beside x y (inr (inr (inr (omega (arith, ints))))))

    in_row : (x w : ℤ) → r.left ≤ℤ x → x ≤ℤ r.right → y ≡ w → cell_in new x w ≡ option_map (rule x w) (cell_in old x w)
    in_row x w left right e = let P : ℤ → Type 0 = λ v. cell_in new x v ≡ option_map (rule x v) (cell_in old x v) in subst P e (at_row x left right)

    row_side : (x w : ℤ) → (x <ℤ r.left) ⊎ (r.right <ℤ x) ⊎ (w <ℤ r.top) ⊎ ((y +ℤ pos 1) ≤ℤ w) → (w ≡ y → ⊥) ⊎ (x <ℤ r.left) ⊎ ((r.right +ℤ pos 1) ≤ℤ x)
    row_side x w (inl h) = inr (inl h)
    row_side x w (inr (inl h)) = inr (inr (omega (arith, ints)))
    row_side x w (inr (inr (inl h))) = inl (λ e. omega (arith, ints))
    row_side x w (inr (inr (inr h))) = inl (λ e. omega (arith, ints))

    above_side : (x w : ℤ) → (x <ℤ r.left) ⊎ (r.right <ℤ x) ⊎ (w <ℤ r.top) ⊎ ((y +ℤ pos 1) ≤ℤ w) → (x <ℤ r.left) ⊎ (r.right <ℤ x) ⊎ (w <ℤ r.top) ⊎ (y ≤ℤ w)
    above_side x w (inl h) = inl h
    above_side x w (inr (inl h)) = inr (inl h)
    above_side x w (inr (inr (inl h))) = inr (inr (inl h))
    above_side x w (inr (inr (inr h))) = inr (inr (inr (omega (arith, ints))))

-- all rows
pub above_all : (rule : Rule) (old new : Spans) (r : Rect) (end x y : ℤ) → end ≡ r.bottom +ℤ pos 1 → IsRuledAbove rule old new r end → cell_in new x y ≡ cond (rect_has r x y) (option_map (rule x y) (cell_in old x y)) (cell_in old x y)
above_all rule old new r end x y last h =
    elim (true_or_false (rect_has r x y)) [
      | inl e ↦ inside (in_from r x y e) ∙ sym (cond-true (rect_has r x y) (option_map (rule x y) (cell_in old x y)) (cell_in old x y) e)
      | inr e ↦ h.beside x y (outside (out_of r x y e)) ∙ sym (cond-false (rect_has r x y) (option_map (rule x y) (cell_in old x y)) (cell_in old x y) e)
    ]
  where
    inside : IsIn r x y → cell_in new x y ≡ option_map (rule x y) (cell_in old x y)
    inside i = let low = i.bottom in h.inside x y i.left i.right i.top (omega (arith, ints))

    outside : (x <ℤ r.left) ⊎ (r.right <ℤ x) ⊎ (y <ℤ r.top) ⊎ ((r.bottom +ℤ pos 1) ≤ℤ y) → (x <ℤ r.left) ⊎ (r.right <ℤ x) ⊎ (y <ℤ r.top) ⊎ (end ≤ℤ y)
    outside (inl s) = inl s
    outside (inr (inl s)) = inr (inl s)
    outside (inr (inr (inl s))) = inr (inr (inl s))
    outside (inr (inr (inr s))) = inr (inr (inr (omega (arith, ints))))
