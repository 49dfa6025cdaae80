-- Masks of 64 columns of a text.
use Rattle.std.specs.Prelude.{nat_lt, slice_index}
use Rattle.std.proofs.Common.{◌≡◌, ℕ, ◌<◌, ◌≤◌, ℤ, pos, negsuc, ◌+ℤ◌, ◌-ℤ◌, ◌≤ℤ◌, ◌<ℤ◌, Bool, true, false, ◌&&◌}
use Rattle.std.proofs.Common.{List, ◌⊎◌, inl, inr, sym, ap, ap₂, ◌∙◌, ⊎_elim, arith}
use Rattle.std.proofs.lemmas.Bool.{cases_lt, le-ltb, lt-ltb, true≢false}
use Rattle.std.proofs.lemmas.Int.{ints, by_lt_z}
use Rattle.be_facts.proofs.Truths.{and_false}
use Rattle.be_descent.specs.declared.way.Way.{Way}
use Rattle.be_descent.specs.Inks.{masks_bit, masks_have}
use Rattle.be_geom.specs.declared.point.Point.{Point}
use Rattle.be_geom.specs.Points.{between}
use Rattle.be_geom.proofs.Between.{is_above, is_below, is_between}
use Rattle.be_span.specs.Slices.{mask_bit}
use Rattle.be_span.proofs.MaskLemmas.{mask_past}
use Rattle.be_paint.specs.Inks.{text_has}
use Rattle.be_paint.specs.Laying.{AreMasksOf}
use Rattle.be_paint.proofs.GlyphLemmas.{row_above, row_below, text_behind, text_none}

-- outside of the rows of the glyphs no bit is set
no_row : (codes : List ℕ) (px py p q : ℤ) (b : Bool)
    → ((q -ℤ py +ℤ pos 6) <ℤ pos 0) → (b && text_has codes px py p q) ≡ false
no_row codes px py p q b above =
    ap (λ c. b && c) (text_none codes px py p q (row_above (q -ℤ py +ℤ pos 6) above)) ∙ and_false b

no_row_below : (codes : List ℕ) (px py p q : ℤ) (b : Bool)
    → pos 7 ≤ℤ (q -ℤ py +ℤ pos 6) → (b && text_has codes px py p q) ≡ false
no_row_below codes px py p q b below =
    ap (λ c. b && c) (text_none codes px py p q (row_below (q -ℤ py +ℤ pos 6) below)) ∙ and_false b

-- a bit of the masks, by column and row from their first one
bit_is : (codes masks : List ℕ) (px py x z t p q : ℤ) → AreMasksOf codes px py x masks
    → p ≡ x +ℤ z → q ≡ py -ℤ pos 6 +ℤ t → masks_bit masks z t
    ≡ (between x p (x +ℤ pos 63) && text_has codes px py p q)
bit_is codes masks px py x (negsuc k) t p q of e f =
    sym (ap (λ b. b && text_has codes px py p q) (is_below x p (x +ℤ pos 63) (omega (arith, ints, e))))
bit_is codes masks px py x (pos k) (negsuc row) p q of e f =
    sym (no_row codes px py p q (between x p (x +ℤ pos 63)) (omega (arith, ints, f)))
bit_is codes masks px py x (pos k) (pos row) p q of e f =
    ⊎_elim (λ many. past many)
    (λ near. ⊎_elim (λ few. here near few) (λ low. ap (λ b. b && mask_bit (slice_index masks row) k)
    (le-ltb row 7 low)
    ∙ sym (no_row_below codes px py p q (between x p (x +ℤ pos 63)) (omega (arith, ints, f, low))))
    (cases_lt row 7)) (side (cases_lt k 64))
  where
    side : (k < 64) ⊎ (64 ≤ k) → (64 ≤ k) ⊎ (k < 64)
    side (inl near) = inr near
    side (inr many) = inl many

    past : 64 ≤ k → masks_bit masks (pos k) (pos row)
        ≡ (between x p (x +ℤ pos 63) && text_has codes px py p q)
    past many = ap (λ b. nat_lt row 7 && b) (mask_past (slice_index masks row) k many)
        ∙ and_false (nat_lt row 7)
        ∙ sym (ap (λ b. b && text_has codes px py p q)
        (is_above x p (x +ℤ pos 63) (omega (arith, ints, e, many))))

    here : k < 64 → row < 7 → masks_bit masks (pos k) (pos row)
        ≡ (between x p (x +ℤ pos 63) && text_has codes px py p q)
    here near few = ap (λ b. b && mask_bit (slice_index masks row) k) (lt-ltb row 7 few)
        ∙ of.each k row near few ∙ ap₂ (text_has codes px py) (sym e) (sym f)
        ∙ sym (ap (λ b. b && text_has codes px py p q)
        (is_between x p (x +ℤ pos 63) (omega (arith, ints, e)) (omega (arith, ints, e, near))))

-- the masks have those pixels of a text that are in their columns
pub masks_are : (codes masks : List ℕ) (pen : Point) (way at : Way) (x u v : ℤ)
    → AreMasksOf codes pen.x pen.y x masks → at.right ≡ way.right +ℤ x
    → at.down ≡ way.down +ℤ pen.y -ℤ pos 6 → masks_have masks at u v
    ≡ (between x (u -ℤ way.right) (x +ℤ pos 63)
    && text_has codes pen.x pen.y (u -ℤ way.right) (v -ℤ way.down))
masks_are codes masks pen way at x u v of across down =
    bit_is codes masks pen.x pen.y x (u -ℤ at.right) (v -ℤ at.down) (u -ℤ way.right)
    (v -ℤ way.down) of (omega (arith, ints, across)) (omega (arith, ints, down))

-- a text has no pixel left of its pen
pub text_from : (codes : List ℕ) (px py x y : ℤ) → px ≤ℤ pos 32767
    → text_has codes px py x y ≡ true → px ≤ℤ x
text_from codes px py x y most is =
    by_lt_z x px (λ h. absurd (true≢false (sym is ∙ text_behind codes px py x y h most)))
    (λ from. from)
