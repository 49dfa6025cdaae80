-- Lemmas on the pixels of a rectangle.
use Rattle.std.proofs.Common.{◌≡◌, ℤ, Bool, true, false, ◌⊎◌, inl, inr, ◌≤ℤ◌, ◌<ℤ◌, ◌&&◌, ◌↔◌, IsTrue, arith, refl, sym, pos, ◌+ℤ◌, ◌∙◌}
use Rattle.std.specs.Int.{int_max, int_min}
use Rattle.std.proofs.lemmas.Int.{ints, clamps, by_lt_z}
use Rattle.std.proofs.lemmas.Bool.{true≢false}
use Rattle.be_geom.specs.declared.rect.Rect.{Rect}
use Rattle.be_geom.specs.Rects.{rect_has, HasNoPixel, HasPixelsOfBoth}
use Rattle.be_geom.specs.Points.{between}
use Rattle.be_geom.proofs.Between.{between_tells, is_between}

pub four_tests : (a b c d : Bool) → ((a && b) && (c && d)) ≡ ((a && c) && (b && d))
four_tests true b true d = refl
four_tests true true false d = refl
four_tests true false false d = refl
four_tests false b c d = refl

-- a number between the inner ends is between both pairs
between_both : (a b c d z : ℤ) → between (int_max a b) z (int_min c d) ≡ (between a z c && between b z d)
between_both a b c d z = grind (arith, ints, clamps, between_tells)

-- what is known of two edges of which the second may be before the first
abbrev pub Edges : Bool → Rect → Type 0
Edges b r = ((b ≡ true) × ((r.right <ℤ r.left) ⊎ (r.bottom <ℤ r.top))) ⊎ ((b ≡ false) × (r.left ≤ℤ r.right) × (r.top ≤ℤ r.bottom))

pub reversed_edges : (r : Rect) → (r.right <ℤ r.left) ⊎ (r.bottom <ℤ r.top) → HasNoPixel r
reversed_edges r h x y = grind (arith, ints, between_tells)

pub corner_inside : (r : Rect) → r.left ≤ℤ r.right → r.top ≤ℤ r.bottom → rect_has r r.left r.top ≡ true
corner_inside r h k = grind (arith, ints, between_tells)

pub no_pixel_test : (b : Bool) (r : Rect) → Edges b r → IsTrue b ↔ HasNoPixel r
no_pixel_test b r (inl e) = (λ _. reversed_edges r e.1, λ _. e.0)
no_pixel_test b r (inr e) = (λ h. cc (h, e.0), λ h. cc (h r.left r.top, corner_inside r e.1 e.2))

-- the rectangle between the inner edges has the pixels of both
pub intersection_has : (r a b : Rect) → r.left ≡ int_max a.left b.left → r.top ≡ int_max a.top b.top → r.right ≡ int_min a.right b.right → r.bottom ≡ int_min a.bottom b.bottom → HasPixelsOfBoth r a b
intersection_has r a b l t g m x y =
    rw (l, t, g, m, between_both a.left b.left a.right b.right x, between_both a.top b.top a.bottom b.bottom y) (four_tests (between a.left x a.right) (between b.left x b.right) (between a.top y a.bottom) (between b.top y b.bottom))

-- four tests of which none fails
pub none_fails : (p q r s : Bool) → (p ≡ false → false ≡ true) → (q ≡ false → false ≡ true) → (r ≡ false → false ≡ true) → (s ≡ false → false ≡ true) → (p && q && r && s) ≡ false → false ≡ true
none_fails false q r s f g h k e = f refl
none_fails true false r s f g h k e = g refl
none_fails true true false s f g h k e = h refl
none_fails true true true false f g h k e = k refl
none_fails true true true true f g h k e = sym e

pub same_rects : (l l' t t' r r' b b' : ℤ) → l ≡ l' → t ≡ t' → r ≡ r' → b ≡ b' → ◌≡◌ {A = Rect} record { left = l; top = t; right = r; bottom = b } record { left = l'; top = t'; right = r'; bottom = b' }
same_rects l l' t t' r r' b b' e f g h = rw (e, f, g, h) refl

-- a pixel outside a rectangle lies on one of its sides
pub out_of : (r : Rect) (x y : ℤ) → rect_has r x y ≡ false → (x <ℤ r.left) ⊎ (r.right <ℤ x) ⊎ (y <ℤ r.top) ⊎ ((r.bottom +ℤ pos 1) ≤ℤ y)
out_of r x y e =
    by_lt_z x r.left inl (λ left. by_lt_z r.right x (λ h. inr (inl h)) (λ right. by_lt_z y r.top (λ h. inr (inr (inl h))) (λ top. by_lt_z r.bottom y (λ h. inr (inr (inr (omega (arith, ints))))) (λ bottom.
    let has : rect_has r x y ≡ true = rw (is_between r.left x r.right left right, is_between r.top y r.bottom top bottom) refl in
    absurd (true≢false (sym has ∙ e))))))
