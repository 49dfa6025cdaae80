-- The pixels that an area has in common with a rectangle, which lies so far right and so far down.
use Rattle.std.proofs.Common.{◌≡◌, ℤ, ◌+ℤ◌, ◌-ℤ◌, ◌≤ℤ◌, ◌<ℤ◌, Bool, true, false, ◌&&◌, inl, inr}
use Rattle.std.proofs.Common.{SFits, w16, arith, refl, sym, ap, ◌∙◌}
use Rattle.std.specs.Int.{int_max, int_min}
use Rattle.std.proofs.lemmas.Int.{ints, clamps}
use Rattle.be_geom.proofs.RectLemmas.{four_tests}
use Rattle.be_facts.proofs.Numbers.{fits_between}
use Rattle.be_geom.specs.declared.rect.Rect.{Rect}
use Rattle.be_geom.specs.Points.{between}
use Rattle.be_geom.proofs.Between.{between_tells, is_between, is_below, is_above}
use Rattle.be_descent.specs.declared.way.Way.{Way}
use Rattle.be_descent.specs.Places.{IsBeside, IsPartOf}

-- the coordinates from one edge to another are those that are in both
pub edges_both : (low high first last by least most z : ℤ) → least ≡ int_max low (first +ℤ by)
    → most ≡ int_min high (last +ℤ by) → between least z most
    ≡ (between low z high && between first (z -ℤ by) last)
edges_both low high first last by least most z e f =
    elim (between_tells low z high) [
      | inl i ↦
          let from = i.1 in
          let to = i.2 in
          elim (between_tells first (z -ℤ by) last) [
            | inl j ↦
                let start = j.1 in
                let end = j.2 in
                is_between least z most (omega (arith, ints, clamps)) (omega (arith, ints, clamps))
                ∙ sym (rw (i.0, j.0) refl)
            | inr j ↦
                elim j.1 [
                  | inl less ↦ is_below least z most (omega (arith, ints, clamps))
                      ∙ sym (rw (i.0, j.0) refl)
                  | inr more ↦ is_above least z most (omega (arith, ints, clamps))
                      ∙ sym (rw (i.0, j.0) refl)
                ]
          ]
      | inr i ↦
          elim i.1 [
            | inl less ↦ is_below least z most (omega (arith, ints, clamps))
                ∙ sym (rw i.0 refl)
            | inr more ↦ is_above least z most (omega (arith, ints, clamps))
                ∙ sym (rw i.0 refl)
          ]
    ]

-- no coordinate is between edges that aren't in order
none_between : (least most z : ℤ) → most <ℤ least → between least z most ≡ false
none_between least most z h =
    elim (between_tells least z most) [
      | inl i ↦ let from = i.1 in let to = i.2 in absurd (omega (arith, ints))
      | inr o ↦ o.0
    ]

pub edges_none : (low high first last by least most z : ℤ) → least ≡ int_max low (first +ℤ by)
    → most ≡ int_min high (last +ℤ by) → most <ℤ least
    → (between low z high && between first (z -ℤ by) last) ≡ false
edges_none low high first last by least most z e f h =
    sym (edges_both low high first last by least most z e f) ∙ none_between least most z h

pub first_fits : (low high first last by least most : ℤ) → SFits w16 low → SFits w16 high
    → least ≡ int_max low (first +ℤ by) → most ≡ int_min high (last +ℤ by) → least ≤ℤ most
    → SFits w16 least
first_fits low high first last by least most f g e k h =
    fits_between least low high f g (omega (arith, ints, clamps)) (omega (arith, ints, clamps))

pub last_fits : (low high first last by least most : ℤ) → SFits w16 low → SFits w16 high
    → least ≡ int_max low (first +ℤ by) → most ≡ int_min high (last +ℤ by) → least ≤ℤ most
    → SFits w16 most
last_fits low high first last by least most f g e k h =
    fits_between most low high f g (omega (arith, ints, clamps)) (omega (arith, ints, clamps))

-- ---- columns and rows together

and_none : (a b c d : Bool) → (b && d) ≡ false → ((a && b) && (c && d)) ≡ false
and_none true b true d h = h
and_none true true false d h = refl
and_none true false false d h = refl
and_none false b c d h = refl

and_first : (a b c d : Bool) → (a && c) ≡ false → ((a && b) && (c && d)) ≡ false
and_first a b c d h = four_tests a b c d ∙ ap (λ e. e && (b && d)) h

pub beside_down : (area r : Rect) (way : Way)
    → ((z : ℤ) → (between area.top z area.bottom && between r.top (z -ℤ way.down) r.bottom) ≡ false)
    → IsBeside area r way
beside_down area r way none x y =
    and_none (between area.left x area.right) (between area.top y area.bottom)
    (between r.left (x -ℤ way.right) r.right) (between r.top (y -ℤ way.down) r.bottom) (none y)

pub part_is : (part area r : Rect) (way : Way) → part.left ≤ℤ part.right → part.top ≤ℤ part.bottom
    → ((z : ℤ) → between part.left z part.right
    ≡ (between area.left z area.right && between r.left (z -ℤ way.right) r.right))
    → ((z : ℤ) → between part.top z part.bottom
    ≡ (between area.top z area.bottom && between r.top (z -ℤ way.down) r.bottom))
    → IsPartOf part area r way
part_is part area r way across down columns rows = record {
  some = record { across = across; down = down };
  both = λ x y. ap (λ b. b && between part.top y part.bottom) (columns x)
      ∙ ap (λ b. (between area.left x area.right && between r.left (x -ℤ way.right) r.right) && b)
      (rows y) ∙ four_tests (between area.left x area.right)
      (between r.left (x -ℤ way.right) r.right) (between area.top y area.bottom)
      (between r.top (y -ℤ way.down) r.bottom);
}
