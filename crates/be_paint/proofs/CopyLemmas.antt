-- Pixels copied by halves, and each half by what was read for it.
use Rattle.std.specs.Prelude.{if◌then◌else◌}
use Rattle.std.specs.Option.{option_map}
use Rattle.std.proofs.Common.{◌≡◌, ◌≤◌, ◌*◌, ◌⊎◌, ℕ, ℤ, ◌<ℤ◌, Bool, true, false, ◌&&◌, ◌||◌}
use Rattle.std.proofs.Common.{Option, Some, None, inl, inr, refl, sym, ap, ◌∙◌, arith}
use Rattle.std.proofs.lemmas.Bool.{true≢false}
use Rattle.std.proofs.lemmas.Int.{ints, by_lt_z}
use Rattle.be_geom.specs.declared.rect.Rect.{Rect}
use Rattle.be_region.specs.Regions.{IsNotEmpty, region_has}
use Rattle.be_span.specs.declared.Cell.{Cell}
use Rattle.be_span.specs.Painting.{Rule, IsPainted}
use Rattle.be_span.specs.Spans.{Spans, area_of, cell_in, height_of, width_of}
use Rattle.be_paint.proofs.PaintLemmas.{has_region}

-- what is painted by a rule is painted by another one that says the same of the pixels of the region
pub repainted : (p q : Rule) (at due : ℤ → ℤ → Bool) (old new : Spans)
    → ((x y : ℤ) → region_has old.rects x y ≡ true → at x y ≡ due x y)
    → ((x y : ℤ) (c : Cell) → region_has old.rects x y ≡ true → at x y ≡ true
    → p x y c ≡ q x y c) → IsPainted p at old new → IsPainted q due old new
repainted p q at due old new test same done = record {
  region = done.region;
  cells = λ x y. done.cells x y
      ∙ agree (p x y) (q x y) (at x y) (due x y) (cell_in old x y)
      (λ c e. test x y (has_region old x y c e)) (λ c e. same x y c (has_region old x y c e));
}
  where
    agree : (f g : Cell → Cell) (a b : Bool) (o : Option Cell) → ((c : Cell) → o ≡ Some c → a ≡ b)
        → ((c : Cell) → o ≡ Some c → a ≡ true → f c ≡ g c)
        → (if a then option_map f o else o) ≡ (if b then option_map g o else o)
    agree f g true true None t h = refl
    agree f g true false None t h = refl
    agree f g false true None t h = refl
    agree f g false false None t h = refl
    agree f g true true (Some c) t h = ap Some (h c refl refl)
    agree f g true false (Some c) t h = absurd (true≢false (t c refl))
    agree f g false true (Some c) t h = absurd (true≢false (sym (t c refl)))
    agree f g false false (Some c) t h = refl

-- ---- halves

both_parts : (a b w : Bool) → ((a && w) || (b && w)) ≡ ((a || b) && w)
both_parts true b true = refl
both_parts true true false = refl
both_parts true false false = refl
both_parts false b w = refl

not_both : (a b w v : Bool) → (a && b) ≡ false → (a && w) ≡ true → (b && v) ≡ false
not_both true true w v apart h = absurd (true≢false apart)
not_both true false w v apart h = refl
not_both false b w v apart h = absurd (true≢false (sym h))

-- ---- a piece

-- ---- how large an area is

-- one that is neither high nor wide has one pixel
pub more_pixels : (r : Rect) → IsNotEmpty r → (area_of r ≤ 1024 → ⊥)
    → (r.top <ℤ r.bottom) ⊎ (r.left <ℤ r.right)
unfolding area_of
more_pixels r some large =
    by_lt_z r.top r.bottom inl
    (λ high. by_lt_z r.left r.right inr
    (λ wide. absurd (large (one (height_of r) (width_of r) (omega (arith, ints, high, some.down))
    (omega (arith, ints, wide, some.across))))))
  where
    one : (h w : ℕ) → h ≡ 1 → w ≡ 1 → h * w ≤ 1024
    one h w e f = rw (e, f) (omega arith)
