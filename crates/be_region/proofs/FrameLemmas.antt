-- The frame of one more rectangle.
use Rattle.std.proofs.Common.{◌≡◌, ℕ, ◌+◌, ◌<◌, ℤ, true, ◌⊎◌, inl, inr, List, [], ◌∷◌, ◌++◌, length, get_or, take, All, arith, sym, ◌∙◌}
use Rattle.std.specs.Int.{int_max, int_min}
use Rattle.std.proofs.lemmas.Int.{ints, clamps}
use Rattle.std.proofs.lemmas.Bool.{or_cases, or_left, or_right}
use Rattle.std.proofs.lemmas.List.{take_more}
use Rattle.be_facts.proofs.Truths.{with_or_false}
use Rattle.be_geom.specs.declared.rect.Rect.{Rect}
use Rattle.be_geom.specs.Rects.{rect_has}
use Rattle.be_geom.proofs.Between.{between_tells}
use Rattle.be_region.specs.Regions.{IsNotEmpty, region_has}
use Rattle.be_region.specs.Frames.{IsFrame, outer_rect}
use Rattle.be_region.proofs.CountLemmas.{has-append}

has_first : (r : Rect) (x y : ℤ) → rect_has r x y ≡ true → region_has (r ∷ []) x y ≡ true
has_first r x y h = sym (with_or_false (rect_has r x y)) ∙ h

pub frame_of_one : (r : Rect) → IsNotEmpty r → IsFrame r (r ∷ [])
frame_of_one r full = record {
  holds = λ x y h. with_or_false (rect_has r x y) ∙ h;
  left = (r.top, has_first r r.left r.top (grind (arith, ints, between_tells)));
  top = (r.left, has_first r r.left r.top (grind (arith, ints, between_tells)));
  right = (r.top, has_first r r.right r.top (grind (arith, ints, between_tells)));
  bottom = (r.left, has_first r r.left r.bottom (grind (arith, ints, between_tells)));
}

outer_has : (f r : Rect) (x y : ℤ) → (rect_has f x y ≡ true) ⊎ (rect_has r x y ≡ true) → rect_has (outer_rect f r) x y ≡ true
outer_has f r x y h = grind (arith, ints, clamps, between_tells)

min_cases : (a b : ℤ) → (int_min a b ≡ a) ⊎ (int_min a b ≡ b)
min_cases a b = grind (arith, ints, clamps)

max_cases : (a b : ℤ) → (int_max a b ≡ a) ⊎ (int_max a b ≡ b)
max_cases a b = grind (arith, ints, clamps)

or_tells : (rs : List Rect) (r : Rect) (x y : ℤ) → region_has (rs ++ r ∷ []) x y ≡ true → (region_has rs x y ≡ true) ⊎ (rect_has r x y ≡ true)
or_tells rs r x y h = elim (or_cases (region_has rs x y) (region_has (r ∷ []) x y) (sym (has-append rs (r ∷ []) x y) ∙ h)) [ inl k ↦ inl k | inr k ↦ inr (with_or_false (rect_has r x y) ∙ k) ]

has_old : (rs : List Rect) (r : Rect) (x y : ℤ) → region_has rs x y ≡ true → region_has (rs ++ r ∷ []) x y ≡ true
has_old rs r x y h = has-append rs (r ∷ []) x y ∙ or_left (region_has rs x y) (region_has (r ∷ []) x y) h

has_new : (rs : List Rect) (r : Rect) (x y : ℤ) → rect_has r x y ≡ true → region_has (rs ++ r ∷ []) x y ≡ true
has_new rs r x y h = has-append rs (r ∷ []) x y ∙ or_right (region_has rs x y) (region_has (r ∷ []) x y) (has_first r x y h)

-- a pixel on the outer one of two upright edges
on_column : (rs : List Rect) (r : Rect) (e a b y : ℤ) → (e ≡ a) ⊎ (e ≡ b) → (z : ℤ) × (region_has rs a z ≡ true) → rect_has r b y ≡ true → (z : ℤ) × (region_has (rs ++ r ∷ []) e z ≡ true)
on_column rs r e a b y (inl k) old new = (old.0, rw k (has_old rs r a old.0 old.1))
on_column rs r e a b y (inr k) old new = (y, rw k (has_new rs r b y new))

-- a pixel on the outer one of two level edges
on_row : (rs : List Rect) (r : Rect) (e a b x : ℤ) → (e ≡ a) ⊎ (e ≡ b) → (z : ℤ) × (region_has rs z a ≡ true) → rect_has r x b ≡ true → (z : ℤ) × (region_has (rs ++ r ∷ []) z e ≡ true)
on_row rs r e a b x (inl k) old new = (old.0, rw k (has_old rs r old.0 a old.1))
on_row rs r e a b x (inr k) old new = (x, rw k (has_new rs r x b new))

pub corners : (r : Rect) → IsNotEmpty r → (rect_has r r.left r.top ≡ true) × (rect_has r r.right r.bottom ≡ true)
corners r full = (grind (arith, ints, between_tells), grind (arith, ints, between_tells))

pub frame_more : (f : Rect) (rs : List Rect) (r : Rect) → IsNotEmpty r → IsFrame f rs → IsFrame (outer_rect f r) (rs ++ r ∷ [])
frame_more f rs r full frame =
    let c = corners r full in
    record {
      holds = λ x y h. outer_has f r x y (elim (or_tells rs r x y h) [ inl k ↦ inl (frame.holds x y k) | inr k ↦ inr k ]);
      left = on_column rs r _ f.left r.left r.top (min_cases f.left r.left) frame.left c.0;
      top = on_row rs r _ f.top r.top r.left (min_cases f.top r.top) frame.top c.0;
      right = on_column rs r _ f.right r.right r.bottom (max_cases f.right r.right) frame.right c.1;
      bottom = on_row rs r _ f.bottom r.bottom r.right (max_cases f.bottom r.bottom) frame.bottom c.1;
    }

-- a frame keeps its region where the list is the same
pub frame_step : (f g first : Rect) (others : List Rect) (i : ℕ) (d : Rect) → i < length others → All IsNotEmpty others → g ≡ outer_rect f (get_or others i d) → IsFrame f (first ∷ take i others) → IsFrame g (first ∷ take (i + 1) others)
frame_step f g first others i d h full e frame =
    rw (e, take_more others i d h) (frame_more f (first ∷ take i others) (get_or others i d) (full i d h) frame)
