-- A region where it lies in the view.
use Rattle.std.proofs.Common.{◌≡◌, ℤ, ◌+ℤ◌, ◌-ℤ◌, ◌<ℤ◌, false, ◌⊎◌, List, map, Option, Some, None, FitsSigned, to_z, of_z, w32, refl, sym, subst, ap, ◌∙◌, arith}
use Rattle.std.proofs.lemmas.Int.{ints}
use Rattle.be_facts.proofs.Truths.{false_unless_so}
use Rattle.be_geom.specs.declared.rect.Rect.{Rect}
use Rattle.be_geom.specs.Rects.{rect_has, moved_rect}
use Rattle.be_geom.proofs.Between.{between_tells}
use Rattle.be_region.specs.Regions.{region_has, HasNone}
use Rattle.be_region.specs.Frames.{IsFrame}
use Rattle.be_region.proofs.MoveLemmas.{moved_region}
use Rattle.be_geom.specs.Places.{IsNear}
use Rattle.be_state.specs.Clips.{IsFramed}

-- a moved region is asked where it was
pub shown_has : (rs shown : List Rect) (dx dy x y : ℤ) → map (λ r. moved_rect r dx dy) rs ≡ shown → region_has shown x y ≡ region_has rs (x -ℤ dx) (y -ℤ dy)
shown_has rs shown dx dy x y e = ap (λ s. region_has s x y) (sym e) ∙ moved_region rs dx dy x y

pub framed_none : (rs : List Rect) (frame : Option Rect) → IsFramed rs frame → ((f : Rect) → frame ≡ Some f → ⊥) → HasNone rs
framed_none rs None h none = h
framed_none rs (Some f) h none = absurd (none f refl)

pub framed_some : (rs : List Rect) (frame : Option Rect) (f : Rect) → IsFramed rs frame → frame ≡ Some f → IsFrame f rs
framed_some rs frame f h e = let P : Option Rect → Type 0 = IsFramed rs in subst P e h

-- an empty region holds nothing wherever it lies
pub empty_none : (rs shown : List Rect) (dx dy x y : ℤ) → map (λ r. moved_rect r dx dy) rs ≡ shown → HasNone rs → region_has shown x y ≡ false
empty_none rs shown dx dy x y e none = shown_has rs shown dx dy x y e ∙ none (x -ℤ dx) (y -ℤ dy)

-- the pixel isn't in the moved rectangle
abbrev pub IsOutside : Rect → ℤ → ℤ → ℤ → ℤ → Type 0
IsOutside f dx dy x y =
    ((y <ℤ (f.top +ℤ dy)) ⊎ ((f.bottom +ℤ dy) <ℤ y)) ⊎ ((x <ℤ (f.left +ℤ dx)) ⊎ ((f.right +ℤ dx) <ℤ x))

frame_misses : (f : Rect) (dx dy x y : ℤ) → IsOutside f dx dy x y → rect_has f (x -ℤ dx) (y -ℤ dy) ≡ false
frame_misses f dx dy x y h = grind (arith, ints, between_tells)

-- outside its frame a region holds nothing
pub outside_none : (rs shown : List Rect) (f : Rect) (dx dy x y : ℤ) → map (λ r. moved_rect r dx dy) rs ≡ shown → IsFrame f rs → IsOutside f dx dy x y → region_has shown x y ≡ false
outside_none rs shown f dx dy x y e frame h =
    shown_has rs shown dx dy x y e ∙ false_unless_so (region_has rs (x -ℤ dx) (y -ℤ dy)) (rect_has f (x -ℤ dx) (y -ℤ dy)) (frame.holds (x -ℤ dx) (y -ℤ dy)) (frame_misses f dx dy x y h)

-- the same, where the place in the region is known
pub shown_at : (rs shown : List Rect) (dx dy x y column row : ℤ) → map (λ r. moved_rect r dx dy) rs ≡ shown → column ≡ x -ℤ dx → row ≡ y -ℤ dy → region_has rs column row ≡ region_has shown x y
shown_at rs shown dx dy x y column row e c d =
    ap (λ (w : ℤ). region_has rs w row) c ∙ ap (λ (w : ℤ). region_has rs (x -ℤ dx) w) d ∙ sym (shown_has rs shown dx dy x y e)

-- a difference in i32 that fits
pub difference_is : (z a b : ℤ) → z ≡ to_z w32 (of_z w32 a) -ℤ to_z w32 (of_z w32 b) → FitsSigned w32 z → FitsSigned w32 a → IsNear 17 b → to_z w32 (of_z w32 z) ≡ a -ℤ b
difference_is z a b e f g near = omega (arith, ints)
