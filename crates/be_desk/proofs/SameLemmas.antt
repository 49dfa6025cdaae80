-- Lists of the same rectangles.
use Rattle.std.specs.Prelude.{slice_get}
use Rattle.std.proofs.Common.{◌≡◌, ℕ, suc, ◌<◌, List, [], ◌∷◌, length, refl, ap, arith}
use Rattle.be_geom.specs.declared.rect.Rect.{Rect}
use Rattle.be_region.specs.Regions.{region_has, SamePixels}

pub same_length : (a b : List Rect) → a ≡ b → length a ≡ length b
same_length a b e = ap (λ (l : List Rect). length l) e

heads : (r s : Rect) (a b : List Rect) → slice_get (r ∷ a) 0 ≡ slice_get (s ∷ b) 0 → r ≡ s
heads r s a b e = cc

joined : (r s : Rect) (a b : List Rect) → r ≡ s → a ≡ b → ◌≡◌ {A = List Rect} (r ∷ a) (s ∷ b)
joined r s a b e f = cc

-- which are as many, and each the other's at its place
same_lists : (a b : List Rect) → length a ≡ length b → ((k : ℕ) → k < length a → slice_get a k ≡ slice_get b k) → a ≡ b
same_lists [] [] many each = refl
same_lists [] (s ∷ b) many each = absurd (omega arith)
same_lists (r ∷ a) [] many each = absurd (omega arith)
same_lists (r ∷ a) (s ∷ b) many each =
    joined r s a b (heads r s a b (each 0 (omega arith))) (same_lists a b (omega arith) (λ k within. each (suc k) (omega arith)))

pub same_pixels : (a b : List Rect) → length a ≡ length b → ((k : ℕ) → k < length a → slice_get a k ≡ slice_get b k) → SamePixels a b
same_pixels a b many each x y = ap (λ (l : List Rect). region_has l x y) (same_lists a b many each)
