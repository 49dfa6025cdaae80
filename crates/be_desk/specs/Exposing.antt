-- Cells changed by a rule along rows and rectangles (this project's own).
use Rattle.std.specs.Prelude.{◌≡◌, ℤ, ◌≤ℤ◌, ◌<ℤ◌, ◌⊎◌}
use Rattle.std.specs.Option.{option_map}
use Rattle.be_geom.specs.declared.rect.Rect.{Rect}
use Rattle.be_span.specs.Spans.{Spans, cell_in}
use Rattle.be_span.specs.Painting.{Rule}

-- each pixel of row y from column x up to before column `end` has what the rule makes of its cell,
-- and all others stay
pub record IsRuledRow (rule : Rule) (old new : Spans) (x y end : ℤ) : Type 0 where
  pub inside : (z : ℤ) → x ≤ℤ z → z <ℤ end
      → cell_in new z y ≡ option_map (rule z y) (cell_in old z y)
  pub beside : (z w : ℤ) → (w ≡ y → ⊥) ⊎ (z <ℤ x) ⊎ (end ≤ℤ z) → cell_in new z w ≡ cell_in old z w

-- the same of each pixel of the rectangle above row `end`
pub record IsRuledAbove (rule : Rule) (old new : Spans) (r : Rect) (end : ℤ) : Type 0 where
  pub inside : (x y : ℤ) → r.left ≤ℤ x → x ≤ℤ r.right → r.top ≤ℤ y → y <ℤ end
      → cell_in new x y ≡ option_map (rule x y) (cell_in old x y)
  pub beside : (x y : ℤ) → (x <ℤ r.left) ⊎ (r.right <ℤ x) ⊎ (y <ℤ r.top) ⊎ (end ≤ℤ y)
      → cell_in new x y ≡ cell_in old x y
