-- A line of rectangles side by side.
use Rattle.std.proofs.Common.{◌≡◌, ℤ, pos, ◌+ℤ◌, ◌≤ℤ◌, ◌<ℤ◌, false, List, [], ◌∷◌, arith, refl}
use Rattle.std.proofs.lemmas.Int.{ints}
use Rattle.std.proofs.lemmas.Bool.{or_from}
use Rattle.be_geom.specs.declared.rect.Rect.{Rect}
use Rattle.be_geom.specs.Points.{between}
use Rattle.be_geom.proofs.Between.{is_below}
use Rattle.be_region.specs.Rows.{line_has, IsLine, IsLineAfter, edge_of}

-- no column up to the one behind which a line begins
pub before_line : (low : ℤ) (rs : List Rect) → IsLineAfter low rs → (z : ℤ) → z ≤ℤ low → line_has rs z ≡ false
before_line low [] h z k = refl
before_line low (r ∷ rs) h z k =
    or_from (between r.left z r.right) (line_has rs z) (let before = h.0 in is_below r.left z r.right (omega (arith, ints))) (let before = h.0 in let full = h.1 in before_line (r.right +ℤ pos 1) rs h.2 z (omega (arith, ints)))

pub line_rest : (low : ℤ) (rs : List Rect) → IsLineAfter low rs → IsLine rs
line_rest low [] h = tt
line_rest low (r ∷ rs) h = (h.1, h.2)

-- no column before the first edge
pub before_first : (rs : List Rect) → IsLine rs → (z : ℤ) → z <ℤ edge_of false rs → line_has rs z ≡ false
before_first [] h z k = refl
before_first (r ∷ rs) h z k =
    let full = h.0 in
    or_from (between r.left z r.right) (line_has rs z) (is_below r.left z r.right k) (before_line (r.right +ℤ pos 1) rs h.1 z (omega (arith, ints)))

-- the first edge is behind the column behind which the line begins
pub edge_after : (low : ℤ) (rs : List Rect) → IsLineAfter low rs → low <ℤ pos 2147483647 → low <ℤ edge_of false rs
edge_after low [] h k = k
edge_after low (r ∷ rs) h k = h.0
