-- Rows of a bitmap, and what lies outside it.
use Rattle.std.proofs.Common.{◌≡◌, ℕ, ℤ, pos, negsuc, ◌+◌, ◌-◌, ◌*◌, ◌<◌, ◌≤◌, ◌<ℤ◌, None, take, drop, slice_get, refl, sym, ◌∙◌, ⊎_elim, arith, length-take}
use Rattle.std.proofs.Math.Bool.{and-false}
use Rattle.std.proofs.lemmas.Bool.{cases_lt, le-ltb, lt-ltb}
use Rattle.std.proofs.lemmas.Option.{slice_get_past}
use Rattle.std.proofs.lemmas.Int.{ints}
use Rattle.be_facts.proofs.Lists.{get_drop, get_take}
use Rattle.be_bitmap.specs.Pictures.{Picture, bitmap_pixel}

pub pixel_inside : (p : Picture) (column row : ℕ) → column < p.width → row < p.height → bitmap_pixel p (pos column) (pos row) ≡ slice_get p.colors (row * p.width + column)
unfolding bitmap_pixel
pixel_inside p column row in_row in_column = rw (lt-ltb column p.width in_row, lt-ltb row p.height in_column) refl

pub pixel_right : (p : Picture) (column row : ℕ) → p.width ≤ column → bitmap_pixel p (pos column) (pos row) ≡ None
unfolding bitmap_pixel
pixel_right p column row past = rw (le-ltb column p.width past) refl

pub pixel_below : (p : Picture) (column row : ℕ) → p.height ≤ row → bitmap_pixel p (pos column) (pos row) ≡ None
unfolding bitmap_pixel
pixel_below p column row past = rw (le-ltb row p.height past, and-false) refl

pub pixel_left : (p : Picture) (column : ℕ) (y : ℤ) → bitmap_pixel p (negsuc column) y ≡ None
unfolding bitmap_pixel
pixel_left p column y = refl

pub pixel_above : (p : Picture) (x : ℤ) (row : ℕ) → bitmap_pixel p x (negsuc row) ≡ None
unfolding bitmap_pixel
pixel_above p (pos column) row = refl
pixel_above p (negsuc column) row = refl

-- a part of the colours is a row from a column on
pub row_pixels : (p : Picture) (row column k : ℕ) → row < p.height → column < p.width →
    slice_get (take (row * p.width + p.width - (row * p.width + column)) (drop (row * p.width + column) p.colors)) k
    ≡ bitmap_pixel p (pos (column + k)) (pos row)
row_pixels p row column k in_column in_row =
    ⊎_elim
    (λ inside.
    get_take (row * p.width + p.width - (row * p.width + column)) (drop (row * p.width + column) p.colors) k (omega arith)
    ∙ get_drop (row * p.width + column) p.colors k (row * p.width + (column + k)) (omega arith)
    ∙ sym (pixel_inside p (column + k) row inside in_column))
    (λ (past : p.width ≤ column + k).
    slice_get_past (take (row * p.width + p.width - (row * p.width + column)) (drop (row * p.width + column) p.colors)) k
    (rw length-take (let short : row * p.width + p.width - (row * p.width + column) ≤ k = omega arith in omega arith))
    ∙ sym (pixel_right p (column + k) row past))
    (cases_lt (column + k) p.width)

-- left of the first column there is nothing
pub pixel_before : (p : Picture) (x y : ℤ) → x <ℤ pos 0 → bitmap_pixel p x y ≡ None
pixel_before p (pos column) y h = absurd (omega (arith, ints))
pixel_before p (negsuc column) y h = pixel_left p column y

-- nor above the first row
pub pixel_over : (p : Picture) (x y : ℤ) → y <ℤ pos 0 → bitmap_pixel p x y ≡ None
pixel_over p x (pos row) h = absurd (omega (arith, ints))
pixel_over p x (negsuc row) h = pixel_above p x row
