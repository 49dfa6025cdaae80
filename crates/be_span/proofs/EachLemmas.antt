-- Cells that a rule makes, one after another.
use Rattle.std.proofs.Common.{◌≡◌, ℕ, zero, suc, ◌+◌, List, [], ◌∷◌, Some, refl, sym, ap, ◌∙◌, ◌*◌}
use Rattle.std.proofs.Common.{arith, ◌<◌, Bool, true, false, None, length}
use Rattle.std.specs.Prelude.{slice_get, option_map, ℤ, pos, ◌/◌, ◌%◌, nat_lt, if◌then◌else◌}
use Rattle.std.specs.Prelude.{negsuc}
use Rattle.std.proofs.lemmas.Bool.Decides.{nat_tests}
use Rattle.std.proofs.Math.Arith.{digits_mod, digits_div}
use Rattle.be_span.specs.Screen.{each_from, cell_at, each_cell}
use Rattle.be_span.specs.declared.Cell.{Cell}
use Rattle.be_span.specs.Cells.{Lookup}

pub each_get : (k i : ℕ) (f : ℕ → Cell → Cell) (cells : List Cell) → slice_get (each_from k f cells) i ≡ option_map (f (k + i)) (slice_get cells i)
each_get k i f [] = refl
each_get k zero f (c ∷ cs) = let same : k + 0 ≡ k = omega arith in ap (λ n. Some (f n c)) (sym same)
each_get k (suc i) f (c ∷ cs) = let same : k + 1 + i ≡ k + suc i = omega arith in each_get (k + 1) i f cs ∙ ap (λ n. option_map (f n) (slice_get cs i)) same

pub at_row : (width : ℕ) (rule : Lookup → ℤ → ℤ → Cell → Cell) (cells : List Cell) (x y : ℕ) (b : Bool) → nat_lt x width ≡ b → (if b then slice_get (each_cell width rule cells) (y * width + x) else None) ≡ option_map (rule (cell_at width cells) (pos x) (pos y)) (if b then slice_get cells (y * width + x) else None)
unfolding each_cell
at_row width rule cells x y true inside =
    let within : x < width = grind (arith, nat_tests) in
    let from_none : 0 + (y * width + x) ≡ y * width + x = omega arith in
    let column : (0 + (y * width + x)) % width ≡ x = ap (λ n. n % width) from_none ∙ digits_mod y within in
    let row : (0 + (y * width + x)) / width ≡ y = ap (λ n. n / width) from_none ∙ digits_div y within in
    each_get 0 (y * width + x) (λ k c. rule (cell_at width cells) (pos (k % width)) (pos (k / width)) c) cells
    ∙ rw (column, row) refl
at_row width rule cells x y false inside = refl

-- the cell at a pixel is the one that the rule makes of the old one there
pub cell_by : (width : ℕ) (rule : Lookup → ℤ → ℤ → Cell → Cell) (cells : List Cell) (x y : ℤ) → cell_at width (each_cell width rule cells) x y ≡ option_map (rule (cell_at width cells) x y) (cell_at width cells x y)
unfolding cell_at
cell_by width rule cells (pos x) (pos y) = at_row width rule cells x y (nat_lt x width) refl
cell_by width rule cells (pos x) (negsuc y) = refl
cell_by width rule cells (negsuc x) y = refl

pub each_length : (k : ℕ) (f : ℕ → Cell → Cell) (cells : List Cell) → length (each_from k f cells) ≡ length cells
each_length k f [] = refl
each_length k f (c ∷ cs) = ap suc (each_length (k + 1) f cs)

pub ruled_length : (width : ℕ) (rule : Lookup → ℤ → ℤ → Cell → Cell) (cells : List Cell) → length (each_cell width rule cells) ≡ length cells
unfolding each_cell
ruled_length width rule cells = each_length 0 _ cells
