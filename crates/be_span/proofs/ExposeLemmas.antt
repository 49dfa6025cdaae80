-- Cells side by side, exposed.
use Rattle.std.proofs.Common.{◌≡◌, ℕ, suc, ◌+◌, true, cond, List, [], ◌∷◌, length, map, sum_by, count_by, refl, ap, ◌∙◌, arith}
use Rattle.std.specs.Prelude.{replicate}
use Rattle.std.proofs.lemmas.List.Sums.{sum_by-cons}
use Rattle.be_color.specs.declared.colors.Rgb.{Rgb}
use Rattle.be_color.specs.declared.colors.Color.{Color}
use Rattle.be_color.specs.declared.colors.Color.TheVariants.{Solid, Clear}
use Rattle.be_span.specs.declared.Cell.{Cell}
use Rattle.be_span.specs.Cells.{exposed_cell}

-- one colour all over
pub all_colored : (rgb : Rgb) (cells : List Cell) → replicate (length cells) (record { rgb = rgb; dirty = true }) ≡ map (exposed_cell (Solid rgb)) cells
all_colored rgb [] = refl
all_colored rgb (c ∷ cells) = ap (λ l. exposed_cell (Solid rgb) c ∷ l) (all_colored rgb cells)

abbrev mark_of : Cell → ℕ
mark_of c = cond c.dirty 1 0

is_marked : (color : Color) (c : Cell) → mark_of (exposed_cell color c) ≡ 1
is_marked (Solid rgb) c = refl
is_marked Clear c = refl

-- each of them waits then
pub all_marked : (color : Color) (cells : List Cell) → count_by (λ c. c.dirty) (map (exposed_cell color) cells) ≡ length cells
all_marked color [] = refl
all_marked color (c ∷ cells) =
    sum_by-cons mark_of (exposed_cell color c) (map (exposed_cell color) cells)
    ∙ ap (λ n. n + sum_by mark_of (map (exposed_cell color) cells)) (is_marked color c)
    ∙ ap (λ n. 1 + n) (all_marked color cells)
    ∙ one_more (length cells)
  where
    one_more : (n : ℕ) → 1 + n ≡ suc n
    one_more n = omega arith
