-- The colours that the code has of some cells (this project's own).
use Rattle.std.specs.Prelude.{◌≡◌, ℕ, true, List}
use Rattle.std.specs.BTreeSet.{btree_set_len, contains}
use Rattle.std.specs.List.{list_any}
use Rattle.std.specs.Option.{IfSome}
use Rattle.std.specs.declared.cmp.Ordering.{Ordering}
use Rattle.std.specs.Ordering.{nat_cmp, ordering_then}
use Rattle.be_color.specs.declared.colors.Rgb.{Rgb}
use Rattle.be_span.specs.declared.Cell.{Cell}
use Rattle.be_summary.specs.Summary.{color_count, has_color}
use Rattle.be_summary.specs.declared.colors.Colors.{Colors}

-- in the order of their red, green and blue
abbrev pub color_cmp : ℕ × ℕ × ℕ → ℕ × ℕ × ℕ → Ordering
color_cmp a b = ordering_then (ordering_then (nat_cmp a.0 b.0) (nat_cmp a.1 b.1)) (nat_cmp a.2 b.2)

-- it has the colours that the cells show and no other, each once
pub record HasColors (cells : List Cell) (colors : Colors) : Type 0 where
  pub many : btree_set_len colors.seen ≡ color_count cells
  pub each : (rgb : Rgb)
      → contains color_cmp colors.seen (rgb.red, rgb.green, rgb.blue)
      ≡ list_any (has_color rgb) cells
  pub last : IfSome colors.last (λ rgb. list_any (has_color rgb) cells ≡ true)
