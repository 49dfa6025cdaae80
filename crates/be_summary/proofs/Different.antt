-- The count of colours is that of different ones.
use Rattle.std.proofs.Common.{◌≡◌, ℕ, ◌+◌, Bool, true, false, cond, ◌||◌, List, [], ◌∷◌, length}
use Rattle.std.proofs.Common.{map, refl, sym, ap, ◌∙◌, arith}
use Rattle.std.specs.Prelude.{if◌then◌else◌}
use Rattle.std.specs.Cmp.{IsEquivalence}
use Rattle.std.specs.List.{list_any}
use Rattle.std.specs.Set.{distinct_count, is_member, unique_keys}
use Rattle.std.proofs.lemmas.Map.Made.{length-from_keys}
use Rattle.be_color.specs.declared.colors.Rgb.{Rgb}
use Rattle.be_span.specs.declared.Cell.{Cell}
use Rattle.be_written.specs.ScreenText.{same_rgb}
use Rattle.be_written.proofs.ScreenRows.{same_is, same_itself}
use Rattle.be_summary.specs.Laws.{CountsEachOnce}
use Rattle.be_summary.specs.Summary.{color_count, has_color}
use Rattle.be_summary.proofs.ColorLemmas.{same_back}

-- the same colours are equal
same_laws : IsEquivalence same_rgb
same_laws = record {
  refl = same_itself;
  symm = same_back;
  congr = λ x y z e. ap (λ (r : Rgb). same_rgb r z) (same_is x y e);
}

abbrev colors_of : List Cell → List Rgb
colors_of cells = map (λ c. c.rgb) cells

any_color : (rgb : Rgb) (cells : List Cell)
    → list_any (has_color rgb) cells ≡ is_member same_rgb (colors_of cells) rgb
any_color rgb [] = refl
any_color rgb (c ∷ cs) =
    ap (λ (b : Bool). b || list_any (has_color rgb) cs) (same_back c.rgb rgb)
    ∙ ap (λ (b : Bool). same_rgb rgb c.rgb || b) (any_color rgb cs)

one_more : (b : Bool) (n : ℕ) (rgb : Rgb) (rgbs : List Rgb) → n ≡ length rgbs
    → (if b then n else n + 1) ≡ length (cond b rgbs (rgb ∷ rgbs))
one_more true n rgb rgbs e = e
one_more false n rgb rgbs e = omega arith

counted : (cells : List Cell) → color_count cells ≡ distinct_count same_rgb (colors_of cells)
unfolding color_count
counted [] = refl
counted (c ∷ cs) =
    one_more (list_any (has_color c.rgb) cs) (color_count cs) c.rgb
    (unique_keys same_rgb (colors_of cs)) (counted cs)
    ∙ ap (λ (b : Bool). length (cond b (unique_keys same_rgb (colors_of cs))
    (c.rgb ∷ unique_keys same_rgb (colors_of cs)))) (any_color c.rgb cs)

pub counts_each_once : CountsEachOnce
counts_each_once cells colors apart same =
    counted cells
    ∙ sym (length-from_keys same_laws colors (colors_of cells) apart
    (λ rgb. same rgb ∙ any_color rgb cells))
