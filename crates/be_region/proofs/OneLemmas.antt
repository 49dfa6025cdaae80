-- The bands of no rectangle and of one.
use Rattle.std.proofs.Common.{◌≡◌, pos, ◌-ℤ◌, true, false, not, List, [], ◌∷◌, inl, inr, arith, refl, sym, ap, ◌∙◌}
use Rattle.std.proofs.lemmas.Int.{ints, by_lt_z}
use Rattle.std.proofs.lemmas.Bool.{or_from, or_left, and_right}
use Rattle.std.proofs.lemmas.List.Elements.{All-nil, All-cons}
use Rattle.be_geom.specs.declared.rect.Rect.{Rect}
use Rattle.be_geom.specs.Points.{between}
use Rattle.be_geom.specs.Rects.{rect_has, HasNoPixel}
use Rattle.be_geom.proofs.RectLemmas.{reversed_edges, corner_inside}
use Rattle.be_geom.proofs.Between.{is_below}
use Rattle.be_region.specs.Regions.{region_has, IsNotEmpty}
use Rattle.be_region.specs.Bands.{IsBefore, RowsDiffer, AreBands}
use Rattle.be_region.proofs.PairLemmas.{pairs_none, pairs_cons}

pub no_bands : AreBands []
no_bands = record {
  none_empty = All-nil IsNotEmpty;
  in_order = pairs_none IsBefore;
  merged = All-nil (λ r. RowsDiffer [] (r.top -ℤ pos 1) r.top);
}

pub none_bands : (rs : List Rect) → rs ≡ [] → AreBands rs
none_bands rs e = rw e no_bands

full_of : (r : Rect) → (HasNoPixel r → ⊥) → IsNotEmpty r
full_of r h = record {
  across = by_lt_z r.right r.left (λ k. absurd (h (reversed_edges r (inl k)))) (λ k. k);
  down = by_lt_z r.bottom r.top (λ k. absurd (h (reversed_edges r (inr k)))) (λ k. k);
}

row_before : (r : Rect) → region_has (r ∷ []) r.left (r.top -ℤ pos 1) ≡ false
row_before r =
    or_from (rect_has r r.left (r.top -ℤ pos 1)) false (and_right (between r.left r.left r.right) (between r.top (r.top -ℤ pos 1) r.bottom) (is_below r.top (r.top -ℤ pos 1) r.bottom (omega (arith, ints)))) refl

first_row : (r : Rect) → IsNotEmpty r → region_has (r ∷ []) r.left r.top ≡ true
first_row r h = or_left (rect_has r r.left r.top) false (corner_inside r h.across h.down)

pub one_band : (rs : List Rect) (r : Rect) → rs ≡ r ∷ [] → (HasNoPixel r → ⊥) → AreBands rs
one_band rs r e h =
    let full = full_of r h in
    rw e (record {
      none_empty = All-cons IsNotEmpty r [] full (All-nil IsNotEmpty);
      in_order = pairs_cons IsBefore r [] (All-nil (IsBefore r)) (pairs_none IsBefore);
      merged = All-cons (λ q. RowsDiffer (r ∷ []) (q.top -ℤ pos 1) q.top) r [] (r.left, row_before r ∙ ap not (sym (first_row r full))) (All-nil (λ q. RowsDiffer (r ∷ []) (q.top -ℤ pos 1) q.top));
    })
