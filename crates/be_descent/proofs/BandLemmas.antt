-- The rectangles of canonical bands have no pixel in common.
use Rattle.std.specs.List.{AllPairs}
use Rattle.std.proofs.Common.{◌≡◌, ◌<◌, ℕ, ℤ, true, false, List, length, get_or, take, subst, sym}
use Rattle.std.proofs.Common.{◌∙◌, arith}
use Rattle.std.proofs.lemmas.Bool.{false≢true, false_from_ne_true}
use Rattle.std.proofs.lemmas.List.{get_or-take, length-take-le}
use Rattle.be_geom.specs.declared.rect.Rect.{Rect}
use Rattle.be_geom.specs.Rects.{rect_has}
use Rattle.be_region.specs.Bands.{IsBefore}
use Rattle.be_region.specs.Regions.{region_has}
use Rattle.be_region.proofs.LawLemmas.{found, same_default}
use Rattle.be_span.proofs.PlaceLemmas.{apart}

-- a pixel that is in one before it is not in a rectangle
pub separate : (rs : List Rect) → AllPairs IsBefore rs → (k : ℕ) (d : Rect) (x y : ℤ)
    → k < length rs → region_has (take k rs) x y ≡ true → rect_has (get_or rs k d) x y ≡ false
separate rs h k d x y less e =
    let one = found (λ q. IsBefore q (get_or rs k d)) (take k rs) x y (λ i d' m. before i d' m) e in
    false_from_ne_true (rect_has (get_or rs k d) x y)
    (λ has. false≢true (sym (apart one.0 (get_or rs k d) x y one.1.1 has) ∙ one.1.0))
  where
    before : (i : ℕ) (d' : Rect) → i < length (take k rs)
        → IsBefore (get_or (take k rs) i d') (get_or rs k d)
    before i d' m =
        let len = length-take-le k rs (omega (arith, less)) in let n : i < k =
        omega (arith, m, len) in
        let at : get_or rs i d' ≡ get_or (take k rs) i d' = sym (get_or-take k rs i d' n) in
        let to : get_or rs k d' ≡ get_or rs k d = same_default rs k d' d less in
        subst (λ (p : Rect). IsBefore p (get_or rs k d)) at
        (subst (λ (p : Rect). IsBefore (get_or rs i d') p) to (h i k d' n less))
