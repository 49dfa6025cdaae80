-- Pixels of a window's frame on the screen, and in the window.
use Rattle.std.proofs.Common.{◌≡◌, ℤ, ◌+ℤ◌, ◌-ℤ◌, negsuc, pos, true, ◌&&◌, Option, Some, None, SFits, w16, inl, inr, arith, refl, sym, ap, ap₂, ◌∙◌}
use Rattle.std.specs.Prelude.{neg_ℤ, slice_get}
use Rattle.std.specs.Option.{option_map}
use Rattle.std.proofs.lemmas.Bool.{true≢false}
use Rattle.std.proofs.lemmas.Int.{ints}
use Rattle.std.proofs.lemmas.Option.{none-some, same_Some}
use Rattle.be_facts.proofs.Truths.{true_or_false}
use Rattle.be_geom.specs.declared.rect.Rect.{Rect}
use Rattle.be_geom.specs.Points.{in_range}
use Rattle.be_geom.specs.Rects.{moved_rect, rect_has}
use Rattle.be_geom.proofs.Between.{is_between}
use Rattle.be_region.specs.Regions.{region_has}
use Rattle.be_span.specs.Spans.{cell_in, is_dirty}
use Rattle.be_span.proofs.CellLemmas.{cell_none}
use Rattle.be_views.specs.Trees.{View}
use Rattle.be_views.proofs.ChildLemmas.{in_frame}
use Rattle.be_pane.specs.declared.pane.Pane.{Pane}
use Rattle.be_pane.specs.StandsFor.{IsWhole}

pub record FrameFits (r : Rect) : Type 0 where
  pub left : SFits w16 r.left
  pub top : SFits w16 r.top
  pub right : SFits w16 r.right
  pub bottom : SFits w16 r.bottom

-- a pixel of the frame is in range once it is moved back
pub stays_in_range : (frame : Rect) (px py dx dy x y : ℤ) → FrameFits frame → dx ≡ neg_ℤ px → dy ≡ neg_ℤ py → rect_has (moved_rect frame px py) x y ≡ true → (in_range (x +ℤ dx) && in_range (y +ℤ dy)) ≡ true
stays_in_range frame px py dx dy x y fits e f has =
    let left = fits.left in
    let top = fits.top in
    let right = fits.right in
    let bottom = fits.bottom in
    let inside = in_frame (moved_rect frame px py) x y has in
    let a = inside.0 in
    let b = inside.1 in
    let c = inside.2 in
    let d = inside.3 in
    ap₂ (λ v w. v && w) (is_between (negsuc 32767) (x +ℤ dx) (pos 32767) (omega (arith, ints)) (omega (arith, ints))) (is_between (negsuc 32767) (y +ℤ dy) (pos 32767) (omega (arith, ints)) (omega (arith, ints)))

root_is : (o : Option View) (f : Rect) → option_map (λ v. v.frame) o ≡ Some f → (root : View) × ((o ≡ Some root) × (root.frame ≡ f))
root_is (Some root) f h = (root, (refl, same_Some root.frame f h))
root_is None f h = absurd (none-some f h)

owned_if_dirty : (pane : Pane) (x y : ℤ) → is_dirty (cell_in pane.spans x y) ≡ true → region_has pane.spans.rects x y ≡ true
owned_if_dirty pane x y h =
    elim (true_or_false (region_has pane.spans.rects x y)) [
      | inl has ↦ has
      | inr none ↦ absurd (true≢false (sym h ∙ ap is_dirty (cell_none pane.spans x y none)))
    ]

-- a pixel that waits lies in the root's frame
pub in_root : (pane : Pane) (f : Rect) → IsWhole pane → option_map (λ v. v.frame) (slice_get pane.tree 0) ≡ Some f → (x y : ℤ) → is_dirty (cell_in pane.spans x y) ≡ true → rect_has (moved_rect f pane.place.x pane.place.y) x y ≡ true
in_root pane f whole is x y h =
    let root = root_is (slice_get pane.tree 0) f is in
    ap (λ (r : Rect). rect_has (moved_rect r pane.place.x pane.place.y) x y) (sym root.1.1)
    ∙ whole.within x y (owned_if_dirty pane x y h) root.0 root.1.0

pub minus_back : (x p : ℤ) → x -ℤ neg_ℤ p ≡ x +ℤ p
minus_back x p = omega (arith, ints)
