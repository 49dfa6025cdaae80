-- The smallest rectangle round a list of pixels is the frame of the region that has them.
use Rattle.std.proofs.Common.{◌≡◌, ℤ, ◌+ℤ◌, ◌-ℤ◌, ◌≤ℤ◌, true, ◌&&◌, ◌||◌, List, [], ◌∷◌, ◌++◌, Some, None, map, arith, refl, sym, ap, ap₂, ◌∙◌, append_assoc}
use Rattle.std.specs.Prelude.{neg_ℤ}
use Rattle.std.specs.List.{fold}
use Rattle.std.specs.Option.{option_map}
use Rattle.std.specs.Int.{int_min, int_max}
use Rattle.std.specs.Ordering.{int_eq}
use Rattle.std.proofs.lemmas.Int.{ints, clamps}
use Rattle.std.proofs.lemmas.Bool.{false≢true}
use Rattle.std.proofs.lemmas.Bool.Decides.{same_from_decides, Decides-int_eq}
use Rattle.std.proofs.Common.{subst}
use Rattle.std.proofs.lemmas.List.{append-nil}
use Rattle.be_geom.specs.declared.point.Point.{Point}
use Rattle.be_geom.specs.declared.rect.Rect.{Rect}
use Rattle.be_geom.specs.Places.{at_pixel, less, same_point}
use Rattle.be_geom.specs.Points.{between}
use Rattle.be_geom.specs.Rects.{moved_rect}
use Rattle.be_geom.proofs.Between.{is_between, between_parts}
use Rattle.be_geom.proofs.RectLemmas.{same_rects}
use Rattle.be_region.specs.Regions.{HasNone, IsNotEmpty, region_has}
use Rattle.be_region.specs.Frames.{IsFrame, outer_rect}
use Rattle.be_region.proofs.FrameLemmas.{frame_more, frame_of_one}
use Rattle.be_views.proofs.ChildLemmas.{in_frame}
use Rattle.be_update.specs.Listing.{pixel_rect, rect_round}
use Rattle.be_update.proofs.PixelLemmas.{has_pixel}

-- ---- pixels as rectangles

equal : (z p : ℤ) → p ≤ℤ z → z ≤ℤ p → z ≡ p
equal z p a b = omega (arith, ints)

alone : (z p : ℤ) → between p z p ≡ int_eq z p
alone z p =
    same_from_decides (between p z p) (int_eq z p) (
      λ h. let parts = between_parts p p z h in let a = parts.0 in let b = parts.1 in equal z p a b,
      λ e. is_between p z p (let k : z ≡ p = e in omega (arith, ints)) (let k : z ≡ p = e in omega (arith, ints)),
    ) (Decides-int_eq z p)

pub as_rects : (ps : List Point) (x y : ℤ) → region_has (map pixel_rect ps) x y ≡ has_pixel ps x y
as_rects [] x y = refl
as_rects (p ∷ ps) x y = ap₂ (λ v w. v || w) (ap₂ (λ v w. v && w) (alone x p.x) (alone y p.y)) (as_rects ps x y)

one_pixel : (p : Point) → IsNotEmpty (pixel_rect p)
one_pixel p = record { across = omega (arith, ints); down = omega (arith, ints) }

frame_all : (f : Rect) (rs : List Rect) (ps : List Point) → IsFrame f rs → IsFrame (fold outer_rect f (map pixel_rect ps)) (rs ++ map pixel_rect ps)
frame_all f rs [] frame = subst (λ (l : List Rect). IsFrame f l) (sym (append-nil rs)) frame
frame_all f rs (p ∷ ps) frame =
    subst (λ (l : List Rect). IsFrame (fold outer_rect (outer_rect f (pixel_rect p)) (map pixel_rect ps)) l) (append_assoc rs (pixel_rect p ∷ []) (map pixel_rect ps))
    (frame_all (outer_rect f (pixel_rect p)) (rs ++ pixel_rect p ∷ []) ps (frame_more f rs (pixel_rect p) (one_pixel p) frame))

round_some : (p : Point) (ps : List Point) → IsFrame (fold outer_rect (pixel_rect p) (map pixel_rect ps)) (map pixel_rect (p ∷ ps))
round_some p ps = frame_all (pixel_rect p) (pixel_rect p ∷ []) ps (frame_of_one (pixel_rect p) (one_pixel p))

-- ---- a set has one frame

same_edges : (f g : Rect) (a b : List Rect) → IsFrame f a → IsFrame g b → ((x y : ℤ) → region_has a x y ≡ true → region_has b x y ≡ true) → (g.left ≤ℤ f.left) × (f.right ≤ℤ g.right) × (g.top ≤ℤ f.top) × (f.bottom ≤ℤ g.bottom)
same_edges f g a b one other within =
    let l = in_frame g f.left one.left.0 (other.holds f.left one.left.0 (within f.left one.left.0 one.left.1)) in
    let r = in_frame g f.right one.right.0 (other.holds f.right one.right.0 (within f.right one.right.0 one.right.1)) in
    let t = in_frame g one.top.0 f.top (other.holds one.top.0 f.top (within one.top.0 f.top one.top.1)) in
    let b' = in_frame g one.bottom.0 f.bottom (other.holds one.bottom.0 f.bottom (within one.bottom.0 f.bottom one.bottom.1)) in
    (l.0, r.1, t.2, b'.3)

same_frame : (f g : Rect) (a b : List Rect) → IsFrame f a → IsFrame g b → ((x y : ℤ) → region_has a x y ≡ region_has b x y) → f ≡ g
same_frame f g a b one other same =
    let e = same_edges f g a b one other (λ x y h. sym (same x y) ∙ h) in
    let d = same_edges g f b a other one (λ x y h. same x y ∙ h) in
    same_rects f.left g.left f.top g.top f.right g.right f.bottom g.bottom
    (equal f.left g.left e.0 d.0) (equal f.top g.top e.2 d.2) (equal f.right g.right d.1 e.1) (equal f.bottom g.bottom d.3 e.3)

-- ---- the rectangle round them

pub round_is : (ps : List Point) (rs : List Rect) (f : Rect) → ((x y : ℤ) → region_has rs x y ≡ has_pixel ps x y) → IsFrame f rs → rect_round ps ≡ Some f
round_is [] rs f same frame = absurd (false≢true (sym (same f.left frame.left.0) ∙ frame.left.1))
round_is (p ∷ ps) rs f same frame =
    ap (λ (r : Rect). Some r) (same_frame (fold outer_rect (pixel_rect p) (map pixel_rect ps)) f (map pixel_rect (p ∷ ps)) rs (round_some p ps) frame (λ x y. as_rects (p ∷ ps) x y ∙ sym (same x y)))

has_itself : (p : Point) → same_point (at_pixel p.x p.y) p ≡ true
has_itself p = ap₂ (λ v w. v && w) ((Decides-int_eq p.x p.x).1 refl) ((Decides-int_eq p.y p.y).1 refl)

pub round_none : (ps : List Point) (rs : List Rect) → ((x y : ℤ) → region_has rs x y ≡ has_pixel ps x y) → HasNone rs → rect_round ps ≡ None
round_none [] rs same none = refl
round_none (p ∷ ps) rs same none =
    absurd (false≢true (sym (none p.x p.y) ∙ same p.x p.y ∙ ap (λ v. v || has_pixel ps p.x p.y) (has_itself p)))

-- ---- seen from elsewhere

abbrev back : Point → Rect → Rect
back c r = moved_rect r (neg_ℤ c.x) (neg_ℤ c.y)

min_back : (a b c : ℤ) → int_min (a +ℤ neg_ℤ c) (b +ℤ neg_ℤ c) ≡ int_min a b +ℤ neg_ℤ c
min_back a b c = grind (arith, ints, clamps)

max_back : (a b c : ℤ) → int_max (a +ℤ neg_ℤ c) (b +ℤ neg_ℤ c) ≡ int_max a b +ℤ neg_ℤ c
max_back a b c = grind (arith, ints, clamps)

minus : (a c : ℤ) → a -ℤ c ≡ a +ℤ neg_ℤ c
minus a c = omega (arith, ints)

pixel_back : (p c : Point) → pixel_rect (less p c) ≡ back c (pixel_rect p)
pixel_back p c = same_rects _ _ _ _ _ _ _ _ (minus p.x c.x) (minus p.y c.y) (minus p.x c.x) (minus p.y c.y)

outer_back : (f g : Rect) (c : Point) → outer_rect (back c f) (back c g) ≡ back c (outer_rect f g)
outer_back f g c = same_rects _ _ _ _ _ _ _ _ (min_back f.left g.left c.x) (min_back f.top g.top c.y) (max_back f.right g.right c.x) (max_back f.bottom g.bottom c.y)

fold_back : (f : Rect) (ps : List Point) (c : Point) → fold outer_rect (back c f) (map pixel_rect (map (λ p. less p c) ps)) ≡ back c (fold outer_rect f (map pixel_rect ps))
fold_back f [] c = refl
fold_back f (p ∷ ps) c =
    ap (λ (r : Rect). fold outer_rect (outer_rect (back c f) r) (map pixel_rect (map (λ q. less q c) ps))) (pixel_back p c)
    ∙ ap (λ (r : Rect). fold outer_rect r (map pixel_rect (map (λ q. less q c) ps))) (outer_back f (pixel_rect p) c)
    ∙ fold_back (outer_rect f (pixel_rect p)) ps c

pub round_back : (ps : List Point) (c : Point) → rect_round (map (λ p. less p c) ps) ≡ option_map (back c) (rect_round ps)
round_back [] c = refl
round_back (p ∷ ps) c =
    ap (λ (r : Rect). Some (fold outer_rect r (map pixel_rect (map (λ q. less q c) ps)))) (pixel_back p c)
    ∙ ap (λ (r : Rect). Some r) (fold_back (pixel_rect p) ps c)
