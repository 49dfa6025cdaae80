-- The rectangle of a view's pixels of a session, and the list of the views that have some.
use Rattle.std.proofs.Common.{◌≡◌, ℕ, ◌+◌, ◌<◌, ◌≤◌, zero, suc, ℤ, pos, ◌+ℤ◌, ◌≤ℤ◌, true, ◌&&◌, List, [], ◌∷◌, ◌++◌, Option, Some, None, Result, Ok, Err, IfOk, map, length, get_or, take, refl, sym, ap, ap₂, ◌∙◌}
use Rattle.std.specs.Prelude.{neg_ℤ, filter_map, option_and_then}
use Rattle.std.specs.Option.{option_map}
use Rattle.std.proofs.lemmas.Bool.{and_parts}
use Rattle.std.proofs.lemmas.Bool.Decides.{Decides-int_eq}
use Rattle.std.proofs.lemmas.List.{take_more}
use Rattle.std.proofs.lemmas.List.Elements.{filter_map-append}
use Rattle.std.proofs.lemmas.Map.Views.{any-filter_same}
use Rattle.std.proofs.lemmas.Option.{none-some, same_Some, slice_get_past}
use Rattle.be_geom.specs.Numbers.{is_number}
use Rattle.be_geom.specs.declared.point.Point.{Point}
use Rattle.be_geom.specs.declared.rect.Rect.{Rect}
use Rattle.std.specs.Ordering.{int_eq}
use Rattle.be_geom.specs.Places.{at_pixel, less, same_point}
use Rattle.be_geom.specs.Rects.{moved_rect}
use Rattle.be_region.specs.Regions.{HasNone, IsIntersection, region_has}
use Rattle.be_region.specs.Frames.{IsFrame}
use Rattle.be_views.specs.Trees.{Tree, View, corner_in, place_from, place_of}
use Rattle.be_views.specs.Pixels.{view_at}
use Rattle.be_views.specs.Places.{pair_of}
use Rattle.be_views.specs.Clips.{IsClip}
use Rattle.be_views.specs.Whole.{IsTree}
use Rattle.be_region.specs.Sessions.{SameSession}
use Rattle.be_update.specs.Listing.{pixels_of, rect_in, rect_round, stopped_rect}
use Rattle.be_update.proofs.PixelLemmas.{has_pixel}
use Rattle.be_update.proofs.FrameLemmas.{round_back, round_is, round_none}
use Rattle.be_update.proofs.PlaceLemmas.{near_place}

-- ---- a view's pixels of a session

same_view : (tree : Tree) (v : ℕ) (x y : ℤ) (q : Point) → same_point (at_pixel x y) q ≡ true → is_number v (view_at tree q.x q.y) ≡ is_number v (view_at tree x y)
same_view tree v x y q h =
    let parts = and_parts (int_eq x q.x) (int_eq y q.y) h in
    sym (ap₂ (λ z w. is_number v (view_at tree z w)) ((Decides-int_eq x q.x).0 parts.0) ((Decides-int_eq y q.y).0 parts.1))

pub record IsOwn (tree : Tree) (v : ℕ) (session own clip : List Rect) : Type 0 where
  pub shows : IsClip tree v clip
  pub both : IsIntersection own clip session

own_pixels : (tree : Tree) (v : ℕ) (pixels : List Point) (session own clip : List Rect) → IsOwn tree v session own clip → SameSession (Some session) (Some pixels) → (x y : ℤ) → region_has own x y ≡ has_pixel (pixels_of tree v pixels) x y
own_pixels tree v pixels session own clip o same x y =
    o.both x y ∙ ap₂ (λ a b. a && b) (o.shows x y) (same x y)
    ∙ sym (any-filter_same (same_point (at_pixel x y)) (λ q. is_number v (view_at tree q.x q.y)) (is_number v (view_at tree x y)) (same_view tree v x y) pixels)

-- ---- its place

pub place_is : (o : Option Point) (left top : ℤ) → Some (left, top) ≡ option_map pair_of o → o ≡ Some (at_pixel left top)
place_is (Some p) left top h =
    let e = same_Some (left, top) (pair_of p) h in
    ap₂ (λ x y. Some (at_pixel x y)) (sym (ap (λ (q : ℤ × ℤ). q.0) e)) (sym (ap (λ (q : ℤ × ℤ). q.1) e))
place_is None left top h = absurd (none-some (left, top) (sym h))

no_place_from : (n : ℕ) (tree : Tree) (v : ℕ) → length tree ≤ v → place_from n tree v ≡ None
no_place_from zero tree v h = refl
no_place_from (suc n) tree v h =
    ap (λ (o : Option View). option_and_then (λ view. corner_in (place_from n tree) view.frame view.parent) o) (slice_get_past tree v h)

no_place : (tree : Tree) (v : ℕ) → length tree ≤ v → place_of tree v ≡ None
unfolding place_of
no_place tree v h = no_place_from (length tree) tree v h

-- ---- its rectangle

abbrev rect_at : Tree → ℕ → List Point → Option Point → Option Rect
rect_at tree v pixels place = option_and_then (λ p. option_map stopped_rect (rect_round (map (λ q. less q p) (pixels_of tree v pixels)))) place

pub no_view : (tree : Tree) (v : ℕ) (pixels : List Point) → length tree ≤ v → None ≡ rect_in tree pixels v
no_view tree v pixels h = sym (ap (rect_at tree v pixels) (no_place tree v h))

seen_back : (tree : Tree) (v : ℕ) (pixels : List Point) (left top : ℤ) → place_of tree v ≡ Some (at_pixel left top) → rect_in tree pixels v ≡ option_map stopped_rect (option_map (λ r. moved_rect r (neg_ℤ left) (neg_ℤ top)) (rect_round (pixels_of tree v pixels)))
seen_back tree v pixels left top place =
    ap (rect_at tree v pixels) place ∙ ap (option_map stopped_rect) (round_back (pixels_of tree v pixels) (at_pixel left top))

pub rect_some : (tree : Tree) (v : ℕ) (pixels : List Point) (session own clip : List Rect) (frame : Rect) (left top : ℤ) → IsOwn tree v session own clip → SameSession (Some session) (Some pixels) → place_of tree v ≡ Some (at_pixel left top) → IsFrame frame own → rect_in tree pixels v ≡ Some (stopped_rect (moved_rect frame (neg_ℤ left) (neg_ℤ top)))
rect_some tree v pixels session own clip frame left top o same place is =
    seen_back tree v pixels left top place
    ∙ ap (λ r. option_map stopped_rect (option_map (λ r. moved_rect r (neg_ℤ left) (neg_ℤ top)) r)) (round_is (pixels_of tree v pixels) own frame (own_pixels tree v pixels session own clip o same) is)

pub rect_none : (tree : Tree) (v : ℕ) (pixels : List Point) (session own clip : List Rect) (left top : ℤ) → IsOwn tree v session own clip → SameSession (Some session) (Some pixels) → place_of tree v ≡ Some (at_pixel left top) → HasNone own → rect_in tree pixels v ≡ None
rect_none tree v pixels session own clip left top o same place none =
    seen_back tree v pixels left top place
    ∙ ap (λ r. option_map stopped_rect (option_map (λ r. moved_rect r (neg_ℤ left) (neg_ℤ top)) r)) (round_none (pixels_of tree v pixels) own (own_pixels tree v pixels session own clip o same) none)

pub near : (tree : Tree) (v : ℕ) (session own clip : List Rect) (x y left top : ℤ) → IsTree tree → IsOwn tree v session own clip → place_of tree v ≡ Some (at_pixel left top) → region_has own x y ≡ true → x ≤ℤ pos 32767 → y ≤ℤ pos 32767 → (left ≤ℤ (x +ℤ pos 32767)) × (top ≤ℤ (y +ℤ pos 32767))
near tree v session own clip x y left top whole o place has a b =
    near_place tree v x y (at_pixel left top) whole (sym (o.shows x y) ∙ (and_parts (region_has clip x y) (region_has session x y) (sym (o.both x y) ∙ has)).0) place a b

-- ---- the list

abbrev pub listed_as : Option (ℕ × Rect) → List (ℕ × Rect)
listed_as (Some one) = one ∷ []
listed_as None = []

one_more : (g : ℕ → Option (ℕ × Rect)) (v : ℕ) (b : Option (ℕ × Rect)) → g v ≡ b → filter_map g (v ∷ []) ≡ listed_as b
one_more g v (Some one) e = rw e refl
one_more g v None e = rw e refl

pub more : (g : ℕ → Option (ℕ × Rect)) (order : List ℕ) (i d : ℕ) (b : Option (ℕ × Rect)) → i < length order → g (get_or order i d) ≡ b → filter_map g (take (i + 1) order) ≡ filter_map g (take i order) ++ listed_as b
more g order i d b h e =
    ap (filter_map g) (take_more order i d h) ∙ filter_map-append g (take i order) (get_or order i d ∷ [])
    ∙ ap (λ l. filter_map g (take i order) ++ l) (one_more g (get_or order i d) b e)

pub ok_then : {A E : Type 0} (P Q : A → Type 0) (r : Result A E) → ((a : A) → P a → Q a) → IfOk r P → IfOk r Q
ok_then P Q (Ok a) h k = h a k
ok_then P Q (Err e) h k = tt
