-- Pixels newly exposed, one view after the other.
use Rattle.std.specs.Prelude.{option_map, slice_get, if◌then◌else◌}
use Rattle.std.proofs.Common.{◌≡◌, ◌<◌, ◌+◌, ◌⊎◌, ℕ, ℤ, ◌-ℤ◌, Bool, true, false, ◌&&◌, ◌||◌}
use Rattle.std.proofs.Common.{List, Option, Some, None, inl, inr, length, refl, sym, ap, ap₂, ◌∙◌, arith}
use Rattle.std.proofs.lemmas.Bool.Decides.{nat_tests}
use Rattle.std.proofs.lemmas.Bool.{and_parts}
use Rattle.std.proofs.lemmas.Int.{ints}
use Rattle.be_facts.proofs.Truths.{and_true, true_or_false}
use Rattle.be_color.specs.declared.colors.Color.{Color}
use Rattle.be_descent.specs.Fronts.{shows}
use Rattle.be_descent.specs.Places.{has_moved}
use Rattle.be_descent.proofs.PaintLemmas.{both_painted, same_painted}
use Rattle.be_geom.specs.declared.point.Point.{Point}
use Rattle.be_geom.specs.declared.rect.Rect.{Rect}
use Rattle.be_geom.specs.Numbers.{is_number}
use Rattle.be_geom.specs.Rects.{rect_has}
use Rattle.be_geom.proofs.Numbered.{number_is}
use Rattle.be_region.specs.Frames.{IsFrame}
use Rattle.be_region.specs.Regions.{region_has}
use Rattle.be_span.specs.declared.Cell.{Cell}
use Rattle.be_span.specs.Cells.{Lookup, exposed_as, exposed_cell}
use Rattle.be_span.specs.Painting.{Rule, IsPainted}
use Rattle.be_span.specs.Spans.{Spans, cell_in}
use Rattle.be_span.proofs.CellLemmas.{kept_map}
use Rattle.be_state.specs.Stacks.{base_of}
use Rattle.be_views.specs.Trees.{is_at_or_below}
use Rattle.be_views.proofs.KinLemmas.{seen_there}
use Rattle.be_paint.specs.Copies.{invalidated_in, invalidated_cell}
use Rattle.be_paint.specs.Exposing.{color_below, exposed_by, is_before}
use Rattle.be_paint.specs.Reach as reach
use Rattle.be_paint.specs.Seen.{IsSeenAs, IsSite, view_on}
use Rattle.be_paint.specs.declared.reach.Reach.{Reach}
use Rattle.be_paint.specs.declared.reach.Site.{Site}
use Rattle.be_paint.proofs.CopyLemmas.{repainted}
use Rattle.be_paint.proofs.PaintLemmas.{by_cells}
use Rattle.be_paint.proofs.SeenLemmas.{seen_on, seen_at}

-- ---- numbers of views

next_before : (n : ℕ) (o : Option ℕ) → (is_before n o || is_number n o) ≡ is_before (n + 1) o
next_before n None = refl
next_before n (Some u) = grind (arith, nat_tests)

not_before : (n : ℕ) (o : Option ℕ) → is_before n o ≡ true → is_number n o ≡ false
not_before n None e = refl
not_before n (Some u) e = grind (arith, nat_tests)

-- ---- pixels that stay

-- where tests differ the rule leaves the pixel as it is
stays_beside : (rule : Rule) (at due : ℤ → ℤ → Bool) (old new : Spans)
    → ((x y : ℤ) → (at x y ≡ due x y) ⊎ ((c : Cell) → rule x y c ≡ c)) → IsPainted rule at old new
    → IsPainted rule due old new
stays_beside rule at due old new each done = record {
  region = done.region;
  cells = λ x y. done.cells x y
      ∙ alike (rule x y) (at x y) (due x y) (cell_in old x y) (each x y);
}
  where
    kept : (f : Cell → Cell) (b : Bool) (o : Option Cell) → ((c : Cell) → f c ≡ c)
        → (if b then option_map f o else o) ≡ o
    kept f true o h = sym (kept_map f h o)
    kept f false o h = refl

    alike : (f : Cell → Cell) (a b : Bool) (o : Option Cell)
        → (a ≡ b) ⊎ ((c : Cell) → f c ≡ c)
        → (if a then option_map f o else o) ≡ (if b then option_map f o else o)
    alike f a b o (inl e) = ap (λ (t : Bool). if t then option_map f o else o) e
    alike f a b o (inr h) = kept f a o h ∙ sym (kept f b o h)

-- ---- one view more

-- up to a view's number
abbrev pub exposed_to : Reach → Rect → ℕ → ℤ → ℤ → Bool
exposed_to given area n x y = rect_has area x y && is_before n (view_on given x y)

-- one that isn't exposed
pub view_passed : (given : Reach) (colors : List Color) (area : Rect) (n : ℕ) (old new : Spans)
    → color_below given.tree.now given.view colors (Some n) ≡ None
    → IsPainted (exposed_by given colors) (exposed_to given area n) old new
    → IsPainted (exposed_by given colors) (exposed_to given area (n + 1)) old new
view_passed given colors area n old new none done =
    stays_beside (exposed_by given colors) (exposed_to given area n) (exposed_to given area (n + 1))
    old new each done
  where
    each : (x y : ℤ) → (exposed_to given area n x y ≡ exposed_to given area (n + 1) x y)
        ⊎ ((c : Cell) → exposed_by given colors x y c ≡ c)
    each x y =
        let o = view_on given x y in
        elim (true_or_false (is_number n o)) [
          | inl is ↦ inr (λ c. ap (λ (p : Option Color). exposed_as p c)
              (ap (color_below given.tree.now given.view colors) (number_is n o is) ∙ none))
          | inr is ↦ inl (ap (λ b. rect_has area x y && b)
              (or_none (is_before n o) (is_number n o) is ∙ next_before n o))
        ]
      where
        or_none : (a b : Bool) → b ≡ false → a ≡ (a || b)
        or_none true b e = refl
        or_none false b e = sym e

either : (a p q : Bool) → ((a && p) || (a && q)) ≡ (a && (p || q))
either true p q = refl
either false p q = refl

-- one that is
pub view_exposed : (given : Reach) (colors : List Color) (area : Rect) (n : ℕ) (color : Color)
    (old mid new : Spans) → color_below given.tree.now given.view colors (Some n) ≡ Some color
    → IsPainted (exposed_by given colors) (exposed_to given area n) old mid
    → IsPainted (λ x y. exposed_cell color)
    (λ x y. rect_has area x y && shows given.tree.now n given.window x y) mid new
    → IsPainted (exposed_by given colors) (exposed_to given area (n + 1)) old new
view_exposed given colors area n color old mid new is done more =
    same_painted (exposed_by given colors)
    (λ x y. exposed_to given area n x y || one x y) (exposed_to given area (n + 1)) old new
    (λ x y. either (rect_has area x y) (is_before n (view_on given x y))
    (is_number n (view_on given x y))
    ∙ ap (λ b. rect_has area x y && b) (next_before n (view_on given x y)))
    (both_painted (exposed_by given colors) (exposed_to given area n) one old mid new
    (λ x y e. apart (rect_has area x y) (is_number n (view_on given x y))
    (not_before n (view_on given x y)
    (and_parts (rect_has area x y) (is_before n (view_on given x y)) e).1)) done
    (repainted (λ x y. exposed_cell color) (exposed_by given colors) one one mid new
    (λ x y has. refl) (λ x y c has e. sym (ap (λ (p : Option Color). exposed_as p c)
    (ap (color_below given.tree.now given.view colors) (number_is n (view_on given x y)
    (and_parts (rect_has area x y) (is_number n (view_on given x y)) e).1) ∙ is))) more))
  where
    one : ℤ → ℤ → Bool
    one x y = rect_has area x y && shows given.tree.now n given.window x y

    apart : (a b : Bool) → b ≡ false → (a && b) ≡ false
    apart true b e = e
    apart false b e = refl

-- all of them
pub views_exposed : (given : Reach) (colors : List Color) (area : Rect) (n : ℕ) (old new : Spans)
    → n ≡ length given.tree.now
    → IsPainted (exposed_by given colors) (exposed_to given area n) old new
    → IsPainted (exposed_by given colors) (rect_has area) old new
views_exposed given colors area n old new end done =
    stays_beside (exposed_by given colors) (exposed_to given area n) (rect_has area) old new
    (λ x y. by_view x y (view_on given x y) (λ u e. seen_there given.tree.now
    (x -ℤ given.window.x) (y -ℤ given.window.y) u e)) done
  where
    by_view : (x y : ℤ) (o : Option ℕ) → ((u : ℕ) → o ≡ Some u → u < length given.tree.now)
        → ((rect_has area x y && is_before n o) ≡ rect_has area x y)
        ⊎ ((c : Cell) → exposed_as (color_below given.tree.now given.view colors o) c ≡ c)
    by_view x y None there = inr (λ c. refl)
    by_view x y (Some u) there =
        let l = there u refl in
        let before : is_before n (Some u) ≡ true = grind (arith, nat_tests) in
        inl (ap (λ b. rect_has area x y && b) before ∙ and_true (rect_has area x y))

-- ---- the machine's rule

-- by the view at the pixel
by_view : (session : Option (List Point)) (given : Reach) (site : Site) (colors : List Color)
    (o : Option ℕ) (c : Cell) → invalidated_in (seen_on given site session) colors o c
    ≡ exposed_as (color_below given.tree.now given.view colors o) c
by_view session given site colors None c = refl
by_view session given site colors (Some u) c = by_kin (is_at_or_below given.tree.now given.view u)
  where
    by_kin : (b : Bool) → (if b then exposed_as (slice_get colors u) c else c)
        ≡ exposed_as (if b then slice_get colors u else None) c
    by_kin true = refl
    by_kin false = refl

invalidated_is : (rects : List Rect) (given : Reach) (site : Site) (seen : reach.Reach) (r : Rect)
    (colors : List Color) (old : Lookup) (x y : ℤ) (c : Cell) → IsSeenAs given seen
    → IsSite given site → region_has rects x y ≡ true
    → invalidated_cell (region_has rects) seen r colors old x y c
    ≡ (if has_moved r site.origin x y then exposed_by given colors x y c else c)
unfolding invalidated_cell
invalidated_is rects given site seen r colors old x y c stands is has =
    let u : ℤ = x -ℤ given.window.x in
    let v : ℤ = y -ℤ given.window.y in
    let base = base_of given.states.now in
    let s = seen_on given site seen.session in
    let o = view_on given x y in
    let ia = is.across in
    let id = is.down in
    let ex : u -ℤ site.view.right -ℤ base.x ≡ x -ℤ site.origin.right = omega (arith, ints, ia) in
    let ey : v -ℤ site.view.down -ℤ base.y ≡ y -ℤ site.origin.down = omega (arith, ints, id) in
    seen_at (λ (r' : reach.Reach). invalidated_cell (region_has rects) r' r colors old x y c) given
    site seen stands is
    ∙ ap (λ b. if b && rect_has r (u -ℤ site.view.right -ℤ base.x)
    (v -ℤ site.view.down -ℤ base.y) then invalidated_in s colors o c else c) has
    ∙ ap₂ (λ (p q : ℤ). if rect_has r p q then invalidated_in s colors o c else c) ex ey
    ∙ ap (λ d. if has_moved r site.origin x y then d else c)
    (by_view seen.session given site colors o c)

-- the area is the part of the frame that the rectangle has
in_part : (p r m : Bool) → p ≡ (r && m) → r ≡ true → p ≡ m
in_part p r m part frame = part ∙ ap (λ b. b && m) frame

pub area_invalidated : (given : Reach) (site : Site) (seen : reach.Reach) (r frame area : Rect)
    (colors : List Color) (old new : Spans) → IsSeenAs given seen → IsSite given site
    → IsFrame frame old.rects
    → ((x y : ℤ) → rect_has area x y ≡ (rect_has frame x y && has_moved r site.origin x y))
    → IsPainted (exposed_by given colors) (rect_has area) old new → (x y : ℤ)
    → cell_in new x y ≡ option_map (invalidated_cell (region_has old.rects) seen r colors
    (cell_in old) x y) (cell_in old x y)
area_invalidated given site seen r frame area colors old new stands is whole part done =
    by_cells (exposed_by given colors) (has_moved r site.origin)
    (invalidated_cell (region_has old.rects) seen r colors (cell_in old)) old new
    (λ x y c. invalidated_is old.rects given site seen r colors (cell_in old) x y c stands is)
    (repainted (exposed_by given colors) (exposed_by given colors) (rect_has area)
    (has_moved r site.origin) old new (λ x y has. in_part (rect_has area x y) (rect_has frame x y)
    (has_moved r site.origin x y) (part x y) (whole.holds x y has)) (λ x y c has e. refl) done)

-- where the rectangle has no pixel of the window's
pub none_invalidated : (given : Reach) (site : Site) (seen : reach.Reach) (r : Rect)
    (colors : List Color) (old : Spans) → IsSeenAs given seen → IsSite given site
    → ((x y : ℤ) → region_has old.rects x y ≡ true → has_moved r site.origin x y ≡ false)
    → (x y : ℤ) → cell_in old x y ≡ option_map (invalidated_cell (region_has old.rects) seen r
    colors (cell_in old) x y) (cell_in old x y)
none_invalidated given site seen r colors old stands is none =
    by_cells (exposed_by given colors) (λ x y. false)
    (invalidated_cell (region_has old.rects) seen r colors (cell_in old)) old old
    (λ x y c has. invalidated_is old.rects given site seen r colors (cell_in old) x y c stands is has
    ∙ ap (λ b. if b then exposed_by given colors x y c else c) (none x y has)) record {
      region = refl;
      cells = λ x y. refl;
    }
