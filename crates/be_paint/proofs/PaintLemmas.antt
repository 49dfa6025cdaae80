-- What a descent paints is what the machine's rule makes of it.
use Rattle.std.specs.Prelude.{if◌then◌else◌}
use Rattle.std.specs.Option.{option_map}
use Rattle.std.proofs.Common.{◌≡◌, ℕ, ℤ, pos, ◌+ℤ◌, ◌-ℤ◌, Bool, true, false, ◌&&◌, List, Option, Some, None}
use Rattle.std.proofs.Common.{inl, inr, refl, sym, ap, ap₂, ◌∙◌, arith}
use Rattle.std.proofs.lemmas.Int.{ints, by_lt_z}
use Rattle.std.proofs.lemmas.Bool.{true≢false}
use Rattle.std.proofs.lemmas.Option.{none-some}
use Rattle.be_facts.proofs.Truths.{true_or_false}
use Rattle.be_bitmap.specs.Pictures.{Picture, bitmap_pixel}
use Rattle.be_color.specs.declared.colors.Color.{Color}
use Rattle.be_color.specs.declared.patterns.Pattern.{Pattern}
use Rattle.be_descent.specs.declared.way.Way.{Way}
use Rattle.be_descent.specs.Drawing.{may_draw}
use Rattle.be_descent.specs.Fronts.{shows}
use Rattle.be_descent.specs.Inks.{frame_of, picture_color, shape_has}
use Rattle.be_descent.specs.Marks.{LeavesMarks}
use Rattle.be_span.specs.Painting.{Rule, IsPainted}
use Rattle.be_descent.specs.Places.{has_moved}
use Rattle.be_geom.specs.declared.point.Point.{Point}
use Rattle.be_geom.specs.declared.rect.Rect.{Rect}
use Rattle.be_geom.specs.Places.{at_pixel}
use Rattle.be_geom.specs.Rects.{rect_has}
use Rattle.be_region.specs.Regions.{region_has}
use Rattle.be_region.specs.Sessions.{SameSession}
use Rattle.be_shape.specs.Rasters.{raster_has}
use Rattle.be_shape.specs.declared.Raster.{Raster}
use Rattle.be_span.specs.Cells.{Lookup}
use Rattle.be_span.specs.declared.Cell.{Cell}
use Rattle.be_span.specs.Slices.{color_or_clear, painted, pattern_color}
use Rattle.be_span.specs.Spans.{Spans, cell_in}
use Rattle.be_span.proofs.CellLemmas.{cell_none}
use Rattle.be_span.proofs.GridLemmas.{has_from}
use Rattle.be_state.specs.declared.State.{State}
use Rattle.be_state.specs.Stacks.{allows, base_of}
use Rattle.be_bitmap.proofs.PixelLemmas.{pixel_over, pixel_before}
use Rattle.be_paint.specs.Inks.{Ink, shape, text, image, source_at, laid_on_cell, painted_cell}
use Rattle.be_paint.specs.Inks.{text_has}
use Rattle.be_paint.specs.Laying.{brush_of, descent_of, laid, source_on}
use Rattle.be_paint.specs.Reach.{Reach, is_reached, session_has}
use Rattle.be_paint.specs.Seen.{IsSeenAs, IsSite}
use Rattle.be_paint.specs.declared.reach.Reach as given
use Rattle.be_paint.specs.declared.reach.Site.{Site}
use Rattle.be_paint.proofs.PictureLemmas.{below_of, right_of}
use Rattle.be_paint.proofs.SeenLemmas.{seen_at, seen_on, session_same}

-- ---- where the view may draw

in_order : (a b c d : Bool) → a ≡ true → (a && b && c && d) ≡ (b && (c && d))
in_order true true c d e = refl
in_order true false c d e = refl
in_order false b c d e = absurd (true≢false (sym e))

pub reached_is : (rects : List Rect) (g : given.Reach) (site : Site) (session : Option (List Point))
    (x y : ℤ) → SameSession (option_map (λ r. r.now) g.session) session
    → region_has rects x y ≡ true
    → is_reached (region_has rects) (seen_on g site session) x y ≡ may_draw (descent_of g site) x y
unfolding is_reached
reached_is rects g site session x y same has =
    let u : ℤ = x -ℤ g.window.x in
    let v : ℤ = y -ℤ g.window.y in
    let o = option_map (λ r. r.now) g.session in
    let ex : u -ℤ site.view.right ≡ x -ℤ (g.window.x +ℤ site.view.right) = omega (arith, ints) in
    let ey : v -ℤ site.view.down ≡ y -ℤ (g.window.y +ℤ site.view.down) = omega (arith, ints) in
    let s = shows g.tree.now g.view g.window x y in
    in_order (region_has rects x y) s (allows g.states.now (u -ℤ site.view.right) (v -ℤ site.view.down))
    (session_has session (at_pixel u v)) has
    ∙ ap (λ b. s && (b && session_has session (at_pixel u v))) (ap₂ (allows g.states.now) ex ey)
    ∙ ap (λ b. s && (allows g.states.now (x -ℤ (g.window.x +ℤ site.view.right))
    (y -ℤ (g.window.y +ℤ site.view.down)) && b))
    (sym (session_same o session same u v))

-- ---- what is laid

painted_is : (rects : List Rect) (g : given.Reach) (site : Site) (seen : Reach) (ink : Ink)
    (old : Lookup) (x y : ℤ) (c : Cell) → IsSeenAs g seen → IsSite g site
    → region_has rects x y ≡ true → painted_cell (region_has rects) seen ink old x y c
    ≡ (if may_draw (descent_of g site) x y
    then laid ink g.states.now.top.state g.window site.origin x y c else c)
unfolding painted_cell
painted_is rects g site seen ink old x y c stands is has =
    let s = g.states.now.top.state in
    let way = site.origin in
    let u : ℤ = x -ℤ g.window.x in
    let v : ℤ = y -ℤ g.window.y in
    let base = base_of g.states.now in
    let ia = is.across in
    let id = is.down in
    let ex : u -ℤ site.view.right -ℤ base.x ≡ x -ℤ way.right = omega (arith, ints, ia) in
    let ey : v -ℤ site.view.down -ℤ base.y ≡ y -ℤ way.down = omega (arith, ints, id) in
    seen_at (λ (r : Reach). painted_cell (region_has rects) r ink old x y c) g site seen stands is
    ∙ ap (λ b. if b then laid_on_cell s c (source_at ink s (at_pixel u v)
    (at_pixel (u -ℤ site.view.right -ℤ base.x) (v -ℤ site.view.down -ℤ base.y))) else c)
    (reached_is rects g site seen.session x y stands.session has)
    ∙ ap₂ (λ (p q : ℤ). if may_draw (descent_of g site) x y
    then laid_on_cell s c (source_at ink s (at_pixel u v) (at_pixel p q)) else c) ex ey

-- ---- cells

-- a pixel with a cell is in the region
pub has_region : (s : Spans) (x y : ℤ) (c : Cell) → cell_in s x y ≡ Some c
    → region_has s.rects x y ≡ true
has_region s x y c e =
    elim (true_or_false (region_has s.rects x y)) [
      | inl has ↦ has
      | inr out ↦ absurd (none-some c (sym (cell_none s x y out) ∙ e))
    ]

one_cell : (l p : Cell → Cell) (m : Bool) (old : Option Cell)
    → ((c : Cell) → old ≡ Some c → p c ≡ (if m then l c else c))
    → (if m then option_map l old else old) ≡ option_map p old
one_cell l p true None due = refl
one_cell l p false None due = refl
one_cell l p true (Some c) due = ap Some (sym (due c refl))
one_cell l p false (Some c) due = ap Some (sym (due c refl))

-- what is painted by a rule is what the machine's rule makes of the pixels
pub by_cells : (rule : Rule) (at : ℤ → ℤ → Bool) (p : ℤ → ℤ → Cell → Cell) (old new : Spans)
    → ((x y : ℤ) (c : Cell) → region_has old.rects x y ≡ true
    → p x y c ≡ (if at x y then rule x y c else c))
    → IsPainted rule at old new → (x y : ℤ)
    → cell_in new x y ≡ option_map (p x y) (cell_in old x y)
by_cells rule at p old new due done x y =
    done.cells x y
    ∙ one_cell (rule x y) (p x y) (at x y) (cell_in old x y)
    (λ c e. due x y c (has_region old x y c e))

pub laid_painted : (g : given.Reach) (site : Site) (seen : Reach) (ink : Ink) (old new : Spans)
    → IsSeenAs g seen → IsSite g site
    → IsPainted (laid ink g.states.now.top.state g.window site.origin)
    (may_draw (descent_of g site)) old new → (x y : ℤ) → cell_in new x y
    ≡ option_map (painted_cell (region_has old.rects) seen ink (cell_in old) x y) (cell_in old x y)
laid_painted g site seen ink old new stands is done =
    by_cells (laid ink g.states.now.top.state g.window site.origin) (may_draw (descent_of g site))
    (painted_cell (region_has old.rects) seen ink (cell_in old)) old new
    (λ x y c. painted_is old.rects g site seen ink (cell_in old) x y c stands is) done

pub mark_left : (s : State) (c : Cell) (o : Option Color) → (laid_on_cell s c o).dirty ≡ c.dirty
mark_left s c None = refl
mark_left s c (Some color) = refl

-- it leaves all marks
pub laid_marks : (ink : Ink) (s : State) (window : Point) (way : Way)
    → LeavesMarks (laid ink s window way)
laid_marks ink s window way x y c = mark_left s c (source_on ink s window way x y)

-- ---- inks by a rule of their own

-- an ink is where a test says so, with the colours of a rule, and elsewhere it lays nothing
pub record IsInk (ink : Ink) (s : State) (window : Point) (way : Way) (rule : Rule)
    (there : ℤ → ℤ → Bool) : Type 0 where
  pub here : (x y : ℤ) (c : Cell) → there x y ≡ true → rule x y c ≡ laid ink s window way x y c
  pub none : (x y : ℤ) → there x y ≡ false → source_on ink s window way x y ≡ None

ink_cell : (f l : Cell → Cell) (t m : Bool) (old : Option Cell)
    → ((c : Cell) → t ≡ true → f c ≡ l c) → ((c : Cell) → t ≡ false → l c ≡ c)
    → (if t && m then option_map f old else old) ≡ (if m then option_map l old else old)
ink_cell f l true true None here there = refl
ink_cell f l true true (Some c) here there = ap Some (here c refl)
ink_cell f l true false old here there = refl
ink_cell f l false true None here there = refl
ink_cell f l false true (Some c) here there = ap Some (sym (there c refl))
ink_cell f l false false old here there = refl

pub ink_laid : (ink : Ink) (s : State) (window : Point) (way : Way) (rule : Rule)
    (there may : ℤ → ℤ → Bool) (old new : Spans) → IsInk ink s window way rule there
    → IsPainted rule (λ x y. there x y && may x y) old new
    → IsPainted (laid ink s window way) may old new
ink_laid ink s window way rule there may old new lays done = record {
  region = done.region;
  cells = λ x y. done.cells x y
      ∙ ink_cell (rule x y) (laid ink s window way x y) (there x y) (may x y) (cell_in old x y)
      (λ c e. lays.here x y c e) (λ c e. ap (laid_on_cell s c) (lays.none x y e));
}

-- ---- the inks

shape_there : (raster : Raster) (pattern : Pattern) (s : State) (u v x y : ℤ)
    → raster_has raster x y ≡ true → source_at (shape raster pattern) s (at_pixel u v) (at_pixel x y)
    ≡ Some (pattern_color (brush_of s) pattern.rows u v)
unfolding source_at
shape_there raster pattern s u v x y e =
    ap (λ b. if b then Some (pattern_color (brush_of s) pattern.rows u v) else None) e

shape_none : (raster : Raster) (pattern : Pattern) (s : State) (u v x y : ℤ)
    → raster_has raster x y ≡ false
    → source_at (shape raster pattern) s (at_pixel u v) (at_pixel x y) ≡ None
unfolding source_at
shape_none raster pattern s u v x y e =
    ap (λ b. if b then Some (pattern_color (brush_of s) pattern.rows u v) else None) e

pub is_shape : (raster : Raster) (pattern : Pattern) (s : State) (window : Point) (way : Way)
    → IsInk (shape raster pattern) s window way
    (λ x y. painted (brush_of s) (pattern_color (brush_of s) pattern.rows (x -ℤ window.x)
    (y -ℤ window.y))) (shape_has raster way)
is_shape raster pattern s window way = record {
  here = λ x y c e. ap (laid_on_cell s c) (sym (shape_there raster pattern s (x -ℤ window.x)
      (y -ℤ window.y) (x -ℤ way.right) (y -ℤ way.down) e));
  none = λ x y e. shape_none raster pattern s (x -ℤ window.x) (y -ℤ window.y) (x -ℤ way.right)
      (y -ℤ way.down) e;
}

text_source : (codes : List ℕ) (s : State) (u v x y : ℤ)
    → source_at (text codes) s (at_pixel u v) (at_pixel x y)
    ≡ (if text_has codes s.pen.x s.pen.y x y then Some s.high else None)
unfolding source_at
text_source codes s u v x y = refl

pub is_text : (codes : List ℕ) (s : State) (window : Point) (way : Way)
    → IsInk (text codes) s window way (λ x y. painted (brush_of s) s.high)
    (λ x y. text_has codes s.pen.x s.pen.y (x -ℤ way.right) (y -ℤ way.down))
is_text codes s window way = record {
  here = λ x y c e. ap (laid_on_cell s c)
      (sym (text_source codes s (x -ℤ window.x) (y -ℤ window.y) (x -ℤ way.right) (y -ℤ way.down)
      ∙ ap (λ b. if b then Some s.high else None) e));
  none = λ x y e.
      text_source codes s (x -ℤ window.x) (y -ℤ window.y) (x -ℤ way.right) (y -ℤ way.down)
      ∙ ap (λ b. if b then Some s.high else None) e;
}

image_source : (picture : Picture) (corner : Point) (s : State) (u v x y : ℤ)
    → source_at (image picture corner) s (at_pixel u v) (at_pixel x y)
    ≡ bitmap_pixel picture (x -ℤ corner.x) (y -ℤ corner.y)
unfolding source_at
image_source picture corner s u v x y = refl

color_laid : (s : State) (o : Option Color) (c : Cell)
    → painted (brush_of s) (color_or_clear o) c ≡ laid_on_cell s c o
color_laid s (Some color) c = refl
color_laid s None c = refl

-- outside its frame a picture has no pixel
none_outside : (picture : Picture) (u v : ℤ) → rect_has (frame_of picture) u v ≡ false
    → bitmap_pixel picture u v ≡ None
none_outside picture u v out =
    by_lt_z u (pos 0) (λ h. pixel_before picture u v h)
    (λ from. by_lt_z (pos picture.width -ℤ pos 1) u
    (λ h. right_of picture u v (omega (arith, ints, h)))
    (λ to. by_lt_z v (pos 0) (λ h. pixel_over picture u v h)
    (λ down. by_lt_z (pos picture.height -ℤ pos 1) v
    (λ h. below_of picture u v (omega (arith, ints, h)))
    (λ up. absurd (true≢false (sym (has_from (frame_of picture) u v record {
      left = from;
      right = to;
      top = down;
      bottom = up;
    }) ∙ out))))))

pub is_image : (picture : Picture) (corner : Point) (s : State) (window : Point) (way at : Way)
    → at.right ≡ way.right +ℤ corner.x → at.down ≡ way.down +ℤ corner.y
    → IsInk (image picture corner) s window way
    (λ x y. painted (brush_of s) (picture_color picture at x y)) (has_moved (frame_of picture) at)
is_image picture corner s window way at across down = record {
  here = λ x y c e.
      color_laid s (bitmap_pixel picture (x -ℤ at.right) (y -ℤ at.down)) c
      ∙ ap (laid_on_cell s c) (sym (where_it_is x y));
  none = λ x y e. where_it_is x y ∙ none_outside picture (x -ℤ at.right) (y -ℤ at.down) e;
}
  where
    where_it_is : (x y : ℤ) → source_on (image picture corner) s window way x y
        ≡ bitmap_pixel picture (x -ℤ at.right) (y -ℤ at.down)
    where_it_is x y =
        let ex : x -ℤ way.right -ℤ corner.x ≡ x -ℤ at.right = omega (arith, ints, across) in
        let ey : y -ℤ way.down -ℤ corner.y ≡ y -ℤ at.down = omega (arith, ints, down) in
        image_source picture corner s (x -ℤ window.x) (y -ℤ window.y) (x -ℤ way.right)
        (y -ℤ way.down) ∙ ap₂ (bitmap_pixel picture) ex ey

-- ---- rules that agree

pub same_mapped : (f g : Cell → Cell) (old : Option Cell) → ((c : Cell) → f c ≡ g c)
    → option_map f old ≡ option_map g old
same_mapped f g None same = refl
same_mapped f g (Some c) same = ap Some (same c)

pub rule_painted : (p q : Rule) (at : ℤ → ℤ → Bool) (old new : Spans)
    → ((x y : ℤ) (c : Cell) → p x y c ≡ q x y c) → IsPainted p at old new → IsPainted q at old new
rule_painted p q at old new same done = record {
  region = done.region;
  cells = λ x y. done.cells x y
      ∙ ap (λ (o : Option Cell). if at x y then o else cell_in old x y)
      (same_mapped (p x y) (q x y) (cell_in old x y) (same x y));
}

pub and_true : (a b : Bool) → (a && (b && true)) ≡ (a && b)
and_true true true = refl
and_true true false = refl
and_true false b = refl
