-- Pixels copied as they are found are copied as the machine's rule says.
use Rattle.std.specs.Prelude.{if◌then◌else◌, IfNone, IfSome}
use Rattle.std.specs.Option.{option_map}
use Rattle.std.proofs.Common.{◌≡◌, ℤ, pos, ◌+ℤ◌, ◌-ℤ◌, Bool, true, false, ◌&&◌, not, List, length}
use Rattle.std.proofs.Common.{Option, Some, None, inl, inr, refl, sym, ap, ap₂, ◌∙◌, arith}
use Rattle.std.proofs.lemmas.Bool.{and_parts, true≢false}
use Rattle.std.proofs.lemmas.Int.{ints}
use Rattle.be_facts.proofs.Truths.{and_false_second, true_or_false}
use Rattle.be_color.specs.declared.colors.Color.{Color}
use Rattle.be_descent.specs.Clips.{states_allow}
use Rattle.be_descent.specs.Drawing.{is_open, may_draw}
use Rattle.be_descent.specs.Fronts.{shows, IsShown}
use Rattle.be_descent.specs.Pieces.{as_read, has_shown, is_source, nothing, put_cell}
use Rattle.be_descent.specs.Places.{has_moved, session_has, IsBeside, IsPartOf}
use Rattle.be_descent.specs.declared.nest.Limits.{Limits}
use Rattle.be_descent.specs.declared.reach.Reach as descents
use Rattle.be_descent.specs.declared.reading.Source.{Source}
use Rattle.be_descent.specs.declared.way.Way.{Way}
use Rattle.be_descent.proofs.PaintLemmas.{none_painted}
use Rattle.be_geom.specs.declared.point.Point.{Point}
use Rattle.be_geom.specs.declared.rect.Rect.{Rect}
use Rattle.be_geom.specs.Points.{between}
use Rattle.be_geom.specs.Rects.{rect_has, moved_rect}
use Rattle.be_geom.proofs.Between.{between_tells}
use Rattle.be_region.specs.Frames.{IsFrame}
use Rattle.be_region.specs.Regions.{region_has}
use Rattle.be_span.specs.Cells.{colored_as, exposed_cell}
use Rattle.be_span.specs.declared.Cell.{Cell}
use Rattle.be_span.specs.Painting.{Rule, IsPainted}
use Rattle.be_span.specs.Spans.{Spans, cell_in, pixels_of}
use Rattle.be_span.proofs.CellLemmas.{cell_none, cell_some}
use Rattle.be_state.specs.Stacks.{base_of, clip_has}
use Rattle.be_paint.specs.Copies.{copied_cell, copied_or_exposed, rect_holds}
use Rattle.be_paint.specs.Laying.{descent_of}
use Rattle.be_paint.specs.Moving.{copied_by, is_within, read_by}
use Rattle.be_paint.specs.Reach.{Reach, in_drawing, is_reached}
use Rattle.be_paint.specs.Seen.{IsSeenAs, IsSite}
use Rattle.be_paint.specs.declared.reach.Reach as given
use Rattle.be_paint.specs.declared.reach.Site.{Site}
use Rattle.be_paint.proofs.CopyLemmas.{repainted}
use Rattle.be_paint.proofs.PaintLemmas.{by_cells, reached_is}
use Rattle.be_paint.proofs.SeenLemmas.{seen_at, seen_on}

-- nothing is painted where the window owns no pixel at which the test says so
pub none_owned : (rule : Rule) (at : ℤ → ℤ → Bool) (s : Spans)
    → ((x y : ℤ) → region_has s.rects x y ≡ true → at x y ≡ false) → IsPainted rule at s s
none_owned rule at s none =
    repainted rule rule (λ x y. false) at s s (λ x y has. sym (none x y has)) (λ x y c has e. refl)
    (none_painted rule (λ x y. false) s (λ x y. refl))

-- ---- where a copy writes

joined : (a b c : Bool) → (a && (b && c)) ≡ ((a && b) && c)
joined true b c = refl
joined false b c = refl

-- a pixel in a box and not in front is one of an area at which the view shows, and the area is the
-- part of a frame that has the pixel
shown_in : (a f p h m r w : Bool) → (a && not f) ≡ (p && h) → p ≡ (r && m) → r ≡ true
    → (a && (not f && w)) ≡ (m && (h && w))
shown_in a f p h m r w shown part frame =
    joined a (not f) w
    ∙ ap (λ b. b && w) (shown ∙ ap (λ b. b && h) (part ∙ ap (λ b. b && m) frame))
    ∙ sym (joined m h w)

pub writes_at : (rects frames : List Rect) (reach : descents.Reach) (frame source part area : Rect)
    (to : Way) (limits : ℤ → ℤ → Bool) → IsFrame frame rects → IsPartOf part frame source to
    → IsShown reach.tree.now reach.view reach.window part area frames → (x y : ℤ)
    → region_has rects x y ≡ true
    → (rect_has area x y && (not (region_has frames x y) && limits x y))
    ≡ (has_moved source to x y && (shows reach.tree.now reach.view reach.window x y && limits x y))
writes_at rects frames reach frame source part area to limits whole is shown x y has =
    shown_in (rect_has area x y) (region_has frames x y) (rect_has part x y)
    (shows reach.tree.now reach.view reach.window x y) (has_moved source to x y)
    (rect_has frame x y) (limits x y) (shown.pixels x y) (is.both x y) (whole.holds x y has)

-- nowhere where the rectangle has no pixel of the frame
pub none_moved : (r m w : Bool) → (r && m) ≡ false → r ≡ true → (m && w) ≡ false
none_moved true m w e frame = ap (λ b. b && w) e
none_moved false m w e frame = absurd (true≢false (sym frame))

-- nor where the view doesn't show in the part
pub none_shown : (p r m h w : Bool) → (p && h) ≡ false → p ≡ (r && m) → r ≡ true
    → (m && (h && w)) ≡ false
none_shown p r m h w e part frame =
    joined m h w ∙ ap (λ b. b && w) (sym (ap (λ b. b && h) (part ∙ ap (λ b. b && m) frame)) ∙ e)

-- ---- what it reads

-- the pixels that are read are those at which the view shows, as far as a frame has them
abbrev pub ReadsShown : descents.Reach → Source → Rect → Rect → Type 0
ReadsShown reach source frame area =
    (x y : ℤ) → rect_has frame x y ≡ true
    → rect_has area (x +ℤ source.way.right) (y +ℤ source.way.down) ≡ true
    → is_source source x y ≡ shows reach.tree.now reach.view reach.window x y

read_of : (b : Bool) (color : Color) (o : Option Cell) (k c : Cell) → o ≡ Some k
    → put_cell color (Some (if b then as_read o else nothing)) c
    ≡ (if b then colored_as o c else exposed_cell color c)
read_of true color o k c e =
    ap (λ (o : Option Cell). put_cell color (Some (as_read o)) c) e
    ∙ sym (ap (λ (o : Option Cell). colored_as o c) e)
read_of false color o k c e = refl

read_none : (b : Bool) (color : Color) (o : Option Cell) (c : Cell) → o ≡ None
    → put_cell color (Some (if b then as_read o else nothing)) c ≡ exposed_cell color c
read_none true color o c e = ap (λ (o : Option Cell). put_cell color (Some (as_read o)) c) e
read_none false color o c e = refl

pub reads_at : (old : Spans) (reach : descents.Reach) (source : Source) (frame area : Rect)
    (color : Color) (x y : ℤ) (c : Cell) → length old.cells ≡ pixels_of old.rects
    → IsFrame frame old.rects → ReadsShown reach source frame area → rect_has area x y ≡ true
    → read_by old source color x y c ≡ copied_by old reach source.way color x y c
reads_at old reach source frame area color x y c long whole reads has =
    let u : ℤ = x -ℤ source.way.right in
    let v : ℤ = y -ℤ source.way.down in
    let o = cell_in old u v in
    let s = shows reach.tree.now reach.view reach.window u v in
    elim (true_or_false (region_has old.rects u v)) [
      | inl own ↦
          let cell = cell_some old u v long own in
          let ex : u +ℤ source.way.right ≡ x = omega (arith, ints) in
          let ey : v +ℤ source.way.down ≡ y = omega (arith, ints) in
          let same = reads u v (whole.holds u v own) (ap₂ (rect_has area) ex ey ∙ has) in
          ap (λ b. put_cell color (Some (if b then as_read o else nothing)) c) same
          ∙ read_of s color o cell.0 c cell.1
          ∙ sym (ap (λ b. if b && s then colored_as o c else exposed_cell color c) own)
      | inr out ↦
          read_none (is_source source u v) color o c (cell_none old u v out)
          ∙ sym (ap (λ b. if b && s then colored_as o c else exposed_cell color c) out)
    ]

-- the part of a frame that comes back from an area has a pixel from which the way goes to the area
comes_back : (frame area : Rect) (way back : Way) (x y : ℤ) → back.right ≡ pos 0 -ℤ way.right
    → back.down ≡ pos 0 -ℤ way.down → rect_has frame x y ≡ true
    → rect_has area (x +ℤ way.right) (y +ℤ way.down) ≡ true
    → (rect_has frame x y && has_moved area back x y) ≡ true
comes_back frame area way back x y across down inside to =
    let ex : x -ℤ back.right ≡ x +ℤ way.right = omega (arith, ints, across) in
    let ey : y -ℤ back.down ≡ y +ℤ way.down = omega (arith, ints, down) in
    ap₂ (λ a b. a && b) inside (ap₂ (rect_has area) ex ey ∙ to)

-- there is one
pub some_comes : (frame area : Rect) (way back : Way) (x y : ℤ) → back.right ≡ pos 0 -ℤ way.right
    → back.down ≡ pos 0 -ℤ way.down → IsBeside frame area back → rect_has frame x y ≡ true
    → rect_has area (x +ℤ way.right) (y +ℤ way.down) ≡ true → ⊥
some_comes frame area way back x y across down beside inside to =
    true≢false (sym (comes_back frame area way back x y across down inside to) ∙ beside x y)

-- where the view shows in it
pub shows_found : (reach : descents.Reach) (frames : List Rect) (frame area part : Rect)
    (way back : Way) (found : Option Rect) → back.right ≡ pos 0 -ℤ way.right
    → back.down ≡ pos 0 -ℤ way.down → IsPartOf part frame area back
    → IfNone found ((x y : ℤ)
    → (rect_has part x y && shows reach.tree.now reach.view reach.window x y) ≡ false)
    → IfSome found
    (λ shown. IsShown reach.tree.now reach.view reach.window part shown frames) → (x y : ℤ)
    → rect_has frame x y ≡ true → rect_has area (x +ℤ way.right) (y +ℤ way.down) ≡ true
    → (has_shown found x y && not (region_has frames x y))
    ≡ shows reach.tree.now reach.view reach.window x y
shows_found reach frames frame area part way back (Some shown) across down of none some x y inside
    to =
    some.pixels x y ∙ ap (λ b. b && shows reach.tree.now reach.view reach.window x y)
    (of.both x y ∙ comes_back frame area way back x y across down inside to)
shows_found reach frames frame area part way back None across down of none some x y inside to =
    sym (and_false_second (rect_has part x y) (shows reach.tree.now reach.view reach.window x y)
    (none x y) (of.both x y ∙ comes_back frame area way back x y across down inside to))

-- ---- a whole copy

-- they are those of the reach, but for the frames
pub record AreLimitsOf (limits : Limits) (reach : descents.Reach) : Type 0 where
  pub states : limits.states.now ≡ reach.states.now
  pub corner : limits.corner ≡ reach.corner
  pub session : limits.session ≡ reach.session
  pub across : limits.window.right ≡ reach.window.x
  pub down : limits.window.down ≡ reach.window.y

pub moved_painted : (old new : Spans) (reach : descents.Reach) (source : Source) (limits : Limits)
    (frame rect part area : Rect) (to : Way) (color : Color) → length old.cells ≡ pixels_of old.rects
    → IsFrame frame old.rects → IsPartOf part frame rect to
    → IsShown reach.tree.now reach.view reach.window part area limits.frames.now
    → AreLimitsOf limits reach → ReadsShown reach source frame area
    → IsPainted (read_by old source color) (λ x y. rect_has area x y && is_within limits x y) old new
    → IsPainted (copied_by old reach source.way color)
    (λ x y. has_moved rect to x y && may_draw reach x y) old new
moved_painted old new reach source limits frame rect part area to color long whole of shown is
    reads done =
    repainted (read_by old source color) (copied_by old reach source.way color)
    (λ x y. rect_has area x y && is_within limits x y)
    (λ x y. has_moved rect to x y && may_draw reach x y) old new
    (λ x y has. ap (λ b. rect_has area x y && (not (region_has limits.frames.now x y) && b))
    (same_limits x y)
    ∙ writes_at old.rects limits.frames.now reach frame rect part area to
    (λ x y. states_allow reach.states.now reach.corner x y && is_open reach x y) whole of shown x y
    has)
    (λ x y c has e. reads_at old reach source frame area color x y c long whole reads
    (and_parts (rect_has area x y) (is_within limits x y) e).0) done
  where
    same_limits : (x y : ℤ) → (states_allow limits.states.now limits.corner x y
        && session_has (option_map (λ r. r.now) limits.session) limits.window x y)
        ≡ (states_allow reach.states.now reach.corner x y && is_open reach x y)
    same_limits x y =
        ap₂ (λ a b. a && b)
        (ap₂ (λ s w. states_allow s w x y) is.states is.corner)
        (ap (λ r. session_has (option_map (λ s. s.now) r) limits.window x y) is.session
        ∙ ap₂ (λ (u v : ℤ). clip_has (option_map (λ r. r.now) reach.session) (x -ℤ u) (y -ℤ v))
        is.across is.down)

-- ---- the machine's rule

-- where and how far the pixels of a rectangle are copied
pub record IsMoved (site : Site) (source : Rect) (target : Point) (way to : Way) : Type 0 where
  pub across : way.right ≡ target.x -ℤ source.left
  pub down : way.down ≡ target.y -ℤ source.top
  pub right : to.right ≡ site.origin.right +ℤ way.right
  pub below : to.down ≡ site.origin.down +ℤ way.down

between_moved : (low z high d u : ℤ) → u ≡ z -ℤ d
    → between (low +ℤ d) z (high +ℤ d) ≡ between low u high
between_moved low z high d u e = grind (arith, ints, between_tells)

has_there : (r : Rect) (dx dy x y u v : ℤ) → u ≡ x -ℤ dx → v ≡ y -ℤ dy
    → rect_has (moved_rect r dx dy) x y ≡ rect_has r u v
has_there r dx dy x y u v e f =
    ap₂ (λ a b. a && b) (between_moved r.left x r.right dx u e)
    (between_moved r.top y r.bottom dy v f)

turned : (a b : Bool) → (a && b) ≡ (b && a)
turned true true = refl
turned true false = refl
turned false true = refl
turned false false = refl

copied_is : (old : Spans) (g : given.Reach) (site : Site) (seen : Reach) (source : Rect)
    (target : Point) (way to : Way) (color : Color) (x y : ℤ) (c : Cell) → IsSeenAs g seen
    → IsSite g site → IsMoved site source target way to → region_has old.rects x y ≡ true
    → copied_cell (region_has old.rects) seen source target color (cell_in old) x y c
    ≡ (if has_moved source to x y && may_draw (descent_of g site) x y
    then copied_by old (descent_of g site) way color x y c else c)
unfolding copied_cell
copied_is old g site seen source target way to color x y c stands is moved has =
    let owned = region_has old.rects in
    let s = seen_on g site seen.session in
    let p = in_drawing s x y in
    let reach = descent_of g site in
    let base = base_of g.states.now in
    let ia = is.across in
    let id = is.down in
    let mr = moved.right in
    let mb = moved.below in
    let ex : x -ℤ to.right ≡ p.x -ℤ way.right = omega (arith, ints, ia, mr) in
    let ey : y -ℤ to.down ≡ p.y -ℤ way.down = omega (arith, ints, id, mb) in
    seen_at (λ (r : Reach). copied_cell owned r source target color (cell_in old) x y c) g site seen
    stands is
    ∙ ap₂ (λ (a b : ℤ). if is_reached owned s x y && rect_holds (moved_rect source a b) p
    then copied_or_exposed owned s color (cell_in old) (x -ℤ a) (y -ℤ b) c else c)
    (sym moved.across) (sym moved.down)
    ∙ ap (λ b. if b && rect_has (moved_rect source way.right way.down) p.x p.y
    then copied_by old reach way color x y c else c)
    (reached_is old.rects g site seen.session x y stands.session has)
    ∙ ap (λ b. if may_draw reach x y && b then copied_by old reach way color x y c else c)
    (has_there source way.right way.down p.x p.y (x -ℤ to.right) (y -ℤ to.down) ex ey)
    ∙ ap (λ b. if b then copied_by old reach way color x y c else c)
    (turned (may_draw reach x y) (has_moved source to x y))

pub moved_copied : (g : given.Reach) (site : Site) (seen : Reach) (source : Rect) (target : Point)
    (way to : Way) (color : Color) (old new : Spans) → IsSeenAs g seen → IsSite g site
    → IsMoved site source target way to
    → IsPainted (copied_by old (descent_of g site) way color)
    (λ x y. has_moved source to x y && may_draw (descent_of g site) x y) old new → (x y : ℤ)
    → cell_in new x y ≡ option_map (copied_cell (region_has old.rects) seen source target color
    (cell_in old) x y) (cell_in old x y)
moved_copied g site seen source target way to color old new stands is moved done =
    by_cells (copied_by old (descent_of g site) way color)
    (λ x y. has_moved source to x y && may_draw (descent_of g site) x y)
    (copied_cell (region_has old.rects) seen source target color (cell_in old)) old new
    (λ x y c. copied_is old g site seen source target way to color x y c stands is moved) done
