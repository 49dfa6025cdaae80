-- The four sides of a rectangle as lines, and the columns of a row that they have.
use Rattle.std.proofs.Common.{◌≡◌, ℕ, ℤ, pos, Bool, true, false, ◌&&◌, ◌||◌, ◌-◌, ◌/◌, ◌+ℤ◌, ◌-ℤ◌, ◌≤ℤ◌, ◌<ℤ◌, sym, ◌∙◌, refl, SFits, w32, arith, rules}
use lib.Signed.{lt_z, le_z}
use Rattle.std.specs.Int.{int_min, int_max}
use Rattle.std.proofs.lemmas.Int.{ints, clamps, by_lt_z}
use Rattle.std.proofs.lemmas.Bool.{or_right, or_left, and_from}
use Rattle.be_facts.proofs.Truths.{same_truth, and_first, and_second}
use Rattle.be_geom.specs.declared.point.Point.{Point}
use Rattle.be_geom.specs.declared.rect.Rect.{Rect}
use Rattle.be_geom.specs.Places.{at_pixel}
use Rattle.be_geom.proofs.Between.{is_between}
use Rattle.be_shape.specs.Rasters.{steps_of, line_has, frame_has, is_not_empty}
use Rattle.be_shape.specs.declared.row.Span.{Span}
use Rattle.be_shape.specs.Rows.{IsSpan, swept_has}
use Rattle.be_shape.proofs.BetweenLemmas.{not_below, not_above}
use Rattle.be_shape.proofs.LineLemmas.{covered_of_line, line_of_covered, near_across, near_down, covers_swept, swept_covers, covers_still}

-- ---- sides

in_box : (from to : Point) (size : ℕ) (x y : ℤ) → line_has from to size x y ≡ true → (swept_has size from.x to.x x && swept_has size from.y to.y y) ≡ true
in_box from to size x y h =
    let point = covered_of_line from to size x y h in
    and_from (swept_has size from.x to.x x) (swept_has size from.y to.y y) (covers_swept size point.0 (steps_of from to) from.x to.x x (near_across from to) point.1 point.2) (covers_swept size point.0 (steps_of from to) from.y to.y y (near_down from to) point.1 point.3)

pub across_has : (l r t : ℤ) (size : ℕ) (x y : ℤ) → line_has (at_pixel l t) (at_pixel r t) size x y ≡ (swept_has size l r x && swept_has size t t y)
across_has l r t size x y =
    let from : Point = at_pixel l t in
    let to : Point = at_pixel r t in
    same_truth (line_has from to size x y) (swept_has size l r x && swept_has size t t y)
    (λ has. in_box from to size x y has)
    (λ h.
    let point = swept_covers size (steps_of from to) l r x (near_across from to) (and_first (swept_has size l r x) (swept_has size t t y) h) in
    line_of_covered from to size x y (point.0, point.1, point.2, covers_still size point.0 (steps_of from to) t y point.1 (and_second (swept_has size l r x) (swept_has size t t y) h)))

pub down_has : (l t b : ℤ) (size : ℕ) (x y : ℤ) → line_has (at_pixel l t) (at_pixel l b) size x y ≡ (swept_has size l l x && swept_has size t b y)
down_has l t b size x y =
    let from : Point = at_pixel l t in
    let to : Point = at_pixel l b in
    same_truth (line_has from to size x y) (swept_has size l l x && swept_has size t b y)
    (λ has. in_box from to size x y has)
    (λ h.
    let point = swept_covers size (steps_of from to) t b y (near_down from to) (and_second (swept_has size l l x) (swept_has size t b y) h) in
    line_of_covered from to size x y (point.0, point.1, covers_still size point.0 (steps_of from to) l x point.1 (and_first (swept_has size l l x) (swept_has size t b y) h), point.2))

not_empty : (r : Rect) → r.left ≤ℤ r.right → r.top ≤ℤ r.bottom → is_not_empty r ≡ true
not_empty r across down = grind (arith, ints)

-- ---- the four sides, by what the pen covers across and down

abbrev pub sides_have : Bool → Bool → Bool → Bool → Bool → Bool → Bool
sides_have whole left right rows top bottom = whole && top || right && rows || whole && bottom || left && rows

frame_is : (r : Rect) (size : ℕ) (x y : ℤ) → r.left ≤ℤ r.right → r.top ≤ℤ r.bottom → frame_has r size x y ≡ sides_have (swept_has size r.left r.right x) (swept_has size r.left r.left x) (swept_has size r.right r.right x) (swept_has size r.top r.bottom y) (swept_has size r.top r.top y) (swept_has size r.bottom r.bottom y)
frame_is r size x y across down =
    rw (not_empty r across down, across_has r.left r.right r.top size x y, down_has r.right r.top r.bottom size x y, across_has r.left r.right r.bottom size x y, down_has r.left r.top r.bottom size x y) refl

-- ---- each kind of row

-- what the pen covers at one end it covers along the way
end_within : (size : ℕ) (a b z : ℤ) → a ≤ℤ b → swept_has size a a z ≡ true → swept_has size a b z ≡ true
end_within size a b z order h =
    let low = not_below (int_min a a -ℤ pos ((size - 1) / 2)) z (int_max a a +ℤ pos (size - 1 - (size - 1) / 2)) h in
    let high = not_above (int_min a a -ℤ pos ((size - 1) / 2)) z (int_max a a +ℤ pos (size - 1 - (size - 1) / 2)) h in
    is_between _ z _ (omega (arith, ints, clamps)) (omega (arith, ints, clamps))

other_within : (size : ℕ) (a b z : ℤ) → a ≤ℤ b → swept_has size b b z ≡ true → swept_has size a b z ≡ true
other_within size a b z order h =
    let low = not_below (int_min b b -ℤ pos ((size - 1) / 2)) z (int_max b b +ℤ pos (size - 1 - (size - 1) / 2)) h in
    let high = not_above (int_min b b -ℤ pos ((size - 1) / 2)) z (int_max b b +ℤ pos (size - 1 - (size - 1) / 2)) h in
    is_between _ z _ (omega (arith, ints, clamps)) (omega (arith, ints, clamps))

whole_row : (w l r v t b : Bool) → (t || b) ≡ true → (t ≡ true → v ≡ true) → (b ≡ true → v ≡ true) → (l ≡ true → w ≡ true) → (r ≡ true → w ≡ true) → w ≡ sides_have w l r v t b
whole_row w l r v t b e f g h k = grind arith

no_row : (w l r v t b : Bool) → v ≡ false → (t ≡ true → v ≡ true) → (b ≡ true → v ≡ true) → false ≡ sides_have w l r v t b
no_row w l r v t b e f g = grind arith

two_runs : (w l r v t b : Bool) → v ≡ true → t ≡ false → b ≡ false → (l || r) ≡ sides_have w l r v t b
two_runs w l r v t b e f g = grind arith

in_some_row : (w l r v t b : Bool) → sides_have w l r v t b ≡ true → (t ≡ true → v ≡ true) → (b ≡ true → v ≡ true) → v ≡ true
in_some_row w l r v t b h f g = grind arith

left_row : (w l r v t b : Bool) → l ≡ true → v ≡ true → sides_have w l r v t b ≡ true
left_row w l r v t b e f = grind arith

-- ---- the rows of a frame

pub frame_outside : (rect : Rect) (size : ℕ) (y : ℤ) → rect.left ≤ℤ rect.right → rect.top ≤ℤ rect.bottom → swept_has size rect.top rect.bottom y ≡ false → (x : ℤ) → false ≡ frame_has rect size x y
frame_outside rect size y across down out x =
    no_row _ _ _ _ _ _ out (end_within size rect.top rect.bottom y down) (other_within size rect.top rect.bottom y down) ∙ sym (frame_is rect size x y across down)

pub frame_across : (rect : Rect) (size : ℕ) (y : ℤ) → rect.left ≤ℤ rect.right → rect.top ≤ℤ rect.bottom → (swept_has size rect.top rect.top y || swept_has size rect.bottom rect.bottom y) ≡ true → (x : ℤ) → swept_has size rect.left rect.right x ≡ frame_has rect size x y
frame_across rect size y across down side x =
    whole_row _ _ _ _ _ _ side (end_within size rect.top rect.bottom y down) (other_within size rect.top rect.bottom y down) (end_within size rect.left rect.right x across) (other_within size rect.left rect.right x across) ∙ sym (frame_is rect size x y across down)

pub frame_two : (rect : Rect) (size : ℕ) (y : ℤ) → rect.left ≤ℤ rect.right → rect.top ≤ℤ rect.bottom → swept_has size rect.top rect.bottom y ≡ true → swept_has size rect.top rect.top y ≡ false → swept_has size rect.bottom rect.bottom y ≡ false → (x : ℤ) → (swept_has size rect.left rect.left x || swept_has size rect.right rect.right x) ≡ frame_has rect size x y
frame_two rect size y across down in_rows top bottom x =
    two_runs (swept_has size rect.left rect.right x) _ _ _ _ _ in_rows top bottom ∙ sym (frame_is rect size x y across down)

one_or_other : (p q : Bool) {r : Bool} → (p || q) ≡ true → (p ≡ true → r ≡ true) → (q ≡ true → r ≡ true) → r ≡ true
one_or_other true q h f g = f refl
one_or_other false q h f g = g h

-- two sides without a gap between them cover what is between
joined : (size : ℕ) (a b z : ℤ) → a ≤ℤ b → (b -ℤ pos ((size - 1) / 2)) ≤ℤ (a +ℤ pos (size - 1 - (size - 1) / 2) +ℤ pos 1) → swept_has size a b z ≡ (swept_has size a a z || swept_has size b b z)
joined size a b z order near =
    same_truth (swept_has size a b z) (swept_has size a a z || swept_has size b b z)
    (λ h.
    let low = not_below (int_min a b -ℤ pos ((size - 1) / 2)) z (int_max a b +ℤ pos (size - 1 - (size - 1) / 2)) h in
    let high = not_above (int_min a b -ℤ pos ((size - 1) / 2)) z (int_max a b +ℤ pos (size - 1 - (size - 1) / 2)) h in
    by_lt_z (a +ℤ pos (size - 1 - (size - 1) / 2)) z
    (λ behind. or_right (swept_has size a a z) (swept_has size b b z) (is_between _ z _ (omega (arith, ints, clamps)) (omega (arith, ints, clamps))))
    (λ within. or_left (swept_has size a a z) (swept_has size b b z) (is_between _ z _ (omega (arith, ints, clamps)) (omega (arith, ints, clamps)))))
    (λ h. one_or_other (swept_has size a a z) (swept_has size b b z) h (end_within size a b z order) (other_within size a b z order))

pub frame_joined : (rect : Rect) (size : ℕ) (y : ℤ) → rect.left ≤ℤ rect.right → rect.top ≤ℤ rect.bottom → swept_has size rect.top rect.bottom y ≡ true → swept_has size rect.top rect.top y ≡ false → swept_has size rect.bottom rect.bottom y ≡ false → (rect.right -ℤ pos ((size - 1) / 2)) ≤ℤ (rect.left +ℤ pos (size - 1 - (size - 1) / 2) +ℤ pos 1) → (x : ℤ) → swept_has size rect.left rect.right x ≡ frame_has rect size x y
frame_joined rect size y across down in_rows top bottom near x =
    joined size rect.left rect.right x across near ∙ frame_two rect size y across down in_rows top bottom x

-- two ends of spans that aren't apart
pub ends_near : (size : ℕ) (a b first last : ℤ) → last ≡ int_max a a +ℤ pos (size - 1 - (size - 1) / 2) → first ≡ int_min b b -ℤ pos ((size - 1) / 2) → first ≤ℤ (last +ℤ pos 1) → (b -ℤ pos ((size - 1) / 2)) ≤ℤ (a +ℤ pos (size - 1 - (size - 1) / 2) +ℤ pos 1)
ends_near size a b first last e f h = omega (arith, ints, clamps)

pub less_of_test : (a b : ℤ) → lt_z a b ≡ true → a <ℤ b
less_of_test a b h = grind (arith, ints)

pub not_less_of_test : (a b : ℤ) → lt_z a b ≡ false → b ≤ℤ a
not_less_of_test a b h = grind (arith, ints)

pub not_more_of_test : (a b : ℤ) → le_z a b ≡ true → a ≤ℤ b
not_more_of_test a b h = grind (arith, ints)

pub more_of_test : (a b : ℤ) → le_z a b ≡ false → b <ℤ a
more_of_test a b h = grind (arith, ints)

-- the column behind a span
pub fits_behind : (s : Span) → IsSpan s → SFits w32 (s.last +ℤ pos 1)
fits_behind s h =
    let low = h.low in
    let forward = h.forward in
    let high = h.high in
    search rules

-- ---- which rows a frame has

pub in_frame_rows : (r : Rect) (size : ℕ) (x y : ℤ) → r.left ≤ℤ r.right → r.top ≤ℤ r.bottom → frame_has r size x y ≡ true → swept_has size r.top r.bottom y ≡ true
in_frame_rows r size x y across down h =
    in_some_row (swept_has size r.left r.right x) (swept_has size r.left r.left x) (swept_has size r.right r.right x) _ _ _ (sym (frame_is r size x y across down) ∙ h) (end_within size r.top r.bottom y down) (other_within size r.top r.bottom y down)

pub pixel_of_frame_row : (r : Rect) (size : ℕ) (y : ℤ) → r.left ≤ℤ r.right → r.top ≤ℤ r.bottom → swept_has size r.top r.bottom y ≡ true → (x : ℤ) × (frame_has r size x y ≡ true)
pixel_of_frame_row r size y across down h =
    let side : swept_has size r.left r.left r.left ≡ true = is_between _ r.left _ (omega (arith, ints, clamps)) (omega (arith, ints, clamps)) in
    (r.left, frame_is r size r.left y across down ∙ left_row (swept_has size r.left r.right r.left) _ (swept_has size r.right r.right r.left) _ (swept_has size r.top r.top y) (swept_has size r.bottom r.bottom y) side h)

-- ---- rows with the same columns

same_sides : (w l r v t b v' t' b' : Bool) → v ≡ v' → t ≡ t' → b ≡ b' → sides_have w l r v t b ≡ sides_have w l r v' t' b'
same_sides w l r v t b v' t' b' e f g = rw (e, f, g) refl

-- which rows of the sides a row is in decides its columns
pub frame_alike : (rect : Rect) (size : ℕ) (y z : ℤ) → rect.left ≤ℤ rect.right → rect.top ≤ℤ rect.bottom → swept_has size rect.top rect.bottom z ≡ swept_has size rect.top rect.bottom y → swept_has size rect.top rect.top z ≡ swept_has size rect.top rect.top y → swept_has size rect.bottom rect.bottom z ≡ swept_has size rect.bottom rect.bottom y → (x : ℤ) → frame_has rect size x z ≡ frame_has rect size x y
frame_alike rect size y z across down rows top bottom x =
    frame_is rect size x z across down ∙ same_sides _ _ _ _ _ _ _ _ _ rows top bottom ∙ sym (frame_is rect size x y across down)
