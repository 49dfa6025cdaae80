-- Painting in parts.
use Rattle.std.specs.Prelude.{if◌then◌else◌}
use Rattle.std.specs.Option.{option_map}
use Rattle.std.proofs.Common.{◌≡◌, ℕ, ℤ, Bool, true, false, ◌&&◌, ◌||◌, List, take, refl, ap, sym}
use Rattle.std.proofs.Common.{◌∙◌}
use Rattle.std.proofs.lemmas.Bool.{true≢false}
use Rattle.be_span.specs.Spans.{Spans, cell_in}
use Rattle.be_geom.specs.declared.rect.Rect.{Rect}
use Rattle.be_geom.specs.Rects.{rect_has}
use Rattle.be_descent.specs.declared.walk.Found.{Found}
use Rattle.be_descent.specs.declared.way.Way.{Way}
use Rattle.be_descent.specs.Places.{lies_at, HasNoMore, IsNext}
use Rattle.be_span.specs.Painting.{Rule, IsPainted}

-- nothing is painted yet
pub none_painted : (rule : Rule) (at : ℤ → ℤ → Bool) (s : Spans) → ((x y : ℤ) → at x y ≡ false)
    → IsPainted rule at s s
none_painted rule at s none = record {
  region = refl;
  cells = λ x y. sym (ap (λ (b : Bool). if b then option_map (rule x y) (cell_in s x y) else cell_in
      s x y) (none x y));
}

-- the same pixels
pub same_painted : (rule : Rule) (p q : ℤ → ℤ → Bool) (old new : Spans)
    → ((x y : ℤ) → p x y ≡ q x y) → IsPainted rule p old new → IsPainted rule q old new
same_painted rule p q old new same done = record {
  region = done.region;
  cells = λ x y. done.cells x y ∙ ap (λ (b : Bool). if b then option_map (rule x y)
      (cell_in old x y) else cell_in old x y) (same x y);
}

-- two parts that have no pixel in common, one after the other
pub both_painted : (rule : Rule) (p q : ℤ → ℤ → Bool) (old mid new : Spans)
    → ((x y : ℤ) → p x y ≡ true → q x y ≡ false) → IsPainted rule p old mid
    → IsPainted rule q mid new → IsPainted rule (λ x y. p x y || q x y) old new
both_painted rule p q old mid new apart first second = record {
  region = second.region ∙ first.region;
  cells = λ x y. at x y (p x y) (q x y) (apart x y) (first.cells x y) (second.cells x y);
}
  where
    at : (x y : ℤ) (b c : Bool) → (b ≡ true → c ≡ false)
        → cell_in mid x y ≡ (if b then option_map (rule x y) (cell_in old x y) else cell_in old x y)
        → cell_in new x y ≡ (if c then option_map (rule x y) (cell_in mid x y) else cell_in mid x y)
        → cell_in new x y ≡ (if b || c then option_map (rule x y) (cell_in old x y) else cell_in old
        x y)
    at x y true true one f s = absurd (true≢false (one refl))
    at x y true false one f s = s ∙ f
    at x y false true one f s = s ∙ ap (option_map (rule x y)) f
    at x y false false one f s = s ∙ f

-- ---- within a region, a rectangle at a time

-- the pixels of an area that are in the first rectangles of a region, which lies that way, and at
-- which another test says so
abbrev pub painted_to : List Rect → ℕ → Way → Rect → (ℤ → ℤ → Bool) → ℤ → ℤ → Bool
painted_to rs n way area at x y = rect_has area x y && (lies_at (take n rs) way x y && at x y)

none_to : (a b : Bool) → (a && (false && b)) ≡ false
none_to true b = refl
none_to false b = refl

pub none_yet : (rule : Rule) (rs : List Rect) (way : Way) (area : Rect) (at : ℤ → ℤ → Bool)
    (s : Spans) → IsPainted rule (painted_to rs 0 way area at) s s
none_yet rule rs way area at s =
    none_painted rule (painted_to rs 0 way area at) s (λ x y. none_to (rect_has area x y) (at x y))

guarded : (a b c d : Bool) → (a ≡ true → b ≡ c) → (a && (b && d)) ≡ (a && (c && d))
guarded true b c d h = ap (λ e. e && d) (h refl)
guarded false b c d h = refl

pub all_to : (rule : Rule) (rs : List Rect) (from : ℕ) (way : Way) (area : Rect) (at : ℤ → ℤ → Bool)
    (old new : Spans) → HasNoMore rs from way area
    → IsPainted rule (painted_to rs from way area at) old new
    → IsPainted rule (λ x y. rect_has area x y && (lies_at rs way x y && at x y)) old new
all_to rule rs from way area at old new none =
    same_painted rule (painted_to rs from way area at)
    (λ x y. rect_has area x y && (lies_at rs way x y && at x y)) old new
    (λ x y. guarded (rect_has area x y) (lies_at (take from rs) way x y) (lies_at rs way x y)
    (at x y) (λ h. sym (none x y h)))

-- an area has a pixel, and those up to a place have it, or a part of the area has
spread : (a q p t d : Bool) → (p ≡ true → a ≡ true) → (a ≡ true → t ≡ (q || p))
    → ((a && (q && d)) || (p && d)) ≡ (a && (t && d))
spread true q p t d inside up = turned q p d ∙ ap (λ e. e && d) (sym (up refl))
  where
    turned : (q p d : Bool) → ((q && d) || (p && d)) ≡ ((q || p) && d)
    turned true true true = refl
    turned true true false = refl
    turned true false true = refl
    turned true false false = refl
    turned false p d = refl
spread false q true t d inside up = absurd (true≢false (sym (inside refl)))
spread false q false t d inside up = refl

off : (a q p d : Bool) → (p ≡ true → q ≡ false) → (a && (q && d)) ≡ true → (p && d) ≡ false
off a q false d apart h = refl
off true true true d apart h = absurd (true≢false (apart refl))
off true false true d apart h = absurd (true≢false (sym h))
off false q true d apart h = absurd (true≢false (sym h))

pub next_to : (rule : Rule) (rs : List Rect) (from : ℕ) (way : Way) (area : Rect) (found : Found)
    (at : ℤ → ℤ → Bool) (old mid new : Spans) → IsNext rs from way area found
    → IsPainted rule (painted_to rs from way area at) old mid
    → IsPainted rule (λ x y. rect_has found.part x y && at x y) mid new
    → IsPainted rule (painted_to rs found.after way area at) old new
next_to rule rs from way area found at old mid new next first second =
    same_painted rule (λ x y. painted_to rs from way area at x y
    || (rect_has found.part x y && at x y)) (painted_to rs found.after way area at) old new
    (λ x y. spread (rect_has area x y) (lies_at (take from rs) way x y) (rect_has found.part x y)
    (lies_at (take found.after rs) way x y) (at x y) (next.inside x y) (next.up_to x y))
    (both_painted rule (painted_to rs from way area at) (λ x y. rect_has found.part x y && at x y)
    old mid new (λ x y. off (rect_has area x y) (lies_at (take from rs) way x y)
    (rect_has found.part x y) (at x y) (next.apart x y)) first second)
