-- Bands that are made from the top down.
use Rattle.std.proofs.Common.{◌≡◌, ℕ, ◌+◌, ◌<◌, ◌≤◌, ℤ, pos, ◌+ℤ◌, ◌-ℤ◌, ◌≤ℤ◌, ◌<ℤ◌, ◌⊎◌, inl, inr, Bool, true, false, not, ◌||◌, ◌&&◌, List, [], ◌∷◌, ◌++◌, length, get_or, take, drop, All, arith, refl, sym, ap, ◌∙◌}
use Rattle.std.specs.Prelude.{◌==◌}
use Rattle.std.specs.List.{AllPairs}
use Rattle.std.proofs.lemmas.Int.{ints, by_lt_z}
use Rattle.std.proofs.lemmas.Bool.{or_from, or_left, and_right}
use Rattle.std.proofs.lemmas.List.{append_assoc, drop_all, drop-append-le, length-append, map_more, take_all, take-append-drop, take-append-le}
use Rattle.std.proofs.lemmas.List.Elements.{All-nil, All-head, All-tail, All-cons, All-append, All-map, All-weaker}
use Rattle.be_facts.proofs.Truths.{and_true, or_false, and_spread}
use Rattle.be_geom.specs.declared.rect.Rect.{Rect}
use Rattle.be_geom.specs.Points.{between}
use Rattle.be_geom.proofs.Between.{between_tells, is_below, is_above, is_between}
use Rattle.be_region.specs.declared.span.Span.{Span}
use Rattle.be_region.specs.declared.bands.Bands.{Bands}
use Rattle.be_region.specs.Regions.{region_has, IsNotEmpty}
use Rattle.be_region.specs.Bands.{IsBefore, RowsDiffer, AreBands}
use Rattle.be_region.specs.Rows.{AreAbove}
use Rattle.be_region.specs.Spans.{spans_have, AreSpans, AreWithin, AreOpenBands, rect_of, rects_of, done_of, bands_of}
use Rattle.be_region.proofs.CountLemmas.{has-append}
use Rattle.be_region.proofs.DifferLemmas.{spans_differ}
use Rattle.be_region.proofs.OneLemmas.{none_bands}
use Rattle.be_region.proofs.PairLemmas.{pairs_append, pairs_cons, pairs_none}
use Rattle.be_region.proofs.RowLemmas.{none_above}

-- ---- the spans of a band as rectangles

pub rects_have : (spans : List Span) (top bottom x y : ℤ) → region_has (rects_of spans top bottom) x y ≡ (spans_have spans x && between top y bottom)
rects_have [] top bottom x y = refl
rects_have (s ∷ spans) top bottom x y = rw (rects_have spans top bottom x y) (and_spread (between s.left x s.right) (spans_have spans x) (between top y bottom))

further_right : (low : ℤ) (spans : List Span) (high : ℤ) → AreWithin low spans high → All (λ s. low <ℤ s.left) spans
further_right low [] high h = All-nil (λ (s : Span). low <ℤ s.left)
further_right low (s ∷ spans) high h =
    let before = h.0 in
    let full = h.1 in
    All-cons (λ (t : Span). low <ℤ t.left) s spans h.0 (All-weaker (λ (t : Span). (s.right +ℤ pos 1) <ℤ t.left) (λ (t : Span). low <ℤ t.left) (λ t k. omega (arith, ints)) spans (further_right (s.right +ℤ pos 1) spans high h.2))

spans_full : (low : ℤ) (spans : List Span) (high : ℤ) → AreWithin low spans high → All (λ s. s.left ≤ℤ s.right) spans
spans_full low [] high h = All-nil (λ (s : Span). s.left ≤ℤ s.right)
spans_full low (s ∷ spans) high h =
    All-cons (λ (t : Span). t.left ≤ℤ t.right) s spans h.1 (spans_full (s.right +ℤ pos 1) spans high h.2)

rects_full : (spans : List Span) (top bottom : ℤ) → AreSpans spans → top ≤ℤ bottom → All IsNotEmpty (rects_of spans top bottom)
rects_full spans top bottom h k =
    All-map IsNotEmpty (rect_of top bottom) spans (All-weaker (λ (s : Span). s.left ≤ℤ s.right) (λ s. IsNotEmpty (rect_of top bottom s)) (λ s full. record { across = full; down = k }) spans (spans_full h.0 spans h.1.0 h.1.1))

rects_in_order : (low : ℤ) (spans : List Span) (high top bottom : ℤ) → AreWithin low spans high → AllPairs IsBefore (rects_of spans top bottom)
rects_in_order low [] high top bottom h = pairs_none IsBefore
rects_in_order low (s ∷ spans) high top bottom h =
    pairs_cons IsBefore (rect_of top bottom s) (rects_of spans top bottom) (All-map (IsBefore (rect_of top bottom s)) (rect_of top bottom) spans (All-weaker (λ (t : Span). (s.right +ℤ pos 1) <ℤ t.left) (λ t. IsBefore (rect_of top bottom s) (rect_of top bottom t)) (λ t k. inl (refl, refl, k)) spans (further_right (s.right +ℤ pos 1) spans high h.2))) (rects_in_order (s.right +ℤ pos 1) spans high top bottom h.2)

-- rectangles above a row are before those of a band that begins there
above_before : (rs : List Rect) (spans : List Span) (top bottom : ℤ) → AreAbove top rs → All (λ r. All (IsBefore r) (rects_of spans top bottom)) rs
above_before rs spans top bottom h =
    All-weaker (λ (r : Rect). r.bottom <ℤ top) (λ r. All (IsBefore r) (rects_of spans top bottom)) (λ r k. All-map (IsBefore r) (rect_of top bottom) spans (λ i d m. inr k)) rs h

-- ---- all bands

-- a row above the last band
row_above : (rs : List Rect) (spans : List Span) (top bottom x y : ℤ) → y <ℤ top → region_has (rs ++ rects_of spans top bottom) x y ≡ region_has rs x y
row_above rs spans top bottom x y h =
    has-append rs (rects_of spans top bottom) x y ∙ ap (λ b. region_has rs x y || b) (rects_have spans top bottom x y ∙ and_right (spans_have spans x) (between top y bottom) (is_below top y bottom h)) ∙ or_false (region_has rs x y)

-- a row of the last band
row_in : (rs : List Rect) (spans : List Span) (top bottom x y : ℤ) → AreAbove top rs → top ≤ℤ y → y ≤ℤ bottom → region_has (rs ++ rects_of spans top bottom) x y ≡ spans_have spans x
row_in rs spans top bottom x y above h k =
    has-append rs (rects_of spans top bottom) x y ∙ rw (none_above top rs above x y h, rects_have spans top bottom x y, is_between top y bottom h k) (and_true (spans_have spans x))

-- a row below the last band
row_below : (rs : List Rect) (spans : List Span) (top bottom x y : ℤ) → AreAbove top rs → top ≤ℤ bottom → bottom <ℤ y → region_has (rs ++ rects_of spans top bottom) x y ≡ false
row_below rs spans top bottom x y above h k =
    has-append rs (rects_of spans top bottom) x y ∙ or_from (region_has rs x y) (region_has (rects_of spans top bottom) x y) (none_above top rs above x y (omega (arith, ints))) (rects_have spans top bottom x y ∙ and_right (spans_have spans x) (between top y bottom) (is_above top y bottom k))

differ_above : (rs : List Rect) (spans : List Span) (top bottom : ℤ) (r : Rect) → RowsDiffer rs (r.top -ℤ pos 1) r.top → r.top <ℤ top → RowsDiffer (rs ++ rects_of spans top bottom) (r.top -ℤ pos 1) r.top
differ_above rs spans top bottom r h k =
    (h.0, row_above rs spans top bottom h.0 (r.top -ℤ pos 1) (omega (arith, ints)) ∙ h.1 ∙ ap not (sym (row_above rs spans top bottom h.0 r.top k)))

differ_in : (rs : List Rect) (spans : List Span) (top bottom : ℤ) → AreAbove top rs → top ≤ℤ bottom → (x : ℤ) × (region_has rs x (top -ℤ pos 1) ≡ not (spans_have spans x)) → RowsDiffer (rs ++ rects_of spans top bottom) (top -ℤ pos 1) top
differ_in rs spans top bottom above down h =
    (h.0, row_above rs spans top bottom h.0 (top -ℤ pos 1) (omega (arith, ints)) ∙ h.1 ∙ ap not (sym (row_in rs spans top bottom h.0 top above (omega (arith, ints)) down)))

top_before : (r : Rect) (top : ℤ) → IsNotEmpty r → r.bottom <ℤ top → r.top <ℤ top
top_before r top full h = let down = full.down in omega (arith, ints)

pub all_bands : (b : Bands) → AreOpenBands b → AreBands (bands_of b)
all_bands b h =
    let rs = done_of b in
    let last = rects_of b.spans.items b.top b.bottom in
    record {
      none_empty = All-append IsNotEmpty rs last h.done.none_empty (rects_full b.spans.items b.top b.bottom h.apart h.down);
      in_order = pairs_append IsBefore rs last h.done.in_order (rects_in_order h.apart.0 b.spans.items h.apart.1.0 b.top b.bottom h.apart.1.1) (above_before rs b.spans.items b.top b.bottom h.above);
      merged = All-append (λ r. RowsDiffer (rs ++ last) (r.top -ℤ pos 1) r.top) rs last (λ k d m. differ_above rs b.spans.items b.top b.bottom (get_or rs k d) (h.done.merged k d m) (top_before (get_or rs k d) b.top (h.done.none_empty k d m) (h.above k d m))) (All-map (λ r. RowsDiffer (rs ++ last) (r.top -ℤ pos 1) r.top) (rect_of b.top b.bottom) b.spans.items (λ k d m. differ_in rs b.spans.items b.top b.bottom h.above h.down (h.differs k d m)));
    }

pub open_first : (b : Bands) → b.kept ≤ length b.rects.items → done_of b ≡ [] → b.spans.items ≡ [] → b.top ≤ℤ b.bottom → AreOpenBands b
open_first b kept e f down = record {
  kept = kept;
  done = none_bands (done_of b) e;
  above = rw e (All-nil (λ (r : Rect). r.bottom <ℤ b.top));
  down = down;
  apart = rw f (pos 0, (pos 1, omega (arith, ints)));
  first = λ k. e;
  differs = rw f (All-nil (λ (s : Span). (x : ℤ) × (region_has (done_of b) x (b.top -ℤ pos 1) ≡ not (spans_have [] x))));
}

-- one more span is a rectangle
pub pushed : (olds now new : List Rect) (spans : List Span) (i : ℕ) (top bottom : ℤ) (d : Span) (r : Rect) → i < length spans → now ≡ olds ++ rects_of (take i spans) top bottom → new ≡ now ++ r ∷ [] → r ≡ rect_of top bottom (get_or spans i d) → new ≡ olds ++ rects_of (take (i + 1) spans) top bottom
pushed olds now new spans i top bottom d r h e f g =
    rw (f, e, g, map_more (rect_of top bottom) spans i d h) (append_assoc olds (rects_of (take i spans) top bottom) (rect_of top bottom (get_or spans i d) ∷ []))

pub all_pushed : (olds now : List Rect) (spans : List Span) (i : ℕ) (top bottom : ℤ) → length spans ≤ i → now ≡ olds ++ rects_of (take i spans) top bottom → now ≡ olds ++ rects_of spans top bottom
all_pushed olds now spans i top bottom h e = rw e (ap (λ ss. olds ++ rects_of ss top bottom) (take_all i spans h))

-- what stands past the end of a list
abbrev pub no_span : Span
no_span = record { left = pos 0; right = pos 0 }

-- ---- the last band grows

pub grown_open : (b : Bands) (bottom : ℤ) → AreOpenBands b → b.top ≤ℤ bottom → AreOpenBands (record b { bottom = bottom })
grown_open b bottom h k = record {
  kept = h.kept;
  done = h.done;
  above = h.above;
  down = k;
  apart = h.apart;
  first = h.first;
  differs = h.differs;
}

between_grown : (top bottom next further y : ℤ) → (bottom +ℤ pos 1) ≡ next → top ≤ℤ bottom → next ≤ℤ further → between top y further ≡ (between top y bottom || between next y further)
between_grown top bottom next further y e h k = grind (arith, ints, between_tells)

grown_test : (a s p q : Bool) → (a || (s && (p || q))) ≡ ((a || (s && p)) || (q && s))
grown_test true s p q = refl
grown_test false true true q = refl
grown_test false true false true = refl
grown_test false true false false = refl
grown_test false false p true = refl
grown_test false false p false = refl

pub grown_has : (rs : List Rect) (spans : List Span) (top bottom next further x y : ℤ) → (bottom +ℤ pos 1) ≡ next → top ≤ℤ bottom → next ≤ℤ further → region_has (rs ++ rects_of spans top further) x y ≡ (region_has (rs ++ rects_of spans top bottom) x y || (between next y further && spans_have spans x))
grown_has rs spans top bottom next further x y e h k =
    rw (has-append rs (rects_of spans top further) x y, has-append rs (rects_of spans top bottom) x y, rects_have spans top further x y, rects_have spans top bottom x y, between_grown top bottom next further y e h k) (grown_test (region_has rs x y) (spans_have spans x) (between top y bottom) (between next y further))

pub still_above : (rs : List Rect) (spans : List Span) (top bottom : ℤ) → AreAbove top rs → top ≤ℤ bottom → AreAbove (bottom +ℤ pos 1) (rs ++ rects_of spans top bottom)
still_above rs spans top bottom h k =
    All-append (λ (r : Rect). r.bottom <ℤ (bottom +ℤ pos 1)) rs (rects_of spans top bottom) (All-weaker (λ (r : Rect). r.bottom <ℤ top) (λ (r : Rect). r.bottom <ℤ (bottom +ℤ pos 1)) (λ r m. omega (arith, ints)) rs h) (All-map (λ (r : Rect). r.bottom <ℤ (bottom +ℤ pos 1)) (rect_of top bottom) spans (λ i d m. omega (arith, ints)))

-- ---- a new band below

added_test : (a s p : Bool) → (a || (s && p)) ≡ (a || (p && s))
added_test a true true = refl
added_test a true false = refl
added_test a false true = refl
added_test a false false = refl

pub added_has : (rs : List Rect) (spans : List Span) (top bottom x y : ℤ) → region_has (rs ++ rects_of spans top bottom) x y ≡ (region_has rs x y || (between top y bottom && spans_have spans x))
added_has rs spans top bottom x y =
    has-append rs (rects_of spans top bottom) x y ∙ rw (rects_have spans top bottom x y) (added_test (region_has rs x y) (spans_have spans x) (between top y bottom))

first_column : (spans : List Span) → AreSpans spans → 0 < length spans → (x : ℤ) × (spans_have spans x ≡ true)
first_column [] h k = absurd (omega arith)
first_column (s ∷ spans) h k =
    (s.left, or_left (between s.left s.left s.right) (spans_have spans s.left) (is_between s.left s.left s.right (omega (arith, ints)) h.1.1.1))

-- the row above a new band, where it has no pixel
after_gap : (rs : List Rect) (spans : List Span) (y : ℤ) → AreSpans spans → 0 < length spans → ((x : ℤ) → region_has rs x y ≡ false) → (x : ℤ) × (region_has rs x y ≡ not (spans_have spans x))
after_gap rs spans y h k none =
    let found = first_column spans h k in
    (found.0, none found.0 ∙ ap not (sym found.1))

some_or_none : (spans : List Span) → (spans ≡ []) ⊎ (0 < length spans)
some_or_none [] = inl refl
some_or_none (s ∷ spans) = inr (omega arith)

last_of : (rs : List Rect) (r : Rect) (more : List Rect) (next : ℤ) → AreAbove next (rs ++ r ∷ more) → r.bottom <ℤ next
last_of [] r more next h = All-head (λ (q : Rect). q.bottom <ℤ next) r more h
last_of (q ∷ rs) r more next h = last_of rs r more next (All-tail (λ (p : Rect). p.bottom <ℤ next) q (rs ++ r ∷ more) h)

bottom_of : (rs : List Rect) (spans : List Span) (top bottom next : ℤ) → AreAbove next (rs ++ rects_of spans top bottom) → 0 < length spans → bottom <ℤ next
bottom_of rs [] top bottom next h k = absurd (omega arith)
bottom_of rs (s ∷ spans) top bottom next h k = last_of rs (rect_of top bottom s) (rects_of spans top bottom) next h

pub new_differs : (b : Bands) (spans : List Span) (top : ℤ) → AreOpenBands b → AreAbove top (bands_of b) → AreSpans spans → (b.spans.items ≡ spans → (b.bottom +ℤ pos 1) ≡ top → ⊥) → 0 < length spans → (x : ℤ) × (region_has (bands_of b) x (top -ℤ pos 1) ≡ not (spans_have spans x))
new_differs b spans top h above apart other some =
    let P : Type 0 = (x : ℤ) × (region_has (bands_of b) x (top -ℤ pos 1) ≡ not (spans_have spans x)) in
    elim (some_or_none b.spans.items) [ inl none ↦ after_gap (bands_of b) spans (top -ℤ pos 1) apart some (λ x. rw (h.first none, none) refl) | inr there ↦ let before = bottom_of (done_of b) b.spans.items b.top b.bottom top above there in let down = h.down in by_lt_z {P = P} (b.bottom +ℤ pos 1) top (λ k. after_gap (bands_of b) spans (top -ℤ pos 1) apart some (λ x. row_below (done_of b) b.spans.items b.top b.bottom x (top -ℤ pos 1) h.above h.down (omega (arith, ints)))) (λ k. let at : (b.bottom +ℤ pos 1) ≡ top = omega (arith, ints) in let found = spans_differ b.spans.items spans h.apart apart (λ e. other e at) in (found.0, row_in (done_of b) b.spans.items b.top b.bottom found.0 (top -ℤ pos 1) h.above (omega (arith, ints)) (omega (arith, ints)) ∙ found.1)) ]

no_spans : (spans : List Span) → 0 < length spans → spans ≡ [] → ⊥
no_spans [] h e = absurd (omega arith)
no_spans (s ∷ spans) h e = cc

-- the last band is done, and another is the last
pub next_open : (b n : Bands) → AreOpenBands b → AreAbove n.top (bands_of b) → AreSpans n.spans.items → (b.spans.items ≡ n.spans.items → (b.bottom +ℤ pos 1) ≡ n.top → ⊥) → 0 < length n.spans.items → n.kept ≤ length n.rects.items → done_of n ≡ bands_of b → n.top ≤ℤ n.bottom → AreOpenBands n
next_open b n h above apart other some kept e down =
    let found = new_differs b n.spans.items n.top h above apart other some in
    record {
      kept = kept;
      done = rw e (all_bands b h);
      above = rw e above;
      down = down;
      apart = apart;
      first = λ k. absurd (no_spans n.spans.items some k);
      differs = λ k d m. (found.0, ap (λ (rs : List Rect). region_has rs found.0 (n.top -ℤ pos 1)) e ∙ found.1);
    }

pub some_spans : (spans : List Span) (n : ℕ) → n ≡ length spans → false ≡ (n == 0) → 0 < length spans
some_spans [] n e h = cc
some_spans (s ∷ spans) n e h = omega arith

-- ---- the rectangles that stay

pub kept_pushed : (kept : ℕ) (rs more new : List Rect) → kept ≤ length rs → new ≡ rs ++ more → take kept new ≡ take kept rs
kept_pushed kept rs more new h e = rw e (take-append-le kept rs more h)

pub done_pushed : (kept : ℕ) (rs more new : List Rect) → kept ≤ length rs → new ≡ rs ++ more → drop kept new ≡ drop kept rs ++ more
done_pushed kept rs more new h e = rw e (drop-append-le kept rs more h)

pub long_pushed : (kept : ℕ) (rs more new : List Rect) → kept ≤ length rs → new ≡ rs ++ more → kept ≤ length new
long_pushed kept rs more new h e = rw e (omega (arith, length-append rs more))

pub all_pushed_behind : (kept : ℕ) (rs more new : List Rect) → new ≡ rs ++ more → new ≡ take kept rs ++ (drop kept rs ++ more)
all_pushed_behind kept rs more new e =
    e ∙ ap (λ (xs : List Rect). xs ++ more) (sym (take-append-drop kept rs)) ∙ append_assoc (take kept rs) (drop kept rs) more

pub first_stays : (first kept made : List Rect) → kept ≡ first → take (length first) (kept ++ made) ≡ first
first_stays first kept made e =
    rw e (take-append-le (length first) first made (omega arith) ∙ take_all (length first) first (omega arith))

pub made_behind : (first kept made : List Rect) → kept ≡ first → drop (length first) (kept ++ made) ≡ made
made_behind first kept made e =
    rw (e, drop-append-le (length first) first made (omega arith), drop_all (length first) first (omega arith)) refl
