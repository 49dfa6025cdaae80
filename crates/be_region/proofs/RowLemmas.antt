-- The bands of a region, one by one.
use Rattle.std.proofs.Common.{◌≡◌, ℕ, ◌+◌, ◌-◌, ◌<◌, ◌≤◌, zero, suc, ℤ, pos, negsuc, ◌+ℤ◌, ◌≤ℤ◌, ◌<ℤ◌, ◌⊎◌, inl, inr, Bool, true, false, ◌||◌, ◌&&◌, List, [], ◌∷◌, ◌++◌, length, get_or, take, drop, All, arith, refl, sym, ap, ◌∙◌}
use Rattle.std.specs.List.{AllPairs}
use Rattle.std.proofs.lemmas.Int.{ints}
use Rattle.std.proofs.lemmas.Bool.{or_from, and_right}
use Rattle.std.proofs.lemmas.List.Elements.{All-nil, All-head, All-tail, All-append, All-weaker, All-take, All-drop}
use Rattle.be_geom.specs.declared.rect.Rect.{Rect}
use Rattle.be_geom.specs.Points.{between}
use Rattle.be_geom.specs.Rects.{rect_has}
use Rattle.be_region.specs.Regions.{region_has, IsNotEmpty}
use Rattle.be_region.specs.Bands.{IsBefore}
use Rattle.be_region.specs.Rows.{line_has, IsLine, IsLineAfter, IsRows, AreFrom, AreAbove}
use Rattle.be_region.proofs.CountLemmas.{has-append}
use Rattle.be_region.proofs.PairLemmas.{pairs_head, pairs_tail, pairs_take, pairs_drop}
use Rattle.std.proofs.lemmas.List.{length-take, length-drop, get_or-take, get_or-drop, take_rest}
use Rattle.be_facts.proofs.Truths.{and_spread}
use Rattle.be_geom.proofs.Between.{is_below, is_above, is_between}

-- no pixel in the rows below
pub none_above : (y : ℤ) (rs : List Rect) → AreAbove y rs → (x z : ℤ) → y ≤ℤ z → region_has rs x z ≡ false
none_above y [] h x z k = refl
none_above y (r ∷ rs) h x z k =
    let above = All-head (λ (q : Rect). q.bottom <ℤ y) r rs h in
    or_from (rect_has r x z) (region_has rs x z) (and_right (between r.left x r.right) (between r.top z r.bottom) (is_above r.top z r.bottom (omega (arith, ints)))) (none_above y rs (All-tail (λ (q : Rect). q.bottom <ℤ y) r rs h) x z k)

-- no pixel in the rows above
pub none_below : (y : ℤ) (rs : List Rect) → All (λ r. y <ℤ r.top) rs → (x z : ℤ) → z ≤ℤ y → region_has rs x z ≡ false
none_below y [] h x z k = refl
none_below y (r ∷ rs) h x z k =
    let below = All-head (λ (q : Rect). y <ℤ q.top) r rs h in
    or_from (rect_has r x z) (region_has rs x z) (and_right (between r.left x r.right) (between r.top z r.bottom) (is_below r.top z r.bottom (omega (arith, ints)))) (none_below y rs (All-tail (λ (q : Rect). y <ℤ q.top) r rs h) x z k)

-- the pixels of rectangles in the same rows
pub band_has : (band : List Rect) (top bottom : ℤ) → All (λ r. (r.top ≡ top) × (r.bottom ≡ bottom)) band → (x y : ℤ) → region_has band x y ≡ (line_has band x && between top y bottom)
band_has [] top bottom h x y = refl
band_has (r ∷ band) top bottom h x y =
    let rows = All-head (λ (q : Rect). (q.top ≡ top) × (q.bottom ≡ bottom)) r band h in
    rw (rows.0, rows.1, band_has band top bottom (All-tail (λ (q : Rect). (q.top ≡ top) × (q.bottom ≡ bottom)) r band h) x y) (and_spread (between r.left x r.right) (line_has band x) (between top y bottom))

-- ---- the bands from a row on

pub rows_have : (band rest : List Rect) (top bottom : ℤ) → IsRows band rest top bottom → (x y : ℤ) → region_has (band ++ rest) x y ≡ ((line_has band x && between top y bottom) || region_has rest x y)
rows_have band rest top bottom h x y =
    has-append band rest x y ∙ ap (λ b. b || region_has rest x y) (band_has band top bottom h.rows x y)

pub none_before : (band rest : List Rect) (top bottom : ℤ) → IsRows band rest top bottom → (x y : ℤ) → y <ℤ top → region_has (band ++ rest) x y ≡ false
none_before band rest top bottom h x y k =
    let down = h.down in
    rows_have band rest top bottom h x y ∙ or_from (line_has band x && between top y bottom) (region_has rest x y) (and_right (line_has band x) (between top y bottom) (is_below top y bottom k)) (none_below bottom rest h.below x y (omega (arith, ints)))

ends_below : (y bottom : ℤ) (r : Rect) → IsNotEmpty r → bottom <ℤ r.top → y ≤ℤ bottom → y ≤ℤ r.bottom
ends_below y bottom r full below k = let down = full.down in omega (arith, ints)

ends_further : (y bottom : ℤ) (r : Rect) → IsNotEmpty r → bottom <ℤ r.top → y ≤ℤ bottom → (y +ℤ pos 1) ≤ℤ r.bottom
ends_further y bottom r full below k = let down = full.down in omega (arith, ints)

first_reach : (y : ℤ) (band rest : List Rect) (top bottom : ℤ) → 0 < length band → All (λ r. (r.top ≡ top) × (r.bottom ≡ bottom)) band → AreFrom y (band ++ rest) → y ≤ℤ bottom
first_reach y [] rest top bottom h k m = absurd (omega arith)
first_reach y (r ∷ band) rest top bottom h k m =
    let rows = All-head (λ (q : Rect). (q.top ≡ top) × (q.bottom ≡ bottom)) r band k in
    let e = rows.1 in
    let ends = All-head (λ (q : Rect). y ≤ℤ q.bottom) r (band ++ rest) m in
    omega (arith, ints)

all_kept : (b : Bool) → ((b && true) || false) ≡ b
all_kept true = refl
all_kept false = refl

-- each rectangle ends below the first row
pub ends_from : (y : ℤ) (band rest : List Rect) (top bottom : ℤ) → IsRows band rest top bottom → y ≤ℤ bottom → AreFrom y (band ++ rest)
ends_from y band rest top bottom h k =
    All-append (λ (r : Rect). y ≤ℤ r.bottom) band rest (All-weaker (λ (r : Rect). (r.top ≡ top) × (r.bottom ≡ bottom)) (λ (r : Rect). y ≤ℤ r.bottom) (λ r m. let e = m.1 in omega (arith, ints)) band h.rows) (λ i d m. ends_below y bottom (get_or rest i d) (h.none_empty i d m) (h.below i d m) k)

ends_rest : (y : ℤ) (band rest : List Rect) (top bottom : ℤ) → IsRows band rest top bottom → y ≤ℤ bottom → AreFrom (y +ℤ pos 1) rest
ends_rest y band rest top bottom h k = λ i d m. ends_further y bottom (get_or rest i d) (h.none_empty i d m) (h.below i d m) k

pub reach : (y : ℤ) (band rest : List Rect) (top bottom : ℤ) → IsRows band rest top bottom → AreFrom y (band ++ rest) → (y ≤ℤ bottom) ⊎ ((band ≡ []) × (rest ≡ []) × (bottom ≡ pos 32768))
reach y band rest top bottom h from =
    elim h.there [ inl t ↦ inl (first_reach y band rest top bottom t.0 h.rows from) | inr t ↦ inr (t.0, t.1, t.3) ]

pub low_in : (y : ℤ) (band rest : List Rect) (top bottom : ℤ) → IsRows band rest top bottom → AreFrom y (band ++ rest) → y ≤ℤ pos 32768 → y ≤ℤ bottom
low_in y band rest top bottom h from k =
    elim (reach y band rest top bottom h from) [ inl t ↦ t | inr t ↦ let e = t.2 in omega (arith, ints) ]

none_left : (band rest : List Rect) (x y : ℤ) → band ≡ [] → rest ≡ [] → region_has (band ++ rest) x y ≡ false
none_left band rest x y e f = rw (e, f) refl

row_of : (band rest : List Rect) (top bottom : ℤ) → IsRows band rest top bottom → (x y : ℤ) → top ≤ℤ y → y ≤ℤ bottom → region_has (band ++ rest) x y ≡ line_has band x
row_of band rest top bottom h x y k m =
    rows_have band rest top bottom h x y ∙ rw (none_below bottom rest h.below x y m, is_between top y bottom k m) (all_kept (line_has band x))

pub line_in : (y : ℤ) (band rest : List Rect) (top bottom : ℤ) → IsRows band rest top bottom → AreFrom y (band ++ rest) → top ≤ℤ y → (x : ℤ) → line_has band x ≡ region_has (band ++ rest) x y
line_in y band rest top bottom h from k x =
    elim (reach y band rest top bottom h from) [ inl t ↦ sym (row_of band rest top bottom h x y k t) | inr t ↦ ap (λ rs. line_has rs x) t.0 ∙ sym (none_left band rest x y t.0 t.1) ]

pub same_in : (y : ℤ) (band rest : List Rect) (top bottom : ℤ) → IsRows band rest top bottom → AreFrom y (band ++ rest) → top ≤ℤ y → (x z : ℤ) → y ≤ℤ z → z ≤ℤ bottom → region_has (band ++ rest) x z ≡ region_has (band ++ rest) x y
same_in y band rest top bottom h from k x z m n =
    elim (reach y band rest top bottom h from) [ inl t ↦ row_of band rest top bottom h x z (omega (arith, ints)) n ∙ sym (row_of band rest top bottom h x y k t) | inr t ↦ none_left band rest x z t.0 t.1 ∙ sym (none_left band rest x y t.0 t.1) ]

pub same_out : (y : ℤ) (band rest : List Rect) (top bottom : ℤ) → IsRows band rest top bottom → y <ℤ top → (x z : ℤ) → z <ℤ top → region_has (band ++ rest) x z ≡ region_has (band ++ rest) x y
same_out y band rest top bottom h k x z m =
    none_before band rest top bottom h x z m ∙ sym (none_before band rest top bottom h x y k)

pub rest_from : (y : ℤ) (band rest : List Rect) (top bottom : ℤ) → IsRows band rest top bottom → AreFrom y (band ++ rest) → AreFrom (y +ℤ pos 1) rest
rest_from y band rest top bottom h from =
    elim (reach y band rest top bottom h from) [ inl t ↦ ends_rest y band rest top bottom h t | inr t ↦ rw t.1 (All-nil (λ (r : Rect). (y +ℤ pos 1) ≤ℤ r.bottom)) ]

pub rest_same : (y : ℤ) (band rest : List Rect) (top bottom : ℤ) → IsRows band rest top bottom → bottom ≤ℤ y → (x z : ℤ) → y <ℤ z → region_has rest x z ≡ region_has (band ++ rest) x z
rest_same y band rest top bottom h k x z m =
    sym (rows_have band rest top bottom h x z ∙ ap (λ b. b || region_has rest x z) (and_right (line_has band x) (between top z bottom) (is_above top z bottom (omega (arith, ints)))))

-- ---- the first band of a region

apart_one : (r q : Rect) (top bottom : ℤ) → top ≤ℤ bottom → IsBefore r q → (r.top ≡ top) × (r.bottom ≡ bottom) → (q.top ≡ top) × (q.bottom ≡ bottom) → (r.right +ℤ pos 1) <ℤ q.left
apart_one r q top bottom d (inl h) k m = h.2
apart_one r q top bottom d (inr h) k m = let e = k.1 in let f = m.0 in absurd (omega (arith, ints))

apart_in : (r : Rect) (rs : List Rect) (top bottom : ℤ) → top ≤ℤ bottom → All (IsBefore r) rs → (r.top ≡ top) × (r.bottom ≡ bottom) → All (λ q. (q.top ≡ top) × (q.bottom ≡ bottom)) rs → All (λ q. (r.right +ℤ pos 1) <ℤ q.left) rs
apart_in r rs top bottom d h k m = λ i e n. apart_one r (get_or rs i e) top bottom d (h i e n) k (m i e n)

-- rectangles in the same rows are side by side
line_after : (low : ℤ) (rs : List Rect) (top bottom : ℤ) → top ≤ℤ bottom → All (λ r. low <ℤ r.left) rs → All IsNotEmpty rs → AllPairs IsBefore rs → All (λ r. (r.top ≡ top) × (r.bottom ≡ bottom)) rs → IsLineAfter low rs
line_after low [] top bottom d h full order rows = tt
line_after low (r ∷ rs) top bottom d h full order rows =
    (All-head (λ (q : Rect). low <ℤ q.left) r rs h, (All-head IsNotEmpty r rs full).across, line_after (r.right +ℤ pos 1) rs top bottom d (apart_in r rs top bottom d (pairs_head IsBefore r rs order) (All-head (λ (q : Rect). (q.top ≡ top) × (q.bottom ≡ bottom)) r rs rows) (All-tail (λ (q : Rect). (q.top ≡ top) × (q.bottom ≡ bottom)) r rs rows)) (All-tail IsNotEmpty r rs full) (pairs_tail IsBefore r rs order) (All-tail (λ (q : Rect). (q.top ≡ top) × (q.bottom ≡ bottom)) r rs rows))

pub line_of : (rs : List Rect) (top bottom : ℤ) → top ≤ℤ bottom → All IsNotEmpty rs → AllPairs IsBefore rs → All (λ r. (r.top ≡ top) × (r.bottom ≡ bottom)) rs → IsLine rs
line_of [] top bottom d full order rows = tt
line_of (r ∷ rs) top bottom d full order rows =
    ((All-head IsNotEmpty r rs full).across, line_after (r.right +ℤ pos 1) rs top bottom d (apart_in r rs top bottom d (pairs_head IsBefore r rs order) (All-head (λ (q : Rect). (q.top ≡ top) × (q.bottom ≡ bottom)) r rs rows) (All-tail (λ (q : Rect). (q.top ≡ top) × (q.bottom ≡ bottom)) r rs rows)) (All-tail IsNotEmpty r rs full) (pairs_tail IsBefore r rs order) (All-tail (λ (q : Rect). (q.top ≡ top) × (q.bottom ≡ bottom)) r rs rows))

-- a rectangle that begins in the first one's rows ends there too
same_rows : (r q : Rect) → IsNotEmpty r → (r ≡ q) ⊎ IsBefore r q → q.top ≡ r.top → q.bottom ≡ r.bottom
same_rows r q full (inl h) e = rw h refl
same_rows r q full (inr (inl h)) e = sym h.1
same_rows r q full (inr (inr h)) e = let down = full.down in absurd (omega (arith, ints))

first_or_later : (r : Rect) (rs : List Rect) → All (IsBefore r) rs → (k : ℕ) (d : Rect) → k < length (r ∷ rs) → (r ≡ get_or (r ∷ rs) k d) ⊎ IsBefore r (get_or (r ∷ rs) k d)
first_or_later r rs h zero d m = inl refl
first_or_later r rs h (suc k) d m = inr (h k d (omega arith))

-- a rectangle that begins in other rows begins below the first one
other_rows : (r q : Rect) → (r ≡ q) ⊎ IsBefore r q → (q.top ≡ r.top → ⊥) → r.bottom <ℤ q.top
other_rows r q (inl h) ne = absurd (ne (rw h refl))
other_rows r q (inr (inl h)) ne = absurd (ne (sym h.0))
other_rows r q (inr (inr h)) ne = h

below_then : (r q s : Rect) → r.bottom <ℤ q.top → IsNotEmpty q → (q ≡ s) ⊎ IsBefore q s → r.bottom <ℤ s.top
below_then r q s h full (inl e) = rw (sym e) h
below_then r q s h full (inr (inl e)) = let f = e.0 in omega (arith, ints)
below_then r q s h full (inr (inr e)) = let down = full.down in omega (arith, ints)

-- the place of a list that is reached by a step from another is it or later
at_or_later : (rs : List Rect) → AllPairs IsBefore rs → (n k : ℕ) (d : Rect) → n + k < length rs → (get_or rs n d ≡ get_or rs (n + k) d) ⊎ IsBefore (get_or rs n d) (get_or rs (n + k) d)
at_or_later rs h n zero d m = inl (ap (λ i. get_or rs i d) (omega arith))
at_or_later rs h n (suc k) d m = inr (h n (n + suc k) d (omega arith) m)

pub first_band : (r : Rect) (rs : List Rect) (n : ℕ) → All IsNotEmpty (r ∷ rs) → AllPairs IsBefore (r ∷ rs) → n ≤ length (r ∷ rs) → 0 < n → All (λ q. q.top ≡ r.top) (take n (r ∷ rs)) → ((d : Rect) → n < length (r ∷ rs) → (get_or (r ∷ rs) n d).top ≡ r.top → ⊥) → negsuc 32767 ≤ℤ r.top → r.bottom ≤ℤ pos 32767 → IsRows (take n (r ∷ rs)) (drop n (r ∷ rs)) r.top r.bottom
first_band r rs n full order in' some tops other low high =
    let later = first_or_later r rs (pairs_head IsBefore r rs order) in
    let fr = All-head IsNotEmpty r rs full in
    let rows : All (λ q. (q.top ≡ r.top) × (q.bottom ≡ r.bottom)) (take n (r ∷ rs)) = λ k d m. let k' : k < length (r ∷ rs) = omega (arith, length-take n (r ∷ rs)) in let t = tops k d m in let e : get_or (take n (r ∷ rs)) k d ≡ get_or (r ∷ rs) k d = get_or-take n (r ∷ rs) k d (omega (arith, length-take n (r ∷ rs))) in (t, ap (λ (q : Rect). q.bottom) e ∙ same_rows r (get_or (r ∷ rs) k d) fr (later k d k') (ap (λ (q : Rect). q.top) (sym e) ∙ t)) in
    record {
      line = line_of (take n (r ∷ rs)) r.top r.bottom fr.down (All-take IsNotEmpty n (r ∷ rs) full) (pairs_take IsBefore n (r ∷ rs) order) rows;
      rows = rows;
      down = fr.down;
      below = λ k d m. let k' : n + k < length (r ∷ rs) = omega (arith, length-drop n (r ∷ rs)) in rw (get_or-drop n (r ∷ rs) k d) (below_then r (get_or (r ∷ rs) n d) (get_or (r ∷ rs) (n + k) d) (other_rows r (get_or (r ∷ rs) n d) (later n d (omega arith)) (other d (omega arith))) (full n d (omega arith)) (at_or_later (r ∷ rs) order n k d k'));
      none_empty = All-drop IsNotEmpty n (r ∷ rs) full;
      in_order = pairs_drop IsBefore n (r ∷ rs) order;
      low = low;
      there = inl (omega (arith, length-take n (r ∷ rs)), high);
    }

some_rows : (r : Rect) (rs : List Rect) (n : ℕ) → ((d : Rect) → n < length (r ∷ rs) → (get_or (r ∷ rs) n d).top ≡ r.top → ⊥) → 0 < n
some_rows r rs zero other = absurd (other r (omega arith) refl)
some_rows r rs (suc n) other = omega arith

pub first_rows : (rects : List Rect) (r : Rect) (rs : List Rect) (n : ℕ) (top bottom : ℤ) → rects ≡ r ∷ rs → All IsNotEmpty rects → AllPairs IsBefore rects → n ≤ length rects → All (λ q. q.top ≡ r.top) (take n rects) → ((d : Rect) → n < length rects → (get_or rects n d).top ≡ r.top → ⊥) → top ≡ r.top → bottom ≡ r.bottom → negsuc 32767 ≤ℤ r.top → r.bottom ≤ℤ pos 32767 → IsRows (take n rects) (take (length rects - n) (drop n rects)) top bottom
first_rows rects r rs n top bottom e full order some tops other t b low high =
    rw (take_rest rects n, e, t, b) (first_band r rs n (rw e at full) (rw e at order) (rw e at some) (some_rows r rs n (rw e at other)) (rw e at tops) (rw e at other) low high)
