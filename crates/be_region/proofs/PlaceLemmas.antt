-- Where in the order of its rectangles a region is asked for a pixel.
use Rattle.std.proofs.Common.{◌≡◌, ℕ, ◌+◌, ◌<◌, ◌≤◌, ℤ, pos, ◌+ℤ◌, ◌-ℤ◌, ◌≤ℤ◌, ◌<ℤ◌, ◌⊎◌, inl, inr, Bool, true, false, ◌||◌, ◌&&◌, List, [], ◌∷◌, length, get_or, take, drop, All, subst, arith, refl, sym, ap, ◌∙◌}
use Rattle.std.specs.Prelude.{int_lt, int_le}
use Rattle.std.specs.List.{AllPairs, AllWithin}
use Rattle.std.specs.List.Sorted.{IsPartitionedBy}
use Rattle.std.proofs.lemmas.Int.{ints}
use Rattle.std.proofs.lemmas.Bool.{or_from, true≢false, cases_order, and_right}
use Rattle.std.proofs.lemmas.List.{take-append-drop, length-take, get_or-take, drop_more, drop_all, get_or_default}
use Rattle.std.proofs.lemmas.List.Elements.{All-head, All-tail}
use Rattle.be_facts.proofs.Truths.{and_true, or_false}
use Rattle.be_facts.proofs.Numbers.{int_le_self}
use Rattle.be_geom.specs.declared.rect.Rect.{Rect}
use Rattle.be_geom.specs.Points.{between}
use Rattle.be_geom.specs.Rects.{rect_has}
use Rattle.be_geom.proofs.Between.{is_below, is_above, is_between}
use Rattle.be_region.specs.Regions.{region_has, IsNotEmpty}
use Rattle.be_region.specs.Bands.{IsBefore, AreBands}
use Rattle.be_region.specs.Places.{is_passed, IsSpanAt}
use Rattle.be_region.specs.Runs.{IsRun}
use Rattle.be_region.proofs.CountLemmas.{has-append}
use Rattle.be_region.proofs.PairLemmas.{pairs_head, pairs_drop}

pub passed_cases : (r : Rect) (x y : ℤ) → is_passed r x y ≡ true → (r.bottom <ℤ y) ⊎ ((r.top ≤ℤ y) × (r.right <ℤ x))
passed_cases r x y e = grind (arith, ints)

passed_from : (r : Rect) (x y : ℤ) → (r.bottom <ℤ y) ⊎ ((r.top ≤ℤ y) × (r.right <ℤ x)) → is_passed r x y ≡ true
passed_from r x y h = grind (arith, ints)

pub last_test : (r : Rect) (x y : ℤ) (b : Bool) → int_lt r.bottom y ≡ false → int_le r.top y ≡ true → b ≡ int_lt r.right x → b ≡ is_passed r x y
last_test r x y b h k e = rw (h, k) e

ahead_cases : (r : Rect) (x y : ℤ) → is_passed r x y ≡ false → (y ≤ℤ r.bottom) × ((y <ℤ r.top) ⊎ (x ≤ℤ r.right))
ahead_cases r x y e = (grind (arith, ints), grind (arith, ints))

before_passed : (r s : Rect) (x y : ℤ) → IsBefore r s → IsNotEmpty s → (s.bottom <ℤ y) ⊎ ((s.top ≤ℤ y) × (s.right <ℤ x)) → (r.bottom <ℤ y) ⊎ ((r.top ≤ℤ y) × (r.right <ℤ x))
before_passed r s x y (inl h) full (inl k) = let e = h.1 in inl (omega (arith, ints))
before_passed r s x y (inl h) full (inr k) =
    let e = h.0 in let apart = h.2 in let across = full.across in let below = k.0 in let right = k.1 in
    inr (omega (arith, ints), omega (arith, ints))
before_passed r s x y (inr h) full (inl k) = let down = full.down in inl (omega (arith, ints))
before_passed r s x y (inr h) full (inr k) = let below = k.0 in inl (omega (arith, ints))

pub partitioned : (rs : List Rect) (x y : ℤ) → AreBands rs → IsPartitionedBy (λ r. is_passed r x y) rs
partitioned rs x y h i j d m n e =
    elim (cases_order i j) [ inl same ↦ ap (λ k. is_passed (get_or rs k d) x y) same ∙ e | inr other ↦ elim other [ inl less ↦ passed_from (get_or rs i d) x y (before_passed (get_or rs i d) (get_or rs j d) x y (h.in_order i j d less n) (h.none_empty j d n) (passed_cases (get_or rs j d) x y e)) | inr more ↦ absurd (omega arith) ] ]

-- ---- the pixels from the place on, in its row and in those below it

passed_none : (r : Rect) (x y z w : ℤ) → (r.bottom <ℤ y) ⊎ ((r.top ≤ℤ y) × (r.right <ℤ x)) → x ≤ℤ z → y ≤ℤ w → rect_has r z w ≡ false
passed_none r x y z w (inl h) k m =
    and_right (between r.left z r.right) (between r.top w r.bottom) (is_above r.top w r.bottom (omega (arith, ints)))
passed_none r x y z w (inr h) k m =
    let right = h.1 in
    ap (λ b. b && between r.top w r.bottom) (is_above r.left z r.right (omega (arith, ints)))

none_passed : (rs : List Rect) (x y z w : ℤ) → All (λ r. is_passed r x y ≡ true) rs → x ≤ℤ z → y ≤ℤ w → region_has rs z w ≡ false
none_passed [] x y z w h k m = refl
none_passed (r ∷ rs) x y z w h k m =
    or_from (rect_has r z w) (region_has rs z w) (passed_none r x y z w (passed_cases r x y (All-head (λ (q : Rect). is_passed q x y ≡ true) r rs h)) k m) (none_passed rs x y z w (All-tail (λ (q : Rect). is_passed q x y ≡ true) r rs h) k m)

pub rest_from : (rs : List Rect) (n : ℕ) (x y z w : ℤ) → n ≤ length rs → AllWithin (λ r. is_passed r x y ≡ true) rs 0 n → x ≤ℤ z → y ≤ℤ w → region_has rs z w ≡ region_has (drop n rs) z w
rest_from rs n x y z w within h k m =
    ap (λ l. region_has l z w) (sym (take-append-drop n rs)) ∙ has-append (take n rs) (drop n rs) z w ∙ ap (λ b. b || region_has (drop n rs) z w) (none_passed (take n rs) x y z w (λ i d m. let l = length-take n rs in rw (get_or-take n rs i d (omega arith)) (h i d (omega arith) (omega arith))) k m)

-- rectangles behind one that isn't above the row have no pixel of the row up to the column behind its last
after_none : (r s : Rect) (y z : ℤ) → IsBefore r s → y ≤ℤ r.bottom → z ≤ℤ (r.right +ℤ pos 1) → rect_has s z y ≡ false
after_none r s y z (inl h) k m =
    let apart = h.2 in
    ap (λ b. b && between s.top y s.bottom) (is_below s.left z s.right (omega (arith, ints)))
after_none r s y z (inr h) k m =
    and_right (between s.left z s.right) (between s.top y s.bottom) (is_below s.top y s.bottom (omega (arith, ints)))

none_after : (r : Rect) (rs : List Rect) (y z : ℤ) → All (IsBefore r) rs → y ≤ℤ r.bottom → z ≤ℤ (r.right +ℤ pos 1) → region_has rs z y ≡ false
none_after r [] y z h k m = refl
none_after r (s ∷ rs) y z h k m =
    or_from (rect_has s z y) (region_has rs z y) (after_none r s y z (All-head (IsBefore r) s rs h) k m) (none_after r rs y z (All-tail (IsBefore r) s rs h) k m)

-- rectangles behind one that is below the row
below_none : (r s : Rect) (y z : ℤ) → IsNotEmpty r → IsBefore r s → y <ℤ r.top → rect_has s z y ≡ false
below_none r s y z full (inl h) k =
    let e = h.0 in
    and_right (between s.left z s.right) (between s.top y s.bottom) (is_below s.top y s.bottom (omega (arith, ints)))
below_none r s y z full (inr h) k =
    let down = full.down in
    and_right (between s.left z s.right) (between s.top y s.bottom) (is_below s.top y s.bottom (omega (arith, ints)))

none_below : (r : Rect) (rs : List Rect) (y z : ℤ) → IsNotEmpty r → All (IsBefore r) rs → y <ℤ r.top → region_has rs z y ≡ false
none_below r [] y z full h k = refl
none_below r (s ∷ rs) y z full h k =
    or_from (rect_has s z y) (region_has rs z y) (below_none r s y z full (All-head (IsBefore r) s rs h) k) (none_below r rs y z full (All-tail (IsBefore r) s rs h) k)

-- what the place tells of the row: of a rectangle of the row, ..
in_row : (r : Rect) (rs : List Rect) (y z : ℤ) → All (IsBefore r) rs → r.top ≤ℤ y → y ≤ℤ r.bottom → z ≤ℤ (r.right +ℤ pos 1) → region_has (r ∷ rs) z y ≡ between r.left z r.right
in_row r rs y z h from to k =
    rw (none_after r rs y z h to k) (or_false (rect_has r z y) ∙ rw (is_between r.top y r.bottom from to) (and_true (between r.left z r.right)))

-- .. and of one below it
under_row : (r : Rect) (rs : List Rect) (y z : ℤ) → IsNotEmpty r → All (IsBefore r) rs → y <ℤ r.top → region_has (r ∷ rs) z y ≡ false
under_row r rs y z full h k =
    or_from (rect_has r z y) (region_has rs z y) (and_right (between r.left z r.right) (between r.top y r.bottom) (is_below r.top y r.bottom k)) (none_below r rs y z full h k)

-- ---- the run from a place on

-- what is known of a place
pub record IsPlace (rs : List Rect) (n : ℕ) (x y : ℤ) : Type 0 where
  pub within : n ≤ length rs
  pub passed : AllWithin (λ r. is_passed r x y ≡ true) rs 0 n
  pub ahead : AllWithin (λ r. is_passed r x y ≡ false) rs n (length rs)

rest_at : (rs : List Rect) (n : ℕ) (r : Rect) → n < length rs → r ≡ get_or rs n r → drop n rs ≡ r ∷ drop (n + 1) rs
rest_at rs n r h e = drop_more rs n r h ∙ ap (λ q. q ∷ drop (n + 1) rs) (sym e)

later_at : (rs : List Rect) (n : ℕ) (r : Rect) → AreBands rs → n < length rs → r ≡ get_or rs n r → All (IsBefore r) (drop (n + 1) rs)
later_at rs n r bands h e = pairs_head IsBefore r (drop (n + 1) rs) (subst (λ (l : List Rect). AllPairs IsBefore l) (rest_at rs n r h e) (pairs_drop IsBefore n rs bands.in_order))

ahead_at : (rs : List Rect) (n : ℕ) (x y : ℤ) (r : Rect) → IsPlace rs n x y → n < length rs → r ≡ get_or rs n r → is_passed r x y ≡ false
ahead_at rs n x y r place h e = ap (λ q. is_passed q x y) e ∙ place.ahead n r (omega arith) h

full_at : (rs : List Rect) (n : ℕ) (r : Rect) → AreBands rs → n < length rs → r ≡ get_or rs n r → IsNotEmpty r
full_at rs n r bands h e = rw e (bands.none_empty n r h)

-- the columns of a rectangle of the row, in each row down to its bottom
pub at_band : (rs : List Rect) (n : ℕ) (x y : ℤ) (r : Rect) → AreBands rs → IsPlace rs n x y → n < length rs → r ≡ get_or rs n r → r.top ≤ℤ y → (z w : ℤ) → x ≤ℤ z → z ≤ℤ (r.right +ℤ pos 1) → y ≤ℤ w → w ≤ℤ r.bottom → region_has rs z w ≡ between r.left z r.right
at_band rs n x y r bands place h e top z w from to down low =
    rest_from rs n x y z w place.within place.passed from down ∙ rw (rest_at rs n r h e) (in_row r (drop (n + 1) rs) w z (later_at rs n r bands h e) (omega (arith, ints)) low to)

low_ahead : (rs : List Rect) (n : ℕ) (x y : ℤ) (r : Rect) → IsPlace rs n x y → n < length rs → r ≡ get_or rs n r → y ≤ℤ r.bottom
low_ahead rs n x y r place h e = (ahead_cases r x y (ahead_at rs n x y r place h e)).0

pub at_row : (rs : List Rect) (n : ℕ) (x y : ℤ) (r : Rect) → AreBands rs → IsPlace rs n x y → n < length rs → r ≡ get_or rs n r → r.top ≤ℤ y → (z : ℤ) → x ≤ℤ z → z ≤ℤ (r.right +ℤ pos 1) → region_has rs z y ≡ between r.left z r.right
at_row rs n x y r bands place h e top z from to =
    at_band rs n x y r bands place h e top z y from to (int_le_self y) (low_ahead rs n x y r place h e)

last_ahead : (rs : List Rect) (n : ℕ) (x y : ℤ) (r : Rect) → IsPlace rs n x y → n < length rs → r ≡ get_or rs n r → r.top ≤ℤ y → x ≤ℤ r.right
last_ahead rs n x y r place h e top =
    elim (ahead_cases r x y (ahead_at rs n x y r place h e)).1 [ inl k ↦ absurd (omega (arith, ints)) | inr k ↦ k ]

pub none_above : (rs : List Rect) (n : ℕ) (x y : ℤ) (r : Rect) → AreBands rs → IsPlace rs n x y → n < length rs → r ≡ get_or rs n r → (z w : ℤ) → x ≤ℤ z → y ≤ℤ w → w <ℤ r.top → region_has rs z w ≡ false
none_above rs n x y r bands place h e z w from down above =
    rest_from rs n x y z w place.within place.passed from down ∙ rw (rest_at rs n r h e) (under_row r (drop (n + 1) rs) w z (full_at rs n r bands h e) (later_at rs n r bands h e) above)

pub none_at_row : (rs : List Rect) (n : ℕ) (x y : ℤ) (r : Rect) → AreBands rs → IsPlace rs n x y → n < length rs → r ≡ get_or rs n r → y <ℤ r.top → (z : ℤ) → x ≤ℤ z → region_has rs z y ≡ false
none_at_row rs n x y r bands place h e top z from = none_above rs n x y r bands place h e z y from (int_le_self y) top

pub none_beyond : (rs : List Rect) (n : ℕ) (x y : ℤ) → IsPlace rs n x y → length rs ≤ n → (z w : ℤ) → x ≤ℤ z → y ≤ℤ w → region_has rs z w ≡ false
none_beyond rs n x y place h z w from down =
    rest_from rs n x y z w place.within place.passed from down ∙ ap (λ l. region_has l z w) (drop_all n rs h)

pub none_at_end : (rs : List Rect) (n : ℕ) (x y : ℤ) → IsPlace rs n x y → length rs ≤ n → (z : ℤ) → x ≤ℤ z → region_has rs z y ≡ false
none_at_end rs n x y place h z from = none_beyond rs n x y place h z y from (int_le_self y)

-- ---- runs

abbrev row_test : List Rect → ℤ → ℤ → Bool
row_test rs y z = region_has rs z y

pub run_none : (rs : List Rect) (x y last : ℤ) → last ≡ pos 2147483647 → x ≤ℤ pos 2147483647 → ((z : ℤ) → x ≤ℤ z → region_has rs z y ≡ false) → IsRun (row_test rs y) x last
run_none rs x y last e high none = record {
  forward = omega (arith, ints);
  same = λ z k m. none z k ∙ sym (none x (omega (arith, ints)));
  other = inl e;
}

pub run_gap : (rs : List Rect) (n : ℕ) (x y : ℤ) (r : Rect) (last : ℤ) → last ≡ (r.left -ℤ pos 1) → AreBands rs → IsPlace rs n x y → n < length rs → r ≡ get_or rs n r → r.top ≤ℤ y → x <ℤ r.left → IsRun (row_test rs y) x last
run_gap rs n x y r last m bands place h e top before =
    let full = (full_at rs n r bands h e).across in
    let out : (z : ℤ) → x ≤ℤ z → z <ℤ r.left → region_has rs z y ≡ false = λ z k l. at_row rs n x y r bands place h e top z k (omega (arith, ints)) ∙ is_below r.left z r.right l in
    record {
      forward = omega (arith, ints);
      same = λ z k l. out z k (omega (arith, ints)) ∙ sym (out x (omega (arith, ints)) before);
      other = inr (λ same. true≢false (sym (at_row rs n x y r bands place h e top (last +ℤ pos 1) (omega (arith, ints)) (omega (arith, ints)) ∙ is_between r.left (last +ℤ pos 1) r.right (omega (arith, ints)) (omega (arith, ints))) ∙ same ∙ out x (omega (arith, ints)) before));
    }

pub run_in : (rs : List Rect) (n : ℕ) (x y : ℤ) (r : Rect) (last : ℤ) → last ≡ r.right → AreBands rs → IsPlace rs n x y → n < length rs → r ≡ get_or rs n r → r.top ≤ℤ y → r.left ≤ℤ x → IsRun (row_test rs y) x last
run_in rs n x y r last m bands place h e top from =
    let to = last_ahead rs n x y r place h e top in
    let inside : (z : ℤ) → x ≤ℤ z → z ≤ℤ r.right → region_has rs z y ≡ true = λ z k l. at_row rs n x y r bands place h e top z k (omega (arith, ints)) ∙ is_between r.left z r.right (omega (arith, ints)) l in
    record {
      forward = omega (arith, ints);
      same = λ z k l. inside z k (omega (arith, ints)) ∙ sym (inside x (omega (arith, ints)) to);
      other = inr (λ same. true≢false (sym (inside x (omega (arith, ints)) to) ∙ sym same ∙ at_row rs n x y r bands place h e top (last +ℤ pos 1) (omega (arith, ints)) (omega (arith, ints)) ∙ is_above r.left (last +ℤ pos 1) r.right (omega (arith, ints))));
    }

pub answer_gap : (rs : List Rect) (n : ℕ) (x y : ℤ) (r : Rect) → AreBands rs → IsPlace rs n x y → n < length rs → r ≡ get_or rs n r → r.top ≤ℤ y → x <ℤ r.left → false ≡ region_has rs x y
answer_gap rs n x y r bands place h e top before =
    let full = (full_at rs n r bands h e).across in
    sym (at_row rs n x y r bands place h e top x (omega (arith, ints)) (omega (arith, ints)) ∙ is_below r.left x r.right before)

pub answer_in : (rs : List Rect) (n : ℕ) (x y : ℤ) (r : Rect) → AreBands rs → IsPlace rs n x y → n < length rs → r ≡ get_or rs n r → r.top ≤ℤ y → r.left ≤ℤ x → true ≡ region_has rs x y
answer_in rs n x y r bands place h e top from =
    let to = last_ahead rs n x y r place h e top in
    sym (at_row rs n x y r bands place h e top x (omega (arith, ints)) (omega (arith, ints)) ∙ is_between r.left x r.right from to)

-- ---- the rectangle of a pixel

same_default : (rs : List Rect) (n : ℕ) (d r : Rect) → n < length rs → r ≡ get_or rs n r → get_or rs n d ≡ r
same_default rs n d r h e = get_or_default rs n d r h ∙ sym e

pub span_found : (rs : List Rect) (n : ℕ) (x y : ℤ) (r : Rect) → AreBands rs → IsPlace rs n x y → n < length rs → r ≡ get_or rs n r → r.top ≤ℤ y → r.left ≤ℤ x → IsSpanAt rs n x y
span_found rs n x y r bands place h e top from =
    let to = last_ahead rs n x y r place h e top in
    let low = (ahead_cases r x y (ahead_at rs n x y r place h e)).0 in
    record {
      within = h;
      has = λ d. rw (same_default rs n d r h e) (rw (is_between r.left x r.right from to, is_between r.top y r.bottom top low) refl);
      first = λ z k i d l m. passed_none (get_or rs i d) x y z y (passed_cases (get_or rs i d) x y (place.passed i d l m)) k (int_le_self y);
      ends = λ d. rw (same_default rs n d r h e) (at_row rs n x y r bands place h e top (r.right +ℤ pos 1) (omega (arith, ints)) (omega (arith, ints)) ∙ is_above r.left (r.right +ℤ pos 1) r.right (omega (arith, ints)));
    }
