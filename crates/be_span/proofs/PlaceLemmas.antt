-- Where the cells of pixels stand among those of all rectangles.
use Rattle.std.proofs.Common.{◌≡◌, ℕ, zero, suc, ◌+◌, ◌<◌, ◌≤◌, ℤ, pos, ◌+ℤ◌, ◌-ℤ◌, ◌-◌, true, false, ◌||◌, ◌⊎◌, inl, inr, All, List, [], ◌∷◌, length, get_or, take, slice_get, Option, Some, None, refl, sym, ap, ◌∙◌, arith, cond}
use Rattle.std.specs.Option.{option_map}
use Rattle.std.specs.List.{AllWithin, AllPairs}
use Rattle.std.proofs.lemmas.Int.{ints}
use Rattle.std.proofs.lemmas.Bool.{cases_lt, or_parts, or_left, or_right, true≢false}
use Rattle.std.proofs.lemmas.Option.{same_Some, none-some, get_or_from_slice_get}
use Rattle.std.proofs.lemmas.List.Elements.{All-head, All-tail}
use Rattle.be_facts.proofs.Truths.{true_or_false}
use Rattle.be_geom.specs.declared.rect.Rect.{Rect}
use Rattle.be_geom.specs.Rects.{rect_has}
use Rattle.be_region.specs.Bands.{IsBefore}
use Rattle.be_region.specs.Regions.{region_has, IsNotEmpty}
use Rattle.be_region.specs.Places.{IsSpanAt}
use Rattle.be_span.specs.Spans.{area_of, pixels_of, place_in, place_of}
use Rattle.be_span.specs.Runs.{IsRunFrom}
use Rattle.be_span.proofs.GridLemmas.{IsIn, pixel_in_rect, in_from, has_from, place_in_below, place_in_same}

-- ---- one rectangle more

abbrev later : Rect → Option ℕ → Option ℕ
later r o = option_map (λ n. area_of r + n) o

place_first : (r : Rect) (rs : List Rect) (x y : ℤ) → rect_has r x y ≡ true → place_of (r ∷ rs) x y ≡ Some (place_in r x y)
place_first r rs x y e = ap (λ b. cond b (Some (place_in r x y)) (later r (place_of rs x y))) e

place_later : (r : Rect) (rs : List Rect) (x y : ℤ) → rect_has r x y ≡ false → place_of (r ∷ rs) x y ≡ later r (place_of rs x y)
place_later r rs x y e = ap (λ b. cond b (Some (place_in r x y)) (later r (place_of rs x y))) e

-- a place is of the first rectangle, or of those behind
pub place_parts : (r : Rect) (rs : List Rect) (x y : ℤ) (n : ℕ) → place_of (r ∷ rs) x y ≡ Some n → ((rect_has r x y ≡ true) × (n ≡ place_in r x y)) ⊎ ((rect_has r x y ≡ false) × ((m : ℕ) × ((place_of rs x y ≡ Some m) × (n ≡ area_of r + m))))
place_parts r rs x y n e =
    elim (true_or_false (rect_has r x y)) [
      | inl h ↦ inl (h, same_Some n (place_in r x y) (sym e ∙ place_first r rs x y h))
      | inr h ↦ inr (h, from_later (place_of rs x y) (sym (place_later r rs x y h) ∙ e))
    ]
  where
    from_later : (o : Option ℕ) → later r o ≡ Some n → (m : ℕ) × ((o ≡ Some m) × (n ≡ area_of r + m))
    from_later None e = absurd (none-some n e)
    from_later (Some m) e = (m, (refl, same_Some n (area_of r + m) (sym e)))

-- ---- all of them

pub place_none : (rs : List Rect) (x y : ℤ) → region_has rs x y ≡ false → place_of rs x y ≡ None
place_none [] x y e = refl
place_none (r ∷ rs) x y e =
    let parts = or_parts (rect_has r x y) (region_has rs x y) e in
    place_later r rs x y parts.0 ∙ ap (later r) (place_none rs x y parts.1)

pub place_has : (rs : List Rect) (x y : ℤ) (n : ℕ) → place_of rs x y ≡ Some n → region_has rs x y ≡ true
place_has [] x y n e = absurd (none-some n e)
place_has (r ∷ rs) x y n e =
    elim (place_parts r rs x y n e) [
      | inl h ↦ or_left (rect_has r x y) (region_has rs x y) h.0
      | inr h ↦ or_right (rect_has r x y) (region_has rs x y) (place_has rs x y h.1.0 h.1.1.0)
    ]

pub place_found : (rs : List Rect) (x y : ℤ) → region_has rs x y ≡ true → (n : ℕ) × (place_of rs x y ≡ Some n)
place_found [] x y e = absurd (true≢false (sym e))
place_found (r ∷ rs) x y e =
    elim (true_or_false (rect_has r x y)) [
      | inl h ↦ (place_in r x y, place_first r rs x y h)
      | inr h ↦ let rest = place_found rs x y (sym (ap (λ b. b || region_has rs x y) h) ∙ e) in (area_of r + rest.0, place_later r rs x y h ∙ ap (later r) rest.1)
    ]

pub place_below : (rs : List Rect) (x y : ℤ) (n : ℕ) → place_of rs x y ≡ Some n → n < pixels_of rs
place_below [] x y n e = absurd (none-some n e)
place_below (r ∷ rs) x y n e =
    elim (place_parts r rs x y n e) [
      | inl h ↦ let less = place_in_below r x y (in_from r x y h.0) in let is = h.1 in omega arith
      | inr h ↦ let less = place_below rs x y h.1.0 h.1.1.0 in let is = h.1.1.1 in omega arith
    ]

-- two pixels of one place are one
pub place_same : (rs : List Rect) (x y z w : ℤ) (n : ℕ) → place_of rs x y ≡ Some n → place_of rs z w ≡ Some n → (x ≡ z) × (y ≡ w)
place_same [] x y z w n e f = absurd (none-some n e)
place_same (r ∷ rs) x y z w n e f =
    elim (place_parts r rs x y n e) [
      | inl h ↦ elim (place_parts r rs z w n f) [
        | inl k ↦ place_in_same r x y z w (in_from r x y h.0) (in_from r z w k.0) (sym h.1 ∙ k.1)
        | inr k ↦ absurd (let less = place_in_below r x y (in_from r x y h.0) in let is = h.1 in let is' = k.1.1.1 in omega arith)
      ]
      | inr h ↦ elim (place_parts r rs z w n f) [
        | inl k ↦ absurd (let less = place_in_below r z w (in_from r z w k.0) in let is = k.1 in let is' = h.1.1.1 in omega arith)
        | inr k ↦ place_same rs x y z w h.1.0 h.1.1.0 (k.1.1.0 ∙ ap Some (let is = h.1.1.1 in let is' = k.1.1.1 in omega arith))
      ]
    ]

-- the place of a pixel of the m-th rectangle, where none before has it
pub place_at : (rs : List Rect) (m : ℕ) (r : Rect) (x y : ℤ) → m < length rs → r ≡ get_or rs m r → AllWithin (λ q. rect_has q x y ≡ false) rs 0 m → rect_has r x y ≡ true → place_of rs x y ≡ Some (pixels_of (take m rs) + place_in r x y)
place_at [] m r x y less e none h = absurd (omega arith)
place_at (q ∷ rs) zero r x y less e none h = place_first q rs x y (ap (λ s. rect_has s x y) (sym e) ∙ h) ∙ ap Some (let same = ap (λ s. place_in s x y) e in omega arith)
place_at (q ∷ rs) (suc m) r x y less e none h =
    place_later q rs x y (none 0 r (omega arith) (omega arith))
    ∙ ap (later q) (place_at rs m r x y (omega arith) e (λ i d low high. none (suc i) d (omega arith) (omega arith)) h)
    ∙ ap Some (omega arith)

-- ---- each cell is some pixel's

pub apart : (r s : Rect) (x y : ℤ) → IsBefore r s → rect_has s x y ≡ true → rect_has r x y ≡ false
apart r s x y before has =
    elim (true_or_false (rect_has r x y)) [ inl h ↦ absurd (both (in_from r x y h) (in_from s x y has) before) | inr h ↦ h ]
  where
    both : IsIn r x y → IsIn s x y → IsBefore r s → ⊥
    both a b (inl h) = let right = a.right in let left = b.left in let gap = h.2 in omega (arith, ints)
    both a b (inr h) = let bottom = a.bottom in let top = b.top in omega (arith, ints)

-- a rectangle before all others has none of their pixels
pub before_all : (r : Rect) (rs : List Rect) (x y : ℤ) → ((k : ℕ) (d : Rect) → k < length rs → IsBefore r (get_or rs k d)) → region_has rs x y ≡ true → rect_has r x y ≡ false
before_all r [] x y before has = absurd (true≢false (sym has))
before_all r (q ∷ rs) x y before has =
    elim (true_or_false (rect_has q x y)) [
      | inl h ↦ apart r q x y (before 0 q (omega arith)) h
      | inr h ↦ before_all r rs x y (λ k d less. before (suc k) d (omega arith)) (sym (ap (λ b. b || region_has rs x y) h) ∙ has)
    ]

pub pixel_of : (rs : List Rect) (n : ℕ) → All IsNotEmpty rs → AllPairs IsBefore rs → n < pixels_of rs → (x : ℤ) × ((y : ℤ) × (place_of rs x y ≡ Some n))
pixel_of [] n full order less = absurd (omega arith)
pixel_of (r ∷ rs) n full order less =
    elim (cases_lt n (area_of r)) [
      | inl h ↦
          let found = pixel_in_rect r n (All-head IsNotEmpty r rs full) h in
          (found.0, (found.1.0, place_first r rs found.0 found.1.0 found.1.1.0 ∙ ap Some found.1.1.1))
      | inr h ↦
          let rest = pixel_of rs (n - area_of r) (All-tail IsNotEmpty r rs full) (λ i j d low high. order (suc i) (suc j) d (omega arith) (omega arith)) (omega arith) in
          let x = rest.0 in
          let y = rest.1.0 in
          let none = before_all r rs x y (λ k d low. order 0 (suc k) d (omega arith) (omega arith)) (place_has rs x y (n - area_of r) rest.1.1) in
          (x, (y, place_later r rs x y none ∙ ap (later r) rest.1.1 ∙ ap Some (omega arith)))
    ]

-- which pixels have the cells of the m-th rectangle
pub place_of_rect : (rs : List Rect) (m : ℕ) (r : Rect) (x y : ℤ) (n : ℕ) → slice_get rs m ≡ Some r → place_of rs x y ≡ Some n → pixels_of (take m rs) ≤ n → n < pixels_of (take m rs) + area_of r → (rect_has r x y ≡ true) × (n ≡ pixels_of (take m rs) + place_in r x y)
place_of_rect [] m r x y n there e low high = absurd (none-some r there)
place_of_rect (q ∷ rs) zero r x y n there e low high =
    let same : q ≡ r = same_Some q r there in
    let size = ap area_of same in
    elim (place_parts q rs x y n e) [
      | inl h ↦ (ap (λ s. rect_has s x y) (sym same) ∙ h.0, let is = h.1 in let at = ap (λ s. place_in s x y) same in omega arith)
      | inr h ↦ absurd (let is = h.1.1.1 in omega arith)
    ]
place_of_rect (q ∷ rs) (suc m) r x y n there e low high =
    elim (place_parts q rs x y n e) [
      | inl h ↦ absurd (let less = place_in_below q x y (in_from q x y h.0) in let is = h.1 in omega arith)
      | inr h ↦
          let is = h.1.1.1 in
          let rest = place_of_rect rs m r x y h.1.0 there h.1.1.0 (omega arith) (omega arith) in
          (rest.0, let at = rest.1 in omega arith)
    ]

pixels_take : (rs : List Rect) (m : ℕ) (r : Rect) → m < length rs → r ≡ get_or rs m r → pixels_of (take m rs) + area_of r ≤ pixels_of rs
pixels_take [] m r less e = absurd (omega arith)
pixels_take (q ∷ rs) zero r less e = let is = ap area_of e in omega arith
pixels_take (q ∷ rs) (suc m) r less e = let rest = pixels_take rs m r (omega arith) e in omega arith

pixels_next : (rs : List Rect) (m : ℕ) (r : Rect) → m < length rs → r ≡ get_or rs m r → pixels_of (take (suc m) rs) ≡ pixels_of (take m rs) + area_of r
pixels_next [] m r less e = absurd (omega arith)
pixels_next (q ∷ rs) zero r less e = let is = ap area_of e in omega arith
pixels_next (q ∷ rs) (suc m) r less e = let rest = pixels_next rs m r (omega arith) e in omega arith

-- ---- the cells from a pixel on to the end of its span

in_row : (r : Rect) (x y : ℤ) (k len : ℕ) → IsIn r x y → pos len ≡ r.right -ℤ x +ℤ pos 1 → k < len → IsIn r (x +ℤ pos k) y
in_row r x y k len h e less =
    let left = h.left in
    record { left = omega (arith, ints); right = omega (arith, ints); top = h.top; bottom = h.bottom }

pixel_in : (rs : List Rect) (m : ℕ) (r : Rect) (x y : ℤ) → IsSpanAt rs m x y → r ≡ get_or rs m r → IsIn r x y
pixel_in rs m r x y span e = in_from r x y (ap (λ q. rect_has q x y) e ∙ span.has r)

behind : (rs : List Rect) (m len : ℕ) (r : Rect) (x : ℤ) → pos len ≡ r.right -ℤ x +ℤ pos 1 → r ≡ get_or rs m r → x +ℤ pos len ≡ (get_or rs m r).right +ℤ pos 1
behind rs m len r x long e = sum_is ∙ ap (λ (q : Rect). q.right +ℤ pos 1) e
  where
    sum_is : x +ℤ pos len ≡ r.right +ℤ pos 1
    sum_is = omega (arith, ints)

run_found : (rs : List Rect) (m count : ℕ) (r : Rect) (x y : ℤ) → IsSpanAt rs m x y → r ≡ get_or rs m r → pos count ≡ r.right -ℤ x +ℤ pos 1 → IsRunFrom rs x y count
run_found rs m count r x y span e long =
    let h = pixel_in rs m r x y span e in
    let to = h.right in
    record {
      some = omega (arith, ints);
      has = λ k less.
          let inside = in_row r x y k count h long less in
          place_has rs (x +ℤ pos k) y _ (place_at rs m r (x +ℤ pos k) y span.within e (span.first (x +ℤ pos k) (omega (arith, ints))) (has_from r (x +ℤ pos k) y inside));
      ends = ap (λ z. region_has rs z y) (behind rs m count r x long e) ∙ span.ends r;
    }

pub pixel_at : (rs : List Rect) (m : ℕ) (r : Rect) (x y : ℤ) → IsSpanAt rs m x y → slice_get rs m ≡ Some r → IsIn r x y
pixel_at rs m r x y span e = pixel_in rs m r x y span (sym (get_or_from_slice_get rs m r r e))

pub run_at : (rs : List Rect) (m count : ℕ) (r : Rect) (x y : ℤ) → IsSpanAt rs m x y → slice_get rs m ≡ Some r → pos count ≡ r.right -ℤ x +ℤ pos 1 → IsRunFrom rs x y count
run_at rs m count r x y span e long = run_found rs m count r x y span (sym (get_or_from_slice_get rs m r r e)) long
