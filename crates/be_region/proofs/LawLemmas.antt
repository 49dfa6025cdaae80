-- The same pixels have the same bands.
use Rattle.std.proofs.Common.{◌≡◌, ℕ, ◌<◌, zero, suc, ℤ, pos, ◌+ℤ◌, ◌-ℤ◌, ◌≤ℤ◌, ◌<ℤ◌, ◌⊎◌, inl, inr, Bool, true, false, not, ◌||◌, ◌&&◌, List, [], ◌∷◌, length, get_or, All, arith, refl, sym, ap, ◌∙◌}
use Rattle.std.specs.List.{AllPairs}
use Rattle.std.proofs.lemmas.Int.{ints, by_lt_z}
use Rattle.std.proofs.lemmas.Bool.{or_cases, or_left, or_right, true≢false, and_parts, and_from, cases_order, and_right}
use Rattle.std.proofs.lemmas.List.{get_or_default}
use Rattle.std.proofs.lemmas.List.Elements.{All-cons, All-head, All-tail}
use Rattle.be_facts.proofs.Numbers.{int_le_self}
use Rattle.be_geom.specs.declared.rect.Rect.{Rect}
use Rattle.be_geom.specs.Points.{between}
use Rattle.be_geom.specs.Rects.{rect_has}
use Rattle.be_geom.proofs.Between.{between_parts, is_below, is_above, is_between}
use Rattle.be_geom.proofs.RectLemmas.{same_rects}
use Rattle.be_region.specs.Regions.{region_has, IsNotEmpty}
use Rattle.be_region.specs.Bands.{IsBefore, AreBands, SamePixelsSameBands}
use Rattle.be_region.proofs.PairLemmas.{pairs_head, pairs_tail}

-- ---- what the pixels of bands tell of one of their rectangles

pub record IsEdged (S : ℤ → ℤ → Bool) (r : Rect) : Type 0 where
  pub full : IsNotEmpty r
  pub rows : (x y : ℤ) → r.top ≤ℤ y → y ≤ℤ r.bottom → S x y ≡ S x r.top
  pub above : (x : ℤ) × (S x (r.top -ℤ pos 1) ≡ not (S x r.top))
  pub inside : (x : ℤ) → r.left ≤ℤ x → x ≤ℤ r.right → S x r.top ≡ true
  pub ends : S (r.right +ℤ pos 1) r.top ≡ false

abbrev Related : Rect → Rect → Type 0
Related r s = (r ≡ s) ⊎ (IsBefore r s ⊎ IsBefore s r)

le_along : (a b c : ℤ) → a ≤ℤ b → b ≤ℤ c → a ≤ℤ c
le_along a b c h k = omega (arith, ints)

below_self : (r q : Rect) (y : ℤ) → r ≡ q → r.bottom <ℤ y → y ≤ℤ q.bottom → ⊥
below_self r q y e k m = let f = ap (λ (s : Rect). s.bottom) e in absurd (omega (arith, ints))

pub same_default : (rs : List Rect) (j : ℕ) (d e : Rect) → j < length rs → get_or rs j d ≡ get_or rs j e
same_default rs j d e h = get_or_default rs j d e h

related : (rs : List Rect) → AllPairs IsBefore rs → (i j : ℕ) (d : Rect) → i < length rs → j < length rs → Related (get_or rs i d) (get_or rs j d)
related rs h i j d m n =
    elim (cases_order i j) [ inl e ↦ inl (ap (λ k. get_or rs k d) e) | inr k ↦ elim k [ inl less ↦ inr (inl (h i j d less n)) | inr more ↦ inr (inr (h j i d more m)) ] ]

same_any : (rs : List Rect) (x y z : ℤ) → All (λ s. rect_has s x y ≡ rect_has s x z) rs → region_has rs x y ≡ region_has rs x z
same_any [] x y z h = refl
same_any (s ∷ rs) x y z h =
    rw (All-head (λ (q : Rect). rect_has q x y ≡ rect_has q x z) s rs h, same_any rs x y z (All-tail (λ (q : Rect). rect_has q x y ≡ rect_has q x z) s rs h)) refl

none_any : (rs : List Rect) (x y : ℤ) → All (λ s. rect_has s x y ≡ false) rs → region_has rs x y ≡ false
none_any [] x y h = refl
none_any (s ∷ rs) x y h =
    rw (All-head (λ (q : Rect). rect_has q x y ≡ false) s rs h, none_any rs x y (All-tail (λ (q : Rect). rect_has q x y ≡ false) s rs h)) refl

pub some_any : (rs : List Rect) (i : ℕ) (d : Rect) (x y : ℤ) → i < length rs → rect_has (get_or rs i d) x y ≡ true → region_has rs x y ≡ true
some_any [] i d x y h e = absurd (omega arith)
some_any (s ∷ rs) zero d x y h e = or_left (rect_has s x y) (region_has rs x y) e
some_any (s ∷ rs) (suc i) d x y h e = or_right (rect_has s x y) (region_has rs x y) (some_any rs i d x y (omega arith) e)

not_in_rows : (s : Rect) (x y : ℤ) → between s.top y s.bottom ≡ false → rect_has s x y ≡ false
not_in_rows s x y h = and_right (between s.left x s.right) (between s.top y s.bottom) h

both_rows : (s : Rect) (x y z : ℤ) → between s.top y s.bottom ≡ between s.top z s.bottom → rect_has s x y ≡ rect_has s x z
both_rows s x y z h = ap (λ b. between s.left x s.right && b) h

same_rows : (r s : Rect) (x y : ℤ) → IsNotEmpty r → Related r s → r.top ≤ℤ y → y ≤ℤ r.bottom → rect_has s x y ≡ rect_has s x r.top
same_rows r s x y full (inl e) from to =
    let down = full.down in
    rw (sym e) (both_rows r x y r.top (is_between r.top y r.bottom from to ∙ sym (is_between r.top r.top r.bottom (omega (arith, ints)) down)))
same_rows r s x y full (inr (inl (inl h))) from to =
    let down = full.down in let e = h.0 in let f = h.1 in
    both_rows s x y r.top (is_between s.top y s.bottom (omega (arith, ints)) (omega (arith, ints)) ∙ sym (is_between s.top r.top s.bottom (omega (arith, ints)) (omega (arith, ints))))
same_rows r s x y full (inr (inl (inr h))) from to =
    both_rows s x y r.top (is_below s.top y s.bottom (omega (arith, ints)) ∙ sym (is_below s.top r.top s.bottom (let down = full.down in omega (arith, ints))))
same_rows r s x y full (inr (inr (inl h))) from to =
    let down = full.down in let e = h.0 in let f = h.1 in
    both_rows s x y r.top (is_between s.top y s.bottom (omega (arith, ints)) (omega (arith, ints)) ∙ sym (is_between s.top r.top s.bottom (omega (arith, ints)) (omega (arith, ints))))
same_rows r s x y full (inr (inr (inr h))) from to =
    both_rows s x y r.top (is_above s.top y s.bottom (omega (arith, ints)) ∙ sym (is_above s.top r.top s.bottom h))

none_behind : (r s : Rect) → IsNotEmpty r → Related r s → rect_has s (r.right +ℤ pos 1) r.top ≡ false
none_behind r s full (inl e) =
    rw (sym e) (ap (λ b. b && between r.top r.top r.bottom) (is_above r.left (r.right +ℤ pos 1) r.right (omega (arith, ints))))
none_behind r s full (inr (inl (inl h))) =
    let apart = h.2 in
    ap (λ b. b && between s.top r.top s.bottom) (is_below s.left (r.right +ℤ pos 1) s.right apart)
none_behind r s full (inr (inl (inr h))) =
    let down = full.down in
    not_in_rows s (r.right +ℤ pos 1) r.top (is_below s.top r.top s.bottom (omega (arith, ints)))
none_behind r s full (inr (inr (inl h))) =
    let apart = h.2 in let across = full.across in
    ap (λ b. b && between s.top r.top s.bottom) (is_above s.left (r.right +ℤ pos 1) s.right (omega (arith, ints)))
none_behind r s full (inr (inr (inr h))) =
    not_in_rows s (r.right +ℤ pos 1) r.top (is_above s.top r.top s.bottom h)

pub edged : (rs : List Rect) → AreBands rs → All (IsEdged (region_has rs)) rs
edged rs h i d m =
    let r = get_or rs i d in
    let full = h.none_empty i d m in
    let down = full.down in
    record {
      full = full;
      rows = λ x y from to. same_any rs x y r.top (λ j e n. rw (← same_default rs j d e n) (same_rows r (get_or rs j d) x y full (related rs h.in_order i j d m n) from to));
      above = h.merged i d m;
      inside = λ x from to. some_any rs i d x r.top m (and_from (between r.left x r.right) (between r.top r.top r.bottom) (is_between r.left x r.right from to) (is_between r.top r.top r.bottom (omega (arith, ints)) down));
      ends = none_any rs (r.right +ℤ pos 1) r.top (λ j e n. rw (← same_default rs j d e n) (none_behind r (get_or rs j d) full (related rs h.in_order i j d m n)));
    }

-- ---- what is left of bands behind a rectangle

-- the pixel is behind the rectangle: in its rows and further right, or in rows below
abbrev pub IsAhead : Rect → ℤ → ℤ → Type 0
IsAhead r x y = ((r.top ≤ℤ y) × (y ≤ℤ r.bottom) × (r.right <ℤ x)) ⊎ (r.bottom <ℤ y)

pub record IsWithin (Reach : ℤ → ℤ → Type 0) (r : Rect) : Type 0 where
  pub first : Reach r.left r.top
  pub further : (x y : ℤ) → IsAhead r x y → Reach x y

pub record IsTail (S : ℤ → ℤ → Bool) (Reach : ℤ → ℤ → Type 0) (rs : List Rect) : Type 0 where
  pub pixels : (x y : ℤ) → Reach x y → S x y ≡ region_has rs x y
  pub within : All (IsWithin Reach) rs
  pub edged : All (IsEdged S) rs
  pub order : AllPairs IsBefore rs

behind_first : (p r : Rect) → IsNotEmpty p → IsNotEmpty r → IsBefore p r → IsAhead p r.left r.top
behind_first p r fp fr (inl h) =
    let e = h.0 in let f = h.1 in let apart = h.2 in let down = fr.down in
    inl (omega (arith, ints), omega (arith, ints), omega (arith, ints))
behind_first p r fp fr (inr h) = inr h

behind_further : (p r : Rect) → IsNotEmpty p → IsNotEmpty r → IsBefore p r → (x y : ℤ) → IsAhead r x y → IsAhead p x y
behind_further p r fp fr (inl h) x y (inl k) =
    let e = h.0 in let f = h.1 in let apart = h.2 in let across = fr.across in let a = k.0 in let b = k.1 in let c = k.2 in
    inl (omega (arith, ints), omega (arith, ints), omega (arith, ints))
behind_further p r fp fr (inl h) x y (inr k) = let f = h.1 in inr (omega (arith, ints))
behind_further p r fp fr (inr h) x y (inl k) = let a = k.0 in inr (omega (arith, ints))
behind_further p r fp fr (inr h) x y (inr k) = let down = fr.down in inr (omega (arith, ints))

not_ahead : (r : Rect) (x y : ℤ) → IsAhead r x y → rect_has r x y ≡ false
not_ahead r x y (inl h) = ap (λ b. b && between r.top y r.bottom) (is_above r.left x r.right h.2)
not_ahead r x y (inr h) = not_in_rows r x y (is_above r.top y r.bottom h)

tail_of : (S : ℤ → ℤ → Bool) (Reach : ℤ → ℤ → Type 0) (r : Rect) (rs : List Rect) → IsTail S Reach (r ∷ rs) → IsTail S (IsAhead r) rs
tail_of S Reach r rs h =
    let order = pairs_head IsBefore r rs h.order in
    let edged = All-tail (IsEdged S) r rs h.edged in
    let full = (All-head (IsEdged S) r rs h.edged).full in
    record {
      pixels = λ x y a. h.pixels x y ((All-head (IsWithin Reach) r rs h.within).further x y a) ∙ ap (λ b. b || region_has rs x y) (not_ahead r x y a);
      within = λ k d m. record { first = behind_first r (get_or rs k d) full (edged k d m).full (order k d m); further = behind_further r (get_or rs k d) full (edged k d m).full (order k d m) };
      edged = edged;
      order = pairs_tail IsBefore r rs h.order;
    }

-- ---- the first rectangle

-- the rectangle that has a pixel
pub found : (P : Rect → Type 0) (rs : List Rect) (x y : ℤ) → All P rs → region_has rs x y ≡ true → (q : Rect) × ((rect_has q x y ≡ true) × P q)
found P [] x y h e = absurd (true≢false (sym e))
found P (r ∷ rs) x y h e =
    elim (or_cases (rect_has r x y) (region_has rs x y) e) [ inl k ↦ (r, (k, All-head P r rs h)) | inr k ↦ found P rs x y (All-tail P r rs h) k ]

abbrev IsFound : (ℤ → ℤ → Bool) → Rect → Rect → Type 0
IsFound S s q = ((s ≡ q) ⊎ IsBefore s q) × IsEdged S q

all_found : (S : ℤ → ℤ → Bool) (Reach : ℤ → ℤ → Type 0) (s : Rect) (rs : List Rect) → IsTail S Reach (s ∷ rs) → All (IsFound S s) (s ∷ rs)
all_found S Reach s rs h =
    All-cons (IsFound S s) s rs (inl refl, All-head (IsEdged S) s rs h.edged) (λ k d m. (inr (pairs_head IsBefore s rs h.order k d m), All-tail (IsEdged S) s rs h.edged k d m))

top_least : (s q : Rect) → IsNotEmpty s → (s ≡ q) ⊎ IsBefore s q → s.top ≤ℤ q.top
top_least s q full (inl e) = rw e (int_le_self q.top)
top_least s q full (inr (inl h)) = let e = h.0 in omega (arith, ints)
top_least s q full (inr (inr h)) = let down = full.down in omega (arith, ints)

left_least : (s q : Rect) → IsNotEmpty s → (s ≡ q) ⊎ IsBefore s q → q.top ≤ℤ s.top → s.left ≤ℤ q.left
left_least s q full (inl e) k = rw e (int_le_self q.left)
left_least s q full (inr (inl h)) k = let across = full.across in let apart = h.2 in omega (arith, ints)
left_least s q full (inr (inr h)) k = let down = full.down in absurd (omega (arith, ints))

-- in another list of the same pixels the first rectangle begins in no lower row, and there at no later column
first_there : (S : ℤ → ℤ → Bool) (Reach : ℤ → ℤ → Type 0) (r s : Rect) (as' bs : List Rect) → IsTail S Reach (r ∷ as') → IsTail S Reach (s ∷ bs) → (s.top ≤ℤ r.top) × (r.top ≤ℤ s.top → s.left ≤ℤ r.left)
first_there S Reach r s as' bs h k =
    let r_edged = All-head (IsEdged S) r as' h.edged in
    let s_edged = All-head (IsEdged S) s bs k.edged in
    let across = r_edged.full.across in
    let there : region_has (s ∷ bs) r.left r.top ≡ true = sym (k.pixels r.left r.top (All-head (IsWithin Reach) r as' h.within).first) ∙ r_edged.inside r.left (omega (arith, ints)) across in
    let q = found (IsFound S s) (s ∷ bs) r.left r.top (all_found S Reach s bs k) there in
    let parts = and_parts (between q.0.left r.left q.0.right) (between q.0.top r.top q.0.bottom) q.1.0 in
    let x_in = between_parts q.0.left q.0.right r.left parts.0 in
    let y_in = between_parts q.0.top q.0.bottom r.top parts.1 in
    let least = top_least s q.0 s_edged.full q.1.1.0 in
    let from = x_in.0 in
    let down = y_in.0 in
    (omega (arith, ints), λ same. le_along s.left q.0.left r.left (left_least s q.0 s_edged.full q.1.1.0 (omega (arith, ints))) from)

right_within : (S : ℤ → ℤ → Bool) (r s : Rect) → IsEdged S r → IsEdged S s → r.top ≡ s.top → r.left ≡ s.left → s.right ≤ℤ r.right
right_within S r s h k top left =
    by_lt_z {P = s.right ≤ℤ r.right} r.right s.right (λ m. let across = h.full.across in absurd (true≢false (sym (k.inside (r.right +ℤ pos 1) (omega (arith, ints)) (omega (arith, ints))) ∙ ap (S (r.right +ℤ pos 1)) (sym top) ∙ h.ends))) (λ m. m)

not_itself : (b : Bool) → b ≡ not b → ⊥
not_itself true e = true≢false e
not_itself false e = true≢false (sym e)

-- a rectangle found below another of the same list
found_below : (S : ℤ → ℤ → Bool) (r q : Rect) (y : ℤ) → (r ≡ q) ⊎ IsBefore r q → r.bottom <ℤ y → y ≤ℤ q.bottom → r.bottom <ℤ q.top
found_below S r q y (inl e) k m = absurd (below_self r q y e k m)
found_below S r q y (inr (inl h)) k m = let f = h.1 in absurd (omega (arith, ints))
found_below S r q y (inr (inr h)) k m = h

bottom_within : (S : ℤ → ℤ → Bool) (Reach : ℤ → ℤ → Type 0) (r s : Rect) (as' : List Rect) → IsTail S Reach (r ∷ as') → IsEdged S s → r.top ≡ s.top → s.bottom ≤ℤ r.bottom
bottom_within S Reach r s as' h k top =
    let r_edged = All-head (IsEdged S) r as' h.edged in
    let across = r_edged.full.across in
    let down = r_edged.full.down in
    by_lt_z {P = s.bottom ≤ℤ r.bottom} r.bottom s.bottom (λ m. let y = r.bottom +ℤ pos 1 in let below : (x : ℤ) → S x y ≡ S x r.top = λ x. k.rows x y (omega (arith, ints)) (omega (arith, ints)) ∙ ap (S x) (sym top) in let there : region_has (r ∷ as') r.left y ≡ true = sym (h.pixels r.left y ((All-head (IsWithin Reach) r as' h.within).further r.left y (inr (omega (arith, ints))))) ∙ below r.left ∙ r_edged.inside r.left (omega (arith, ints)) across in let q = found (IsFound S r) (r ∷ as') r.left y (all_found S Reach r as' h) there in let parts = and_parts (between q.0.left r.left q.0.right) (between q.0.top y q.0.bottom) q.1.0 in let y_in = between_parts q.0.top q.0.bottom y parts.1 in let further = found_below S r q.0 y q.1.1.0 (omega (arith, ints)) y_in.1 in let high = y_in.0 in let at : q.0.top ≡ y = omega (arith, ints) in let x = q.1.1.1.above.0 in let last : q.0.top -ℤ pos 1 ≡ r.bottom = omega (arith, ints) in absurd (not_itself (S x r.top) (sym (r_edged.rows x r.bottom down (int_le_self r.bottom)) ∙ ap (S x) (sym last) ∙ q.1.1.1.above.1 ∙ ap (λ z. not (S x z)) at ∙ ap not (below x)))) (λ m. m)

le_both : (a b : ℤ) → a ≤ℤ b → b ≤ℤ a → a ≡ b
le_both a b h k = omega (arith, ints)

same_first : (S : ℤ → ℤ → Bool) (Reach : ℤ → ℤ → Type 0) (r s : Rect) (as' bs : List Rect) → IsTail S Reach (r ∷ as') → IsTail S Reach (s ∷ bs) → r ≡ s
same_first S Reach r s as' bs h k =
    let p = first_there S Reach r s as' bs h k in
    let q = first_there S Reach s r bs as' k h in
    let top : r.top ≡ s.top = le_both r.top s.top q.0 p.0 in
    let left : r.left ≡ s.left = le_both r.left s.left (q.1 p.0) (p.1 q.0) in
    let r_edged = All-head (IsEdged S) r as' h.edged in
    let s_edged = All-head (IsEdged S) s bs k.edged in
    same_rects r.left s.left r.top s.top r.right s.right r.bottom s.bottom left top (le_both r.right s.right (right_within S s r s_edged r_edged (sym top) (sym left)) (right_within S r s r_edged s_edged top left)) (le_both r.bottom s.bottom (bottom_within S Reach s r bs k r_edged (sym top)) (bottom_within S Reach r s as' h s_edged top))

none_left : (S : ℤ → ℤ → Bool) (Reach : ℤ → ℤ → Type 0) (s : Rect) (bs : List Rect) → IsTail S Reach [] → IsTail S Reach (s ∷ bs) → ⊥
none_left S Reach s bs h k =
    let s_edged = All-head (IsEdged S) s bs k.edged in
    let across = s_edged.full.across in
    true≢false (sym (s_edged.inside s.left (omega (arith, ints)) across) ∙ h.pixels s.left s.top (All-head (IsWithin Reach) s bs k.within).first)

same_list : (r s : Rect) (as' bs : List Rect) → r ≡ s → as' ≡ bs → r ∷ as' ≡ s ∷ bs
same_list r s as' bs e f = rw (e, f) refl

same_tails : (S : ℤ → ℤ → Bool) (as' bs : List Rect) (Reach : ℤ → ℤ → Type 0) → IsTail S Reach as' → IsTail S Reach bs → as' ≡ bs
same_tails S [] [] Reach h k = refl
same_tails S [] (s ∷ bs) Reach h k = absurd (none_left S Reach s bs h k)
same_tails S (r ∷ as') [] Reach h k = absurd (none_left S Reach r as' k h)
same_tails S (r ∷ as') (s ∷ bs) Reach h k =
    let e = same_first S Reach r s as' bs h k in
    same_list r s as' bs e (same_tails S as' bs (IsAhead r) (tail_of S Reach r as' h) (rw e (tail_of S Reach s bs k)))

abbrev Anywhere : ℤ → ℤ → Type 0
Anywhere x y = Unit {0}

whole : (S : ℤ → ℤ → Bool) (rs : List Rect) → AreBands rs → ((x y : ℤ) → S x y ≡ region_has rs x y) → All (IsEdged S) rs → IsTail S Anywhere rs
whole S rs h same edges = record {
  pixels = λ x y a. same x y;
  within = λ k d m. record { first = tt; further = λ x y a. tt };
  edged = edges;
  order = h.in_order;
}

same_edges : (S T : ℤ → ℤ → Bool) (r : Rect) → ((x y : ℤ) → S x y ≡ T x y) → IsEdged T r → IsEdged S r
same_edges S T r same h = record {
  full = h.full;
  rows = λ x y a b. same x y ∙ h.rows x y a b ∙ sym (same x r.top);
  above = (h.above.0, same h.above.0 (r.top -ℤ pos 1) ∙ h.above.1 ∙ ap not (sym (same h.above.0 r.top)));
  inside = λ x a b. same x r.top ∙ h.inside x a b;
  ends = same (r.right +ℤ pos 1) r.top ∙ h.ends;
}

pub same_bands : SamePixelsSameBands
same_bands a b h k same =
    same_tails (region_has a) a b Anywhere (whole (region_has a) a h (λ x y. refl) (edged a h)) (whole (region_has a) b k same (λ i d m. same_edges (region_has a) (region_has b) (get_or b i d) same (edged b k i d m)))
