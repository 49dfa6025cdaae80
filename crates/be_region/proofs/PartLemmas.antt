-- Bands that stay as they are, above those that are walked and below them.
use Rattle.std.proofs.Common.{◌≡◌, ℕ, ◌-◌, ◌<◌, ℤ, pos, ◌+ℤ◌, ◌-ℤ◌, ◌≤ℤ◌, ◌<ℤ◌, inl, inr, true, false, List, [], ◌∷◌, ◌++◌, length, get_or, take, drop, All, arith, refl, sym, ap, ◌∙◌}
use Rattle.std.specs.Prelude.{int_lt, int_le}
use Rattle.std.specs.List.{AllPairs}
use Rattle.std.specs.List.Sorted.{IsPartitionedBy}
use Rattle.std.proofs.lemmas.Int.{ints}
use Rattle.std.proofs.lemmas.Bool.{cases_order}
use Rattle.std.proofs.lemmas.List.{append_assoc, take-append-drop}
use Rattle.std.proofs.lemmas.List.Elements.{All-nil, All-head, All-tail, All-cons, All-weaker}
use Rattle.be_geom.specs.declared.rect.Rect.{Rect}
use Rattle.be_region.specs.Regions.{region_has, IsNotEmpty}
use Rattle.be_region.specs.Bands.{IsBefore, AreBands}
use Rattle.be_region.specs.Parts.{IsCut}
use Rattle.be_region.proofs.LawLemmas.{same_default}
use Rattle.be_region.proofs.PairLemmas.{pairs_head, pairs_tail, pairs_none, pairs_cons}
use Rattle.be_region.proofs.RowLemmas.{none_above, none_below}

-- ---- two lists, one after another

pub All-left : {X : Type 0} (P : X → Type 0) (xs ys : List X) → All P (xs ++ ys) → All P xs
All-left P [] ys h = All-nil P
All-left P (x ∷ xs) ys h = All-cons P x xs (All-head P x (xs ++ ys) h) (All-left P xs ys (All-tail P x (xs ++ ys) h))

pub All-right : {X : Type 0} (P : X → Type 0) (xs ys : List X) → All P (xs ++ ys) → All P ys
All-right P [] ys h = h
All-right P (x ∷ xs) ys h = All-right P xs ys (All-tail P x (xs ++ ys) h)

pub pairs_left : {X : Type 0} (R : X → X → Type 0) (xs ys : List X) → AllPairs R (xs ++ ys) → AllPairs R xs
pairs_left R [] ys h = pairs_none R
pairs_left R (x ∷ xs) ys h = pairs_cons R x xs (All-left (R x) xs ys (pairs_head R x (xs ++ ys) h)) (pairs_left R xs ys (pairs_tail R x (xs ++ ys) h))

pub pairs_right : {X : Type 0} (R : X → X → Type 0) (xs ys : List X) → AllPairs R (xs ++ ys) → AllPairs R ys
pairs_right R [] ys h = h
pairs_right R (x ∷ xs) ys h = pairs_right R xs ys (pairs_tail R x (xs ++ ys) h)

pub pairs_cross : {X : Type 0} (R : X → X → Type 0) (xs ys : List X) → AllPairs R (xs ++ ys) → All (λ x. All (R x) ys) xs
pairs_cross R [] ys h = All-nil (λ x. All (R x) ys)
pairs_cross R (x ∷ xs) ys h =
    All-cons (λ z. All (R z) ys) x xs (All-right (R x) xs ys (pairs_head R x (xs ++ ys) h)) (pairs_cross R xs ys (pairs_tail R x (xs ++ ys) h))

-- ---- where bands are cut

lt_true : (a b : ℤ) → int_lt a b ≡ true → a <ℤ b
lt_true a b e = grind (arith, ints)

le_true : (a b : ℤ) → int_le a b ≡ true → a ≤ℤ b
le_true a b e = grind (arith, ints)

true_lt : (a b : ℤ) → a <ℤ b → int_lt a b ≡ true
true_lt a b e = grind (arith, ints)

true_le : (a b : ℤ) → a ≤ℤ b → int_le a b ≡ true
true_le a b e = grind (arith, ints)

bottom_before : (r s : Rect) (y : ℤ) → IsBefore r s → IsNotEmpty s → s.bottom <ℤ y → r.bottom <ℤ y
bottom_before r s y (inl h) full k = let e = h.1 in omega (arith, ints)
bottom_before r s y (inr h) full k = let down = full.down in omega (arith, ints)

top_before : (r s : Rect) (y : ℤ) → IsBefore r s → IsNotEmpty r → s.top ≤ℤ y → r.top ≤ℤ y
top_before r s y (inl h) full k = let e = h.0 in omega (arith, ints)
top_before r s y (inr h) full k = let down = full.down in omega (arith, ints)

pub ends_partitioned : (rs : List Rect) (y : ℤ) → All IsNotEmpty rs → AllPairs IsBefore rs → IsPartitionedBy (λ r. int_lt r.bottom y) rs
ends_partitioned rs y full order i j d m n e =
    elim (cases_order i j) [ inl same ↦ ap (λ k. int_lt (get_or rs k d).bottom y) same ∙ e | inr other ↦ elim other [ inl less ↦ true_lt (get_or rs i d).bottom y (bottom_before (get_or rs i d) (get_or rs j d) y (order i j d less n) (full j d n) (lt_true (get_or rs j d).bottom y e)) | inr more ↦ absurd (omega arith) ] ]

pub begins_partitioned : (rs : List Rect) (y : ℤ) → All IsNotEmpty rs → AllPairs IsBefore rs → IsPartitionedBy (λ r. int_le r.top y) rs
begins_partitioned rs y full order i j d m n e =
    elim (cases_order i j) [ inl same ↦ ap (λ k. int_le (get_or rs k d).top y) same ∙ e | inr other ↦ elim other [ inl less ↦ true_le (get_or rs i d).top y (top_before (get_or rs i d) (get_or rs j d) y (order i j d less n) (full i d (omega arith)) (le_true (get_or rs j d).top y e)) | inr more ↦ absurd (omega arith) ] ]

-- ---- the rows beside all bands

least_top : (r : Rect) (rs : List Rect) → All IsNotEmpty (r ∷ rs) → AllPairs IsBefore (r ∷ rs) → All (λ s. r.top ≤ℤ s.top) (r ∷ rs)
least_top r rs full order =
    All-cons (λ (s : Rect). r.top ≤ℤ s.top) r rs (omega (arith, ints)) (All-weaker (IsBefore r) (λ s. r.top ≤ℤ s.top) (λ s h. top_least r s (All-head IsNotEmpty r rs full) h) rs (pairs_head IsBefore r rs order))
  where
    top_least : (r s : Rect) → IsNotEmpty r → IsBefore r s → r.top ≤ℤ s.top
    top_least r s full (inl h) = let e = h.0 in omega (arith, ints)
    top_least r s full (inr h) = let down = full.down in omega (arith, ints)

pub none_over : (rs : List Rect) (r : Rect) (first : ℤ) → AreBands rs → 0 < length rs → r ≡ get_or rs 0 r → first ≡ (r.top -ℤ pos 1) → (x y : ℤ) → y ≤ℤ first → region_has rs x y ≡ false
none_over [] r first h some e f x y k = refl
none_over (s ∷ rs) r first h some e f x y k =
    none_below first (s ∷ rs) (All-weaker (λ (q : Rect). s.top ≤ℤ q.top) (λ q. first <ℤ q.top) (λ q m. let g : r.top ≡ s.top = ap (λ (p : Rect). p.top) e in omega (arith, ints)) (s ∷ rs) (least_top s rs h.none_empty h.in_order)) x y k

last_least : (r s : Rect) → IsNotEmpty s → IsBefore r s → r.bottom ≤ℤ s.bottom
last_least r s full (inl h) = let e = h.1 in omega (arith, ints)
last_least r s full (inr h) = let down = full.down in omega (arith, ints)

pub none_under : (rs : List Rect) (r : Rect) (last : ℤ) → AreBands rs → 0 < length rs → r ≡ get_or rs (length rs - 1) r → last ≡ (r.bottom +ℤ pos 1) → (x y : ℤ) → last ≤ℤ y → region_has rs x y ≡ false
none_under rs r last h some e f x y k =
    none_above last rs (λ i d m.
    let n : ℕ = length rs - 1 in
    let within : n < length rs = omega arith in
    let at : get_or rs n d ≡ r = same_default rs n d r within ∙ sym e in
    let bottom : (get_or rs n d).bottom ≡ r.bottom = ap (λ (q : Rect). q.bottom) at in
    elim (cases_order i n) as (λ _. (get_or rs i d).bottom <ℤ last) [ inl same ↦ let g : (get_or rs i d).bottom ≡ (get_or rs n d).bottom = ap (λ j. (get_or rs j d).bottom) same in omega (arith, ints) | inr other ↦ elim other as (λ _. (get_or rs i d).bottom <ℤ last) [ inl less ↦ let g = last_least (get_or rs i d) (get_or rs n d) (h.none_empty n d within) (h.in_order i n d less within) in omega (arith, ints) | inr more ↦ absurd (omega arith) ] ]) x y k

-- ---- the bands in the middle

pub middle_full : (rs above middle below : List Rect) (first last : ℤ) → IsCut rs first last above middle below → All IsNotEmpty rs → All IsNotEmpty middle
middle_full rs above middle below first last h full =
    All-left IsNotEmpty middle below (All-right IsNotEmpty above (middle ++ below) (rw h.whole at full))

pub middle_order : (rs above middle below : List Rect) (first last : ℤ) → IsCut rs first last above middle below → AllPairs IsBefore rs → AllPairs IsBefore middle
middle_order rs above middle below first last h order =
    pairs_left IsBefore middle below (pairs_right IsBefore above (middle ++ below) (rw h.whole at order))

-- ---- the bands above, those that are made and those below

pub three_parts : (above first made below all : List Rect) → first ≡ above → take (length first) made ≡ first → all ≡ made ++ below → all ≡ above ++ (drop (length first) made ++ below)
three_parts above first made below all e f g =
    let n = length first in
    g ∙ ap (λ (rs : List Rect). rs ++ below) (sym (take-append-drop n made)) ∙ ap (λ (rs : List Rect). (rs ++ drop n made) ++ below) (f ∙ e) ∙ append_assoc above (drop n made) below
