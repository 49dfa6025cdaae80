-- The rectangles of a region, one after another, of which the next one that has pixels of an area
-- is looked for.
use Rattle.std.specs.Prelude.{slice_get}
use Rattle.std.specs.List.{AllWithin}
use Rattle.std.proofs.Common.{◌≡◌, ℕ, zero, suc, ◌+◌, ◌-◌, ◌<◌, ◌≤◌, ℤ, pos, ◌-ℤ◌, ◌≤ℤ◌, ◌<ℤ◌, ◌⊎◌}
use Rattle.std.proofs.Common.{inl, inr}
use Rattle.std.proofs.Common.{Bool, true, false, ◌&&◌, ◌||◌, List, length, get_or, take, Some}
use Rattle.std.proofs.Common.{arith, refl, sym, ap, subst, ◌∙◌}
use Rattle.std.proofs.lemmas.Bool.{and_parts, true≢false}
use Rattle.std.proofs.lemmas.Int.{ints, clamps}
use Rattle.std.proofs.lemmas.List.{take_all}
use Rattle.std.proofs.lemmas.Option.{slice_get_within, get_or_from_slice_get}
use Rattle.be_facts.proofs.Truths.{and_false_second}
use Rattle.be_geom.specs.declared.rect.Rect.{Rect}
use Rattle.be_geom.specs.Rects.{rect_has}
use Rattle.be_region.specs.Regions.{region_has, IsNotEmpty}
use Rattle.be_region.specs.Bands.{IsBefore, AreBands}
use Rattle.be_region.specs.Places.{is_passed}
use Rattle.be_region.proofs.CountLemmas.{has_more}
use Rattle.be_region.proofs.LawLemmas.{same_default}
use Rattle.be_region.proofs.PlaceLemmas.{partitioned, passed_cases}
use Rattle.be_span.proofs.GridLemmas.{IsIn, in_from}
use Rattle.be_descent.specs.declared.way.Way.{Way}
use Rattle.be_descent.specs.Places.{has_moved, lies_at, HasNoMore, IsBeside, IsNext, IsPartOf}
use Rattle.be_descent.specs.Places.{IsStartRow}
use Rattle.be_descent.proofs.BandLemmas.{separate}
use Rattle.be_descent.proofs.CutLemmas.{and_false}

-- ---- bisection

-- the rectangles up to one that a pixel is behind
pub passed_to : (rs : List Rect) (x y : ℤ) (from middle : ℕ) (r : Rect) → AreBands rs
    → slice_get rs middle ≡ Some r → is_passed r x y ≡ true
    → AllWithin (λ q. is_passed q x y ≡ true) rs from (middle + 1)
passed_to rs x y from middle r bands got e k d low less =
    partitioned rs x y bands k middle d (omega arith) (slice_get_within rs middle r got)
    (ap (λ q. is_passed q x y) (get_or_from_slice_get rs middle r d got) ∙ e)

-- ---- rectangles beside an area

-- what is known of the pixel from which on the walk goes, past a rectangle beside the area
abbrev pub IsStart : Rect → Rect → Way → ℤ → ℤ → Type 0
IsStart area q way x y = (x ≡ area.left -ℤ way.right) × IsStartRow area q way y

pub beside_from : (area r : Rect) (way : Way)
    → ((x y : ℤ) → IsIn area x y → IsIn r (x -ℤ way.right) (y -ℤ way.down) → ⊥)
    → IsBeside area r way
beside_from area r way h x y =
    and_false (rect_has area x y) (has_moved r way x y)
    (λ p q. h x y (in_from area x y p) (in_from r (x -ℤ way.right) (y -ℤ way.down) q))

beside_passed : (area q r : Rect) (way : Way) (x y : ℤ) → IsNotEmpty q → IsNotEmpty r → IsBefore q r
    → IsStart area q way x y → (r.bottom <ℤ y) ⊎ ((r.top ≤ℤ y) × (r.right <ℤ x))
    → IsBeside area r way
beside_passed area q r way x y full some before start (inr right) =
    let e = start.0 in let less = right.1 in
    beside_from area r way (λ u w i j. let a = i.left in let b = j.right in omega (arith, ints))
beside_passed area q r way x y full some (inl same) (e, inl f) (inl low) =
    let less = f.0 in let is = f.1 in let side = same.2 in let wide = full.across in
    beside_from area r way (λ u w i j. let a = i.right in let b = j.left in omega (arith, ints))
beside_passed area q r way x y full some (inr above) (e, inl f) (inl low) =
    let is = f.1 in let tall = some.down in absurd (omega (arith, ints))
beside_passed area q r way x y full some (inl same) (e, inr f) (inl low) =
    let ends = same.1 in let tall = full.down in
    beside_from area r way (λ u w i j. let a = i.top in
    let b = j.bottom in omega (arith, ints, clamps))
beside_passed area q r way x y full some (inr above) (e, inr f) (inl low) =
    let tall = some.down in let high = full.down in
    beside_from area r way (λ u w i j. let a = i.top in
    let b = j.bottom in omega (arith, ints, clamps))

beside_below : (area q r : Rect) (way : Way) → IsNotEmpty q → IsBefore q r
    → (area.bottom -ℤ way.down) <ℤ q.top → IsBeside area r way
beside_below area q r way full (inl same) h =
    let begins = same.0 in
    beside_from area r way (λ u w i j. let a = i.bottom in let b = j.top in omega (arith, ints))
beside_below area q r way full (inr above) h =
    let tall = full.down in
    beside_from area r way (λ u w i j. let a = i.bottom in let b = j.top in omega (arith, ints))

full_at : (rs : List Rect) (place : ℕ) (q : Rect) → AreBands rs → slice_get rs place ≡ Some q
    → IsNotEmpty q
full_at rs place q bands got =
    subst IsNotEmpty (get_or_from_slice_get rs place q q got)
    (bands.none_empty place q (slice_get_within rs place q got))

-- each rectangle behind one that is beside the area is so too
rest_beside : (rs : List Rect) (place n : ℕ) (q area : Rect) (way : Way) → AreBands rs
    → slice_get rs place ≡ Some q → IsBeside area q way → n ≤ length rs
    → ((r : Rect) (k : ℕ) → place < k → k < n → IsBefore q r → IsNotEmpty r → r ≡ get_or rs k r
    → IsBeside area r way) → AllWithin (λ r. IsBeside area r way) rs place n
rest_beside rs place n q area way bands got first within each k d low less =
    elim (here_or_behind place k low) [
      | inl same ↦ subst (λ (r : Rect). IsBeside area r way)
          (sym (get_or_from_slice_get rs place q d got) ∙ ap (λ i. get_or rs i d) same) first
      | inr more ↦
          let r = get_or rs k d in
          each r k more less (subst (λ (p : Rect). IsBefore p r)
          (get_or_from_slice_get rs place q d got)
          (bands.in_order place k d more (omega arith))) (bands.none_empty k d (omega arith))
          (same_default rs k d r (omega arith))
    ]
  where
    here_or_behind : (i j : ℕ) → i ≤ j → (i ≡ j) ⊎ (i < j)
    here_or_behind i j h = grind arith

pub past_below : (rs : List Rect) (place : ℕ) (q area : Rect) (way : Way) → AreBands rs
    → slice_get rs place ≡ Some q → IsBeside area q way → (area.bottom -ℤ way.down) <ℤ q.top
    → AllWithin (λ r. IsBeside area r way) rs place (length rs)
past_below rs place q area way bands got first h =
    rest_beside rs place (length rs) q area way bands got first (omega arith)
    (λ r k more less before some is. beside_below area q r way (full_at rs place q bands got)
    before h)

pub past_passed : (rs : List Rect) (place n : ℕ) (q area : Rect) (way : Way) (x y : ℤ) → AreBands rs
    → slice_get rs place ≡ Some q → IsBeside area q way → IsStart area q way x y → n ≤ length rs
    → AllWithin (λ r. is_passed r x y ≡ true) rs (place + 1) n
    → AllWithin (λ r. IsBeside area r way) rs place n
past_passed rs place n q area way x y bands got first start within passed =
    rest_beside rs place n q area way bands got first within
    (λ r k more less before some is. beside_passed area q r way x y
    (full_at rs place q bands got) some before start
    (passed_cases r x y (ap (λ p. is_passed p x y) is ∙ passed k r (omega arith) less)))

-- ---- the next one

-- where some rectangles don't have a pixel, those up to them have it as those before them
pub take_skip : (rs : List Rect) (from j : ℕ) (x y : ℤ) → from + j ≤ length rs
    → AllWithin (λ r. rect_has r x y ≡ false) rs from (from + j)
    → region_has (take (from + j) rs) x y ≡ region_has (take from rs) x y
take_skip rs from zero x y h none = ap (λ n. region_has (take n rs) x y) (omega arith)
take_skip rs from (suc j) x y h none =
    let d : Rect = record { left = pos 0; top = pos 0; right = pos 0; bottom = pos 0 } in
    let n : from + suc j ≡ from + j + 1 = omega arith in
    ap (λ m. region_has (take m rs) x y) n ∙ has_more rs (from + j) d x y (omega arith)
    ∙ or_off (region_has (take (from + j) rs) x y) (rect_has (get_or rs (from + j) d) x y)
    (none (from + j) d (omega arith) (omega arith))
    ∙ take_skip rs from j x y (omega arith) (λ k e low less. none k e low (omega arith))
  where
    or_off : (a b : Bool) → b ≡ false → (a || b) ≡ a
    or_off true b e = refl
    or_off false b e = e

pub skipped : (rs : List Rect) (from place next : ℕ) (area : Rect) (way : Way) → place ≤ next
    → next ≤ length rs → AllWithin (λ r. IsBeside area r way) rs place next
    → ((x y : ℤ) → rect_has area x y ≡ true
    → lies_at (take place rs) way x y ≡ lies_at (take from rs) way x y) → (x y : ℤ)
    → rect_has area x y ≡ true → lies_at (take next rs) way x y ≡ lies_at (take from rs) way x y
skipped rs from place next area way more within beside before x y has =
    let n : place + (next - place) ≡ next = omega arith in
    ap (λ m. lies_at (take m rs) way x y) (sym n)
    ∙ take_skip rs place (next - place) (x -ℤ way.right) (y -ℤ way.down) (omega arith)
    (λ k d low less. and_false_second (rect_has area x y) (has_moved (get_or rs k d) way x y)
    (beside k d low (omega arith) x y) has) ∙ before x y has

pub none_behind : (rs : List Rect) (from place : ℕ) (area : Rect) (way : Way) → length rs ≤ place
    → ((x y : ℤ) → rect_has area x y ≡ true
    → lies_at (take place rs) way x y ≡ lies_at (take from rs) way x y) → HasNoMore rs from way area
none_behind rs from place area way end before x y has =
    ap (λ l. lies_at l way x y) (sym (take_all place rs end)) ∙ before x y has

both_parts : (a b c : Bool) → a ≡ (b && c) → a ≡ true → (b ≡ true) × (c ≡ true)
both_parts a b c e h = and_parts b c (sym e ∙ h)

with_area : (a b c d : Bool) → b ≡ true → a ≡ (b && c) → (d || c) ≡ (d || a)
with_area a b c d h e = ap (λ z. d || z) (sym (e ∙ ap (λ z. z && c) h))

pub next_is : (rs : List Rect) (from place : ℕ) (r part area : Rect) (way : Way) → AreBands rs
    → slice_get rs place ≡ Some r → from ≤ place → IsPartOf part area r way
    → ((x y : ℤ) → rect_has area x y ≡ true
    → lies_at (take place rs) way x y ≡ lies_at (take from rs) way x y)
    → IsNext rs from way area record { part = part; after = place + 1 }
next_is rs from place r part area way bands got ahead of before =
    let less = slice_get_within rs place r got in
    let is = get_or_from_slice_get rs place r r got in
    record {
      ahead = omega arith;
      there = omega arith;
      some = of.some;
      inside = λ x y h. (both_parts (rect_has part x y) (rect_has area x y) (has_moved r way x y)
          (of.both x y) h).0;
      one = λ d x y h.
          let n : place + 1 - 1 ≡ place = omega arith in
          ap (λ k. has_moved (get_or rs k d) way x y) n
          ∙ ap (λ q. has_moved q way x y) (get_or_from_slice_get rs place r d got)
          ∙ (both_parts (rect_has part x y) (rect_has area x y) (has_moved r way x y)
          (of.both x y) h).1;
      apart = λ x y h.
          let parts = both_parts (rect_has part x y) (rect_has area x y) (has_moved r way x y)
          (of.both x y) h in
          sym (before x y parts.0) ∙ not_before (lies_at (take place rs) way x y)
          (has_moved r way x y) (λ e. ap (λ q. has_moved q way x y) (sym is)
          ∙ separate rs bands.in_order place r (x -ℤ way.right) (y -ℤ way.down) less e) parts.1;
      up_to = λ x y h. has_more rs place r (x -ℤ way.right) (y -ℤ way.down) less
          ∙ ap (λ q. lies_at (take place rs) way x y || has_moved q way x y) is
          ∙ ap (λ b. b || has_moved r way x y) (before x y h)
          ∙ with_area (rect_has part x y) (rect_has area x y) (has_moved r way x y)
          (lies_at (take from rs) way x y) h (of.both x y);
    }
  where
    not_before : (a b : Bool) → (a ≡ true → b ≡ false) → b ≡ true → a ≡ false
    not_before true b h e = absurd (true≢false (sym e ∙ h refl))
    not_before false b h e = refl
