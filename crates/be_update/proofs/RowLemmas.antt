-- The rectangles of a row's pixels that wait, run by run.
use Rattle.std.proofs.Common.{◌≡◌, ℕ, ◌+◌, ◌<◌, ◌≤◌, ℤ, pos, negsuc, ◌+ℤ◌, ◌-ℤ◌, ◌≤ℤ◌, ◌<ℤ◌, Bool, true, false, ◌&&◌, ◌||◌, ◌⊎◌, inl, inr, zero, suc, List, [], ◌∷◌, ◌++◌, Option, Some, None, length, take, arith, refl, sym, ap, ◌∙◌}
use Rattle.std.specs.Prelude.{slice_get}
use Rattle.std.specs.Option.{option_map}
use Rattle.std.specs.Ordering.{int_eq}
use Rattle.std.proofs.lemmas.Int.{ints}
use Rattle.std.proofs.lemmas.List.{length-take, take_all}
use Rattle.std.proofs.lemmas.Bool.{cases_lt, true≢false}
use Rattle.std.proofs.lemmas.Bool.Decides.{Decides-int_eq}
use Rattle.std.proofs.lemmas.Option.{none-some, same_Some, slice_get_past}
use Rattle.be_facts.proofs.Numbers.{suc_more}
use Rattle.be_facts.proofs.Truths.{or_assoc, and_true, and_false, with_or_false, true_or_false}
use Rattle.be_facts.proofs.Lists.{get_take}
use Rattle.be_geom.specs.declared.rect.Rect.{Rect}
use Rattle.be_geom.specs.Points.{between}
use Rattle.be_geom.specs.Rects.{rect_has}
use Rattle.be_geom.proofs.Between.{between_tells, is_above, is_below, is_between, between_parts}
use Rattle.be_region.specs.Regions.{region_has}
use Rattle.be_region.proofs.CountLemmas.{has-append}
use Rattle.be_span.specs.declared.Cell.{Cell}
use Rattle.be_span.specs.Spans.{Spans, cell_in, is_dirty, pixels_of}
use Rattle.be_span.proofs.CellLemmas.{cell_none, cell_some}
use Rattle.be_update.specs.Rows.{HasMore, IsAllOf, waits_at, waits_in, rows_of}

-- ---- cells

seen : (o : Option Cell) (b : Bool) → option_map (λ c. c.dirty) o ≡ Some b → is_dirty o ≡ b
seen (Some c) b h = same_Some c.dirty b h
seen None b h = absurd (none-some b h)

below : (cells : List Cell) (n k : ℕ) → k < n → is_dirty (slice_get (take n cells) k) ≡ is_dirty (slice_get cells k)
below cells n k h = ap is_dirty (get_take n cells k h)

past : (cells : List Cell) (n k : ℕ) → n ≤ k → is_dirty (slice_get (take n cells) k) ≡ false
past cells n k h = ap is_dirty (slice_get_past (take n cells) k (omega (arith, length-take n cells)))

-- a run from one place to before another, behind some cells that don't wait
pub record IsRun (cells : List Cell) (at start end : ℕ) : Type 0 where
  pub forward : at ≤ start
  pub ends : start ≤ end
  pub clean : IsAllOf false cells at start
  pub dirty : IsAllOf true cells start end

outside : (cells : List Cell) (at start end k : ℕ) → IsRun cells at start end → (k < start) ⊎ (end ≤ k) → is_dirty (slice_get (take end cells) k) ≡ (is_dirty (slice_get (take at cells) k) || false)
outside cells at start end k run (inr behind) =
    past cells end k behind ∙ sym (past cells at k (let f = run.forward in let e = run.ends in omega arith)) ∙ with_or_false _
outside cells at start end k run (inl before) =
    elim (cases_lt k at) [
      | inl less ↦ below cells end k (let e = run.ends in omega arith) ∙ sym (below cells at k less) ∙ with_or_false _
      | inr more ↦ below cells end k (let e = run.ends in omega arith) ∙ seen (slice_get cells k) false (run.clean k more before) ∙ sym (past cells at k more) ∙ with_or_false _
    ]

inside : (cells : List Cell) (at start end k : ℕ) → IsRun cells at start end → start ≤ k → k < end → is_dirty (slice_get (take end cells) k) ≡ (is_dirty (slice_get (take at cells) k) || true)
inside cells at start end k run from to =
    below cells end k to ∙ seen (slice_get cells k) true (run.dirty k from to)
    ∙ sym (ap (λ v. v || true) (past cells at k (let f = run.forward in omega arith)))

-- ---- one row

not_between : (low z high : ℤ) → between low z high ≡ false → (z <ℤ low) ⊎ (high <ℤ z)
not_between low z high h = grind (arith, ints, between_tells)

-- the columns of a run, which are counted from the left
pub record IsRunAt (r : Rect) (left : ℤ) (start end : ℕ) : Type 0 where
  pub first : r.left ≡ left +ℤ pos start
  pub last : r.right +ℤ pos 1 ≡ left +ℤ pos end

columns : (cells : List Cell) (at start end : ℕ) (r : Rect) (left x z : ℤ) → IsRun cells at start end → IsRunAt r left start end → z ≡ x -ℤ left → waits_at (take end cells) z ≡ (waits_at (take at cells) z || between r.left x r.right)
columns cells at start end r left x (pos k) run place e =
    let first = place.first in
    let last = place.last in
    elim (true_or_false (between r.left x r.right)) [
      | inl h ↦
          let parts = between_parts r.left r.right x h in
          let from : start ≤ k = let a = parts.0 in omega (arith, ints) in
          let to : k < end = let b = parts.1 in omega (arith, ints) in
          inside cells at start end k run from to ∙ sym (ap (λ v. is_dirty (slice_get (take at cells) k) || v) h)
      | inr h ↦
          outside cells at start end k run (elim (not_between r.left x r.right h) [ inl a ↦ inl (omega (arith, ints)) | inr b ↦ inr (omega (arith, ints)) ])
          ∙ sym (ap (λ v. is_dirty (slice_get (take at cells) k) || v) h)
    ]
columns cells at start end r left x (negsuc k) run place e =
    let first = place.first in
    sym (is_below r.left x r.right (omega (arith, ints)))

eq_is : (w y : ℤ) → int_eq w y ≡ true → w ≡ y
eq_is w y h = (Decides-int_eq w y).0 h

same_is : (w y : ℤ) → w ≡ y → int_eq w y ≡ true
same_is w y e = (Decides-int_eq w y).1 e

other_row : (w y : ℤ) → int_eq w y ≡ false → between y w y ≡ false
other_row w y h =
    elim (true_or_false (between y w y)) [
      | inl b ↦ let parts = between_parts y y w b in absurd (true≢false (sym (same_is w y (let a = parts.0 in let c = parts.1 in omega (arith, ints))) ∙ h))
      | inr b ↦ b
    ]

-- the cells that wait up to the end of a run are those before it, and the run's rectangle
row_waits : (cells : List Cell) (at start end : ℕ) (r : Rect) (left y x w : ℤ) → IsRun cells at start end → IsRunAt r left start end → r.top ≡ y → r.bottom ≡ y → waits_in (take end cells) left y x w ≡ (waits_in (take at cells) left y x w || rect_has r x w)
row_waits cells at start end r left y x w run place top bottom =
    elim (true_or_false (int_eq w y)) [
      | inl h ↦
          let here : between r.top w r.bottom ≡ true = rw (top, bottom, eq_is w y h) (is_between y y y (omega (arith, ints)) (omega (arith, ints))) in
          ap (λ v. v && waits_at (take end cells) (x -ℤ left)) h
          ∙ columns cells at start end r left x (x -ℤ left) run place refl
          ∙ sym (ap (λ v. (v && waits_at (take at cells) (x -ℤ left)) || rect_has r x w) h ∙ ap (λ v. waits_at (take at cells) (x -ℤ left) || (between r.left x r.right && v)) here ∙ ap (λ v. waits_at (take at cells) (x -ℤ left) || v) (and_true (between r.left x r.right)))
      | inr h ↦
          let gone : between r.top w r.bottom ≡ false = rw (top, bottom) (other_row w y h) in
          ap (λ v. v && waits_at (take end cells) (x -ℤ left)) h
          ∙ sym (ap (λ v. (v && waits_at (take at cells) (x -ℤ left)) || rect_has r x w) h ∙ ap (λ v. between r.left x r.right && v) gone ∙ and_false (between r.left x r.right))
    ]

pub row_more : (cells : List Cell) (at start end : ℕ) (r : Rect) (left y : ℤ) (old now new : List Rect) → IsRun cells at start end → IsRunAt r left start end → r.top ≡ y → r.bottom ≡ y → HasMore (waits_in (take at cells) left y) old now → new ≡ now ++ r ∷ [] → HasMore (waits_in (take end cells) left y) old new
row_more cells at start end r left y old now new run place top bottom more e x w =
    ap (λ rs. region_has rs x w) e ∙ has-append now (r ∷ []) x w
    ∙ ap (λ v. v || region_has (r ∷ []) x w) (more x w)
    ∙ ap (λ v. (region_has old x w || waits_in (take at cells) left y x w) || v) (sym (with_or_false (rect_has r x w)))
    ∙ or_assoc (region_has old x w) (waits_in (take at cells) left y x w) (rect_has r x w)
    ∙ ap (λ v. region_has old x w || v) (sym (row_waits cells at start end r left y x w run place top bottom))

-- where there is no run, no more cells wait
stays : (cells : List Cell) (at start : ℕ) (z : ℤ) → IsRun cells at start start → waits_at (take start cells) z ≡ waits_at (take at cells) z
stays cells at start (pos k) run = outside cells at start start k run (cases_lt k start) ∙ sym (with_or_false _)
stays cells at start (negsuc k) run = refl

pub row_passed : (cells : List Cell) (at start : ℕ) (left y : ℤ) (old now : List Rect) → IsRun cells at start start → HasMore (waits_in (take at cells) left y) old now → HasMore (waits_in (take start cells) left y) old now
row_passed cells at start left y old now run more x w =
    more x w ∙ ap (λ v. region_has old x w || (int_eq w y && v)) (sym (stays cells at start (x -ℤ left) run))

-- ---- the way on

got : (cells : List Cell) (k : ℕ) → k < length cells → (c : Cell) × (slice_get cells k ≡ Some c)
got [] k h = absurd (omega arith)
got (c ∷ cells) zero h = (c, refl)
got (c ∷ cells) (suc k) h = got cells k (omega arith)

marked : (b : Bool) (o : Option Cell) (c : Cell) → o ≡ Some c → c.dirty ≡ b → option_map (λ (d : Cell). d.dirty) o ≡ Some b
marked b o c e h = ap (option_map (λ (d : Cell). d.dirty)) e ∙ ap (λ v. Some v) h

-- both runs end where they begin at no cell
pub moves_on : (cells : List Cell) (at start end : ℕ) → at < length cells → at ≤ start → start ≤ end → (start < length cells → ¬ (option_map (λ c. c.dirty) (slice_get cells start) ≡ Some false)) → (end < length cells → ¬ (option_map (λ c. c.dirty) (slice_get cells end) ≡ Some true)) → at < end
moves_on cells at start end here forward ends clean dirty =
    elim (cases_lt at end) [
      | inl less ↦ less
      | inr more ↦
          let s : start ≡ at = omega arith in
          let e : end ≡ at = omega arith in
          let cell = got cells at here in
          elim (true_or_false cell.0.dirty) [
            | inl h ↦ absurd (dirty (omega arith) (marked true (slice_get cells end) cell.0 (ap (slice_get cells) e ∙ cell.1) h))
            | inr h ↦ absurd (clean (omega arith) (marked false (slice_get cells start) cell.0 (ap (slice_get cells) s ∙ cell.1) h))
          ]
    ]

-- ---- all rows of a rectangle

pub rows_none : (r : Rect) (x y : ℤ) → rect_has (rows_of r 0) x y ≡ false
rows_none r x y =
    let e : between r.top y (r.top +ℤ pos 0 -ℤ pos 1) ≡ false = elim (true_or_false (between r.top y (r.top +ℤ pos 0 -ℤ pos 1))) [
      | inl h ↦ let parts = between_parts r.top (r.top +ℤ pos 0 -ℤ pos 1) y h in absurd (let a = parts.0 in let b = parts.1 in omega (arith, ints))
      | inr h ↦ h
    ] in
    ap (λ v. between r.left x r.right && v) e ∙ and_false (between r.left x r.right)

behind : (top w : ℤ) (n : ℕ) → (top +ℤ pos n -ℤ pos 1) <ℤ w → (w ≡ top +ℤ pos n → ⊥) → (top +ℤ pos (n + 1) -ℤ pos 1) <ℤ w
behind top w n h other = grind (arith, ints)

row_below : (top w : ℤ) (n : ℕ) → between top w (top +ℤ pos (n + 1) -ℤ pos 1) ≡ (between top w (top +ℤ pos n -ℤ pos 1) || int_eq w (top +ℤ pos n))
row_below top w n =
    elim (true_or_false (int_eq w (top +ℤ pos n))) [
      | inl h ↦
          let e = eq_is w (top +ℤ pos n) h in
          is_between top w (top +ℤ pos (n + 1) -ℤ pos 1) (omega (arith, ints)) (omega (arith, ints))
          ∙ sym (ap (λ v. v || int_eq w (top +ℤ pos n)) (is_above top w (top +ℤ pos n -ℤ pos 1) (omega (arith, ints))) ∙ h)
      | inr h ↦
          elim (true_or_false (between top w (top +ℤ pos n -ℤ pos 1))) [
            | inl b ↦
                let parts = between_parts top (top +ℤ pos n -ℤ pos 1) w b in
                is_between top w (top +ℤ pos (n + 1) -ℤ pos 1) parts.0 (let c = parts.1 in omega (arith, ints)) ∙ sym (ap (λ v. v || int_eq w (top +ℤ pos n)) b)
            | inr b ↦
                elim (not_between top w (top +ℤ pos n -ℤ pos 1) b) [
                  | inl a ↦ is_below top w (top +ℤ pos (n + 1) -ℤ pos 1) a ∙ sym (ap (λ v. v || int_eq w (top +ℤ pos n)) b ∙ h)
                  | inr c ↦ is_above top w (top +ℤ pos (n + 1) -ℤ pos 1) (behind top w n c (λ e. true≢false (sym (same_is w (top +ℤ pos n) e) ∙ h))) ∙ sym (ap (λ v. v || int_eq w (top +ℤ pos n)) b ∙ h)
                ]
          ]
    ]

and_or : (a b c : Bool) → (a && (b || c)) ≡ ((a && b) || (a && c))
and_or true b c = refl
and_or false b c = refl

rows_more : (r : Rect) (n : ℕ) (x w : ℤ) → rect_has (rows_of r (n + 1)) x w ≡ (rect_has (rows_of r n) x w || (between r.left x r.right && int_eq w (r.top +ℤ pos n)))
rows_more r n x w =
    ap (λ v. between r.left x r.right && v) (row_below r.top w n)
    ∙ and_or (between r.left x r.right) (between r.top w (r.top +ℤ pos n -ℤ pos 1)) (int_eq w (r.top +ℤ pos n))

-- the cells of a row of a rectangle
pub record IsRowOf (spans : Spans) (r : Rect) (y : ℤ) (row : List Cell) : Type 0 where
  pub width : r.left +ℤ pos (length row) ≡ r.right +ℤ pos 1
  pub cells : (k : ℕ) → k < length row → cell_in spans (r.left +ℤ pos k) y ≡ slice_get row k

row_at : (spans : Spans) (r : Rect) (y : ℤ) (row : List Cell) (x z : ℤ) → IsRowOf spans r y row → z ≡ x -ℤ r.left → waits_at row z ≡ (between r.left x r.right && is_dirty (cell_in spans x y))
row_at spans r y row x (pos k) of e =
    let width = of.width in
    elim (cases_lt k (length row)) [
      | inl less ↦
          let at : r.left +ℤ pos k ≡ x = omega (arith, ints) in
          ap is_dirty (sym (of.cells k less)) ∙ ap (λ z. is_dirty (cell_in spans z y)) at
          ∙ sym (ap (λ v. v && is_dirty (cell_in spans x y)) (is_between r.left x r.right (omega (arith, ints)) (omega (arith, ints))))
      | inr more ↦
          ap is_dirty (slice_get_past row k more)
          ∙ sym (ap (λ v. v && is_dirty (cell_in spans x y)) (is_above r.left x r.right (omega (arith, ints))))
    ]
row_at spans r y row x (negsuc k) of e =
    sym (ap (λ v. v && is_dirty (cell_in spans x y)) (is_below r.left x r.right (omega (arith, ints))))

row_dirty : (spans : Spans) (r : Rect) (y : ℤ) (row : List Cell) (x w : ℤ) → IsRowOf spans r y row → waits_in row r.left y x w ≡ ((between r.left x r.right && int_eq w y) && is_dirty (cell_in spans x w))
row_dirty spans r y row x w of =
    elim (true_or_false (int_eq w y)) [
      | inl h ↦
          ap (λ v. v && waits_at row (x -ℤ r.left)) h ∙ row_at spans r y row x (x -ℤ r.left) of refl
          ∙ ap (λ z. between r.left x r.right && is_dirty (cell_in spans x z)) (sym (eq_is w y h))
          ∙ sym (ap (λ v. (between r.left x r.right && v) && is_dirty (cell_in spans x w)) h ∙ ap (λ v. v && is_dirty (cell_in spans x w)) (and_true (between r.left x r.right)))
      | inr h ↦
          ap (λ v. v && waits_at row (x -ℤ r.left)) h
          ∙ sym (ap (λ v. (between r.left x r.right && v) && is_dirty (cell_in spans x w)) h ∙ ap (λ v. v && is_dirty (cell_in spans x w)) (and_false (between r.left x r.right)))
    ]

spread : (o a b d : Bool) → ((o || (a && d)) || (b && d)) ≡ (o || ((a || b) && d))
spread true a b d = refl
spread false true true true = refl
spread false true true false = refl
spread false true false true = refl
spread false true false false = refl
spread false false b d = refl

pub rect_more : (spans : Spans) (r : Rect) (n : ℕ) (row : List Cell) (old now new : List Rect) → IsRowOf spans r (r.top +ℤ pos n) row → HasMore (λ x y. rect_has (rows_of r n) x y && is_dirty (cell_in spans x y)) old now → HasMore (waits_in row r.left (r.top +ℤ pos n)) now new → HasMore (λ x y. rect_has (rows_of r (n + 1)) x y && is_dirty (cell_in spans x y)) old new
rect_more spans r n row old now new of before more x y =
    more x y ∙ ap (λ v. v || waits_in row r.left (r.top +ℤ pos n) x y) (before x y)
    ∙ ap (λ v. (region_has old x y || (rect_has (rows_of r n) x y && is_dirty (cell_in spans x y))) || v) (row_dirty spans r (r.top +ℤ pos n) row x y of)
    ∙ spread (region_has old x y) (rect_has (rows_of r n) x y) (between r.left x r.right && int_eq y (r.top +ℤ pos n)) (is_dirty (cell_in spans x y))
    ∙ ap (λ v. region_has old x y || (v && is_dirty (cell_in spans x y))) (sym (rows_more r n x y))

-- ---- all rectangles

has_next : (rs : List Rect) (n : ℕ) (r : Rect) (x y : ℤ) → slice_get rs n ≡ Some r → region_has (take (n + 1) rs) x y ≡ (region_has (take n rs) x y || rect_has r x y)
has_next [] n r x y h = absurd (none-some r h)
has_next (s ∷ rs) zero r x y h = ap (λ (q : Rect). rect_has q x y || false) (same_Some s r h) ∙ sym (with_or_false (rect_has r x y))
has_next (s ∷ rs) (suc n) r x y h =
    ap (λ k. region_has (take k (s ∷ rs)) x y) (suc_more n)
    ∙ ap (λ v. rect_has s x y || v) (has_next rs n r x y h) ∙ sym (or_assoc (rect_has s x y) (region_has (take n rs) x y) (rect_has r x y))

pub all_more : (spans : Spans) (place : ℕ) (r : Rect) (now new : List Rect) → slice_get spans.rects place ≡ Some r → ((x y : ℤ) → region_has now x y ≡ (region_has (take place spans.rects) x y && is_dirty (cell_in spans x y))) → HasMore (λ x y. rect_has r x y && is_dirty (cell_in spans x y)) now new → (x y : ℤ) → region_has new x y ≡ (region_has (take (place + 1) spans.rects) x y && is_dirty (cell_in spans x y))
all_more spans place r now new at before more x y =
    more x y ∙ ap (λ v. v || (rect_has r x y && is_dirty (cell_in spans x y))) (before x y)
    ∙ spread false (region_has (take place spans.rects) x y) (rect_has r x y) (is_dirty (cell_in spans x y))
    ∙ ap (λ v. v && is_dirty (cell_in spans x y)) (sym (has_next spans.rects place r x y at))

pub all_of : (spans : Spans) (n : ℕ) (x y : ℤ) → length spans.rects ≤ n → (region_has (take n spans.rects) x y && is_dirty (cell_in spans x y)) ≡ is_dirty (cell_in spans x y)
all_of spans n x y h =
    ap (λ rs. region_has rs x y && is_dirty (cell_in spans x y)) (take_all n spans.rects h)
    ∙ elim (true_or_false (region_has spans.rects x y)) [
      | inl a ↦ ap (λ v. v && is_dirty (cell_in spans x y)) a
      | inr a ↦ ap (λ v. v && is_dirty (cell_in spans x y)) a ∙ sym (ap is_dirty (cell_none spans x y a))
    ]

-- ---- a row of the buffer is as wide as its rectangle

pub wide_enough : (spans : Spans) (left right y : ℤ) (n width : ℕ) → length spans.cells ≡ pixels_of spans.rects → left +ℤ pos width ≡ right +ℤ pos 1 → ((x : ℤ) → left ≤ℤ x → x ≤ℤ right → region_has spans.rects x y ≡ true) → cell_in spans (left +ℤ pos n) y ≡ None → width ≤ n
wide_enough spans left right y n width whole wide all none =
    elim (cases_lt n width) [
      | inl less ↦
          let some = cell_some spans (left +ℤ pos n) y whole (all (left +ℤ pos n) (omega (arith, ints)) (omega (arith, ints))) in
          absurd (none-some some.0 (sym none ∙ some.1))
      | inr more ↦ more
    ]

pub cut_length : {A : Type 0} (n : ℕ) (xs : List A) → n ≤ length xs → length (take n xs) ≡ n
cut_length n xs h = omega (arith, length-take n xs)
