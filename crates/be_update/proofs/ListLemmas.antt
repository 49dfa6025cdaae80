-- The pixels that the machine lists as waiting.
use Rattle.std.specs.Prelude.{slice_get, nat_lt}
use Rattle.std.specs.Ordering.{int_eq}
use Rattle.std.proofs.Common.{◌≡◌, ℕ, ◌+◌, ◌*◌, ◌/◌, ◌%◌, ◌<◌, zero, suc, ℤ, pos, negsuc, Bool, true, false, ◌&&◌, ◌⊎◌, inl, inr, cond, List, [], ◌∷◌, Option, Some, None, arith, refl, sym, ap, subst, ◌∙◌}
use Rattle.std.proofs.Math.Nat.{div-add-mod}
use Rattle.std.proofs.lemmas.Bool.{and_parts, or_cases, or_left, or_right, false≢true, and_from}
use Rattle.std.proofs.lemmas.Bool.Decides.{Decides-int_eq}
use Rattle.std.proofs.lemmas.Int.{ints}
use Rattle.std.proofs.lemmas.Nat.{div-mul-add, mod-mul-add}
use Rattle.std.proofs.lemmas.Option.{none-some, same_Some}
use Rattle.be_facts.proofs.Truths.{same_truth}
use Rattle.be_facts.proofs.Numbers.{nat_lt_tells}
use Rattle.be_geom.specs.declared.point.Point.{Point}
use Rattle.be_geom.specs.Places.{at_pixel, same_point}
use Rattle.be_span.specs.declared.Cell.{Cell}
use Rattle.be_span.specs.Screen.{cell_at}
use Rattle.be_update.specs.Sessions.{dirty_from, dirty_pixels}
use Rattle.be_update.specs.Laws.{ListedAsDirty}
use Rattle.be_update.proofs.PixelLemmas.{has_pixel}

-- ---- lists of points

same_parts : (x y : ℤ) (p : Point) → same_point (at_pixel x y) p ≡ true → (x ≡ p.x) × (y ≡ p.y)
same_parts x y p h =
    let parts = and_parts (int_eq x p.x) (int_eq y p.y) h in
    ((Decides-int_eq x p.x).0 parts.0, (Decides-int_eq y p.y).0 parts.1)

pub same_self : (p : Point) → same_point (at_pixel p.x p.y) p ≡ true
same_self p = and_from (int_eq p.x p.x) (int_eq p.y p.y) ((Decides-int_eq p.x p.x).1 refl) ((Decides-int_eq p.y p.y).1 refl)

first_or : (b : Bool) (p : Point) (rest : List Point) (x y : ℤ) → has_pixel (cond b (p ∷ rest) rest) x y ≡ true → ((b ≡ true) × (same_point (at_pixel x y) p ≡ true)) ⊎ (has_pixel rest x y ≡ true)
first_or true p rest x y h = elim (or_cases (same_point (at_pixel x y) p) (has_pixel rest x y) h) [ inl same ↦ inl (refl, same) | inr later ↦ inr later ]
first_or false p rest x y h = inr h

first_has : (b : Bool) (p : Point) (rest : List Point) → b ≡ true → has_pixel (cond b (p ∷ rest) rest) p.x p.y ≡ true
first_has b p rest e = rw e (or_left (same_point (at_pixel p.x p.y) p) (has_pixel rest p.x p.y) (same_self p))

later_has : (b : Bool) (p : Point) (rest : List Point) (x y : ℤ) → has_pixel rest x y ≡ true → has_pixel (cond b (p ∷ rest) rest) x y ≡ true
later_has true p rest x y h = or_right (same_point (at_pixel x y) p) (has_pixel rest x y) h
later_has false p rest x y h = h

-- ---- the cells of a screen

-- a pixel is that of a cell that waits, whose number counts from k on, and the window owns it
record IsListed (width k : ℕ) (owned : ℤ → ℤ → Bool) (cells : List Cell) (x y : ℤ) : Type 0 where
  at : ℕ
  cell : Cell
  got : slice_get cells at ≡ Some cell
  dirty : cell.dirty ≡ true
  across : x ≡ pos ((k + at) % width)
  down : y ≡ pos ((k + at) / width)
  own : owned x y ≡ true

listed_here : (width k : ℕ) (owned : ℤ → ℤ → Bool) (c : Cell) (cells : List Cell) (x y : ℤ) → (c.dirty && owned (pos (k % width)) (pos (k / width))) ≡ true → same_point (at_pixel x y) (at_pixel (pos (k % width)) (pos (k / width))) ≡ true → IsListed width k owned (c ∷ cells) x y
listed_here width k owned c cells x y h same =
    let parts = and_parts c.dirty (owned (pos (k % width)) (pos (k / width))) h in
    let at = same_parts x y (at_pixel (pos (k % width)) (pos (k / width))) same in
    let n : k ≡ k + 0 = omega arith in
    record {
      at = 0;
      cell = c;
      got = refl;
      dirty = parts.0;
      across = at.0 ∙ ap (λ m. pos (m % width)) n;
      down = at.1 ∙ ap (λ m. pos (m / width)) n;
      own = ap (λ z. owned z y) at.0 ∙ ap (λ z. owned (pos (k % width)) z) at.1 ∙ parts.1;
    }

listed_later : (width k : ℕ) (owned : ℤ → ℤ → Bool) (c : Cell) (cells : List Cell) (x y : ℤ) → IsListed width (suc k) owned cells x y → IsListed width k owned (c ∷ cells) x y
listed_later width k owned c cells x y l =
    let n : suc k + l.at ≡ k + suc l.at = omega arith in
    record {
      at = suc l.at;
      cell = l.cell;
      got = l.got;
      dirty = l.dirty;
      across = l.across ∙ ap (λ m. pos (m % width)) n;
      down = l.down ∙ ap (λ m. pos (m / width)) n;
      own = l.own;
    }

listed_tells : (width k : ℕ) (owned : ℤ → ℤ → Bool) (cells : List Cell) (x y : ℤ) → has_pixel (dirty_from width k owned cells) x y ≡ true → IsListed width k owned cells x y
listed_tells width k owned [] x y h = absurd (false≢true h)
listed_tells width k owned (c ∷ cells) x y h =
    elim (first_or (c.dirty && owned (pos (k % width)) (pos (k / width))) (at_pixel (pos (k % width)) (pos (k / width))) (dirty_from width (suc k) owned cells) x y h) [
      | inl first ↦ listed_here width k owned c cells x y first.0 first.1
      | inr later ↦ listed_later width k owned c cells x y (listed_tells width (suc k) owned cells x y later)
    ]

listed_if : (width k : ℕ) (owned : ℤ → ℤ → Bool) (cells : List Cell) (i : ℕ) (c : Cell) → slice_get cells i ≡ Some c → c.dirty ≡ true → owned (pos ((k + i) % width)) (pos ((k + i) / width)) ≡ true → has_pixel (dirty_from width k owned cells) (pos ((k + i) % width)) (pos ((k + i) / width)) ≡ true
listed_if width k owned [] i c got dirty own = absurd (none-some c got)
listed_if width k owned (d ∷ cells) zero c got dirty own =
    let n : k + 0 ≡ k = omega arith in
    let same : d ≡ c = same_Some d c got in
    let here : owned (pos (k % width)) (pos (k / width)) ≡ true = subst (λ (m : ℕ). owned (pos (m % width)) (pos (m / width)) ≡ true) n own in
    subst (λ (m : ℕ). has_pixel (dirty_from width k owned (d ∷ cells)) (pos (m % width)) (pos (m / width)) ≡ true) (sym n) (first_has (d.dirty && owned (pos (k % width)) (pos (k / width))) (at_pixel (pos (k % width)) (pos (k / width))) (dirty_from width (suc k) owned cells) (and_from d.dirty (owned (pos (k % width)) (pos (k / width))) (ap (λ (e : Cell). e.dirty) same ∙ dirty) here))
listed_if width k owned (d ∷ cells) (suc i) c got dirty own =
    let n : suc k + i ≡ k + suc i = omega arith in
    subst (λ (m : ℕ). has_pixel (dirty_from width k owned (d ∷ cells)) (pos (m % width)) (pos (m / width)) ≡ true) n (later_has (d.dirty && owned (pos (k % width)) (pos (k / width))) (at_pixel (pos (k % width)) (pos (k / width))) (dirty_from width (suc k) owned cells) (pos ((suc k + i) % width)) (pos ((suc k + i) / width)) (listed_if width (suc k) owned cells i c got dirty (subst (λ (m : ℕ). owned (pos (m % width)) (pos (m / width)) ≡ true) (sym n) own)))

-- where a pixel has a cell on the screen
record IsOnScreen (width : ℕ) (cells : List Cell) (x y : ℤ) (c : Cell) : Type 0 where
  right : ℕ
  below : ℕ
  across : x ≡ pos right
  down : y ≡ pos below
  within : right < width
  got : slice_get cells (below * width + right) ≡ Some c

in_row : (b : Bool) (o : Option Cell) (c : Cell) → cond b o None ≡ Some c → (b ≡ true) × (o ≡ Some c)
in_row true o c h = (refl, h)
in_row false o c h = absurd (none-some c h)

on_screen : (width : ℕ) (cells : List Cell) (x y : ℤ) (c : Cell) → cell_at width cells x y ≡ Some c → IsOnScreen width cells x y c
unfolding cell_at
on_screen width cells (pos right) (pos below) c h =
    let parts = in_row (nat_lt right width) (slice_get cells (below * width + right)) c h in
    record { right = right; below = below; across = refl; down = refl; within = nat_lt_tells right width parts.0; got = parts.1 }
on_screen width cells (pos right) (negsuc below) c h = absurd (none-some c h)
on_screen width cells (negsuc right) y c h = absurd (none-some c h)

number_of : (width i right below : ℕ) → pos right ≡ pos ((0 + i) % width) → pos below ≡ pos ((0 + i) / width) → below * width + right ≡ i
number_of width i right below e f =
    let n : 0 + i ≡ i = omega arith in
    let a : right ≡ (0 + i) % width = omega (arith, ints) in
    let b : below ≡ (0 + i) / width = omega (arith, ints) in
    let whole = div-add-mod i width in
    let c : right ≡ i % width = a ∙ ap (λ m. m % width) n in
    let d : below ≡ i / width = b ∙ ap (λ m. m / width) n in
    rw (c, d) (omega arith)

-- ---- the list

waits_there : (width : ℕ) (owned : ℤ → ℤ → Bool) (screen : List Cell) (cells : ℤ → ℤ → Cell) → ((x y : ℤ) → owned x y ≡ true → cell_at width screen x y ≡ Some (cells x y)) → (x y : ℤ) → has_pixel (dirty_from width 0 owned screen) x y ≡ true → (owned x y && (cells x y).dirty) ≡ true
waits_there width owned screen cells shown x y h =
    let l = listed_tells width 0 owned screen x y h in
    let s = on_screen width screen x y (cells x y) (shown x y l.own) in
    let number = number_of width l.at s.right s.below (sym s.across ∙ l.across) (sym s.down ∙ l.down) in
    let same : l.cell ≡ cells x y = same_Some l.cell (cells x y) (sym l.got ∙ ap (slice_get screen) (sym number) ∙ s.got) in
    and_from (owned x y) (cells x y).dirty l.own (ap (λ (c : Cell). c.dirty) (sym same) ∙ l.dirty)

listed_there : (width : ℕ) (owned : ℤ → ℤ → Bool) (screen : List Cell) (cells : ℤ → ℤ → Cell) → ((x y : ℤ) → owned x y ≡ true → cell_at width screen x y ≡ Some (cells x y)) → (x y : ℤ) → (owned x y && (cells x y).dirty) ≡ true → has_pixel (dirty_from width 0 owned screen) x y ≡ true
listed_there width owned screen cells shown x y h =
    let parts = and_parts (owned x y) (cells x y).dirty h in
    let s = on_screen width screen x y (cells x y) (shown x y parts.0) in
    let i = s.below * width + s.right in
    let n : 0 + i ≡ i = omega arith in
    let across : x ≡ pos ((0 + i) % width) = s.across ∙ ap (λ m. pos m) (sym (ap (λ m. m % width) n ∙ mod-mul-add s.below width s.right s.within)) in
    let down : y ≡ pos ((0 + i) / width) = s.down ∙ ap (λ m. pos m) (sym (ap (λ m. m / width) n ∙ div-mul-add s.below width s.right s.within)) in
    let own : owned (pos ((0 + i) % width)) (pos ((0 + i) / width)) ≡ true = ap (λ z. owned z (pos ((0 + i) / width))) (sym across) ∙ ap (owned x) (sym down) ∙ parts.0 in
    let has = listed_if width 0 owned screen i (cells x y) s.got parts.1 own in
    ap (λ z. has_pixel (dirty_from width 0 owned screen) z y) across ∙ ap (λ z. has_pixel (dirty_from width 0 owned screen) (pos ((0 + i) % width)) z) down ∙ has

pub listed_as_dirty : ListedAsDirty
unfolding dirty_pixels
listed_as_dirty width owned screen cells shown x y =
    same_truth (has_pixel (dirty_from width 0 owned screen) x y) (owned x y && (cells x y).dirty) (waits_there width owned screen cells shown x y) (listed_there width owned screen cells shown x y)
