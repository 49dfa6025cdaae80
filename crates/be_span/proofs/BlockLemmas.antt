-- The pixels of a rectangle, gone through row by row, and those of a region, by rectangles.
use Rattle.std.proofs.Common.{◌≡◌, ℕ, ◌+◌, ◌<◌, ℤ, pos, ◌+ℤ◌, ◌-ℤ◌, ◌≤ℤ◌, ◌<ℤ◌, Bool, true, false, ◌||◌, cond, inl, inr, List, take, slice_get, Option, Some, None, refl, sym, ap, ◌∙◌, subst, arith, add-one}
use Rattle.std.specs.Prelude.{◌&&◌, unsigned_abs}
use Rattle.std.specs.Option.{option_map}
use Rattle.std.proofs.lemmas.Int.{ints, by_lt_z}
use Rattle.std.proofs.lemmas.Bool.{true≢false}
use Rattle.be_facts.proofs.Truths.{true_or_false}
use Rattle.be_facts.proofs.Numbers.{unsigned_abs_is}
use Rattle.be_geom.specs.declared.rect.Rect.{Rect}
use Rattle.be_geom.specs.Rects.{rect_has}
use Rattle.be_region.specs.Regions.{IsNotEmpty, region_has}
use Rattle.be_span.specs.declared.Cell.{Cell}
use Rattle.be_span.specs.Runs.{IsBeside}
use Rattle.be_span.specs.Painting.{Rule, changed}
use Rattle.be_span.specs.Spans.{Spans, cell_in, height_of, width_of}
use Rattle.be_span.proofs.GridLemmas.{IsIn, in_from, has_from, high_is, wide_is}
use Rattle.be_span.proofs.LaidLemmas.{has_more}

-- what a pixel has then, by what it had
abbrev pub Becomes : Type 0
Becomes = ℤ → ℤ → Option Cell → Option Cell

-- ---- rows

-- the row of a rectangle that is so far from its top: its first pixel, how many it has, and how many
-- rows there are
pub record IsRowOf (r : Rect) (x y : ℤ) (row wide high : ℕ) : Type 0 where
  pub across : x ≡ r.left
  pub down : y ≡ r.top +ℤ pos row
  pub long : pos wide ≡ r.right -ℤ r.left +ℤ pos 1
  pub tall : pos high ≡ r.bottom -ℤ r.top +ℤ pos 1
  pub less : row < high

pub row_is : (r : Rect) (x y : ℤ) (row wide high : ℕ) → IsNotEmpty r → x ≡ r.left → y ≡ r.top +ℤ pos row → wide ≡ width_of r → high ≡ height_of r → row < high → IsRowOf r x y row wide high
row_is r x y row wide high some across down w h less =
    record { across = across; down = down; long = ap pos w ∙ wide_is r some.across; tall = ap pos h ∙ high_is r some.down; less = less }

-- its pixels are the rectangle's
pub in_row : (r : Rect) (x y : ℤ) (row wide high k : ℕ) → IsNotEmpty r → x ≡ r.left → y ≡ r.top +ℤ pos row → wide ≡ width_of r → high ≡ height_of r → row < high → k < wide → rect_has r (x +ℤ pos k) y ≡ true
in_row r x y row wide high k some across down w h less few =
    let long = ap pos w ∙ wide_is r some.across in let tall = ap pos h ∙ high_is r some.down in
    has_from r (x +ℤ pos k) y record { left = omega (arith, ints); right = omega (arith, ints); top = omega (arith, ints); bottom = omega (arith, ints) }

-- the pixels of the rectangle's rows above one are done, and all others are as they were
pub record AreDoneTo (g : Becomes) (old new : Spans) (r : Rect) (end : ℤ) : Type 0 where
  pub inside : (x y : ℤ) → rect_has r x y ≡ true → y <ℤ end → cell_in new x y ≡ g x y (cell_in old x y)
  pub below : (x y : ℤ) → end ≤ℤ y → cell_in new x y ≡ cell_in old x y
  pub beside : (x y : ℤ) → rect_has r x y ≡ false → cell_in new x y ≡ cell_in old x y

pub none_done : (g : Becomes) (old : Spans) (r : Rect) → AreDoneTo g old old r (r.top +ℤ pos 0)
none_done g old r = record {
  inside = λ x y has less. let top = (in_from r x y has).top in absurd (omega (arith, ints));
  below = λ x y h. refl;
  beside = λ x y h. refl;
}

pub row_done : (g : Becomes) (old mid new : Spans) (r : Rect) (x y : ℤ) (row wide high : ℕ) → IsRowOf r x y row wide high → AreDoneTo g old mid r (r.top +ℤ pos row) → ((k : ℕ) → k < wide → cell_in new (x +ℤ pos k) y ≡ g (x +ℤ pos k) y (cell_in mid (x +ℤ pos k) y)) → ((z w : ℤ) → IsBeside x y wide z w → cell_in new z w ≡ cell_in mid z w) → AreDoneTo g old new r (r.top +ℤ pos (row + 1))
row_done g old mid new r x y row wide high is so_far done others = record {
  inside = λ z w has less.
      by_lt_z w y
      (λ above. others z w (inl (λ (e : w ≡ y). omega (arith, ints))) ∙ so_far.inside z w has (omega (arith, down, ints)))
      (λ low. let same : y ≡ w = omega (arith, down, ints) in
      let P : ℤ → Type 0 = λ v. cell_in new z v ≡ g z v (cell_in old z v) in
      subst P same (here z (in_from r z w has)));
  below = λ z w low. others z w (inl (λ (e : w ≡ y). omega (arith, down, ints))) ∙ so_far.below z w (omega (arith, ints));
  beside = λ z w out. others z w (apart z w out) ∙ so_far.beside z w out;
}
  where
    down : y ≡ r.top +ℤ pos row
    down = is.down

    from : x ≡ r.left
    from = is.across

    long : pos wide ≡ r.right -ℤ r.left +ℤ pos 1
    long = is.long

    tall : pos high ≡ r.bottom -ℤ r.top +ℤ pos 1
    tall = is.tall

    few : row < high
    few = is.less

    here : (z : ℤ) {w : ℤ} → IsIn r z w → cell_in new z y ≡ g z y (cell_in old z y)
    here z inside =
        let low = inside.left in
        let high = inside.right in
        let k = unsigned_abs (z -ℤ x) in
        let far : pos k ≡ z -ℤ x = unsigned_abs_is (z -ℤ x) (omega (arith, from, ints)) in
        let at : x +ℤ pos k ≡ z = omega (arith, ints) in
        let P : ℤ → Type 0 = λ v. cell_in new v y ≡ g v y (cell_in mid v y) in
        subst P at (done k (omega (arith, from, long, ints))) ∙ ap (g z y) (so_far.below z y (omega (arith, down, ints)))

    apart : (z w : ℤ) → rect_has r z w ≡ false → IsBeside x y wide z w
    apart z w out =
        by_lt_z w y
        (λ above. inl (λ (e : w ≡ y). omega (arith, ints)))
        (λ from_top. by_lt_z y w
        (λ below. inl (λ (e : w ≡ y). omega (arith, ints)))
        (λ to_bottom. by_lt_z z x
        (λ before. inr (inl before))
        (λ from_left. by_lt_z r.right z
        (λ behind. inr (inr (omega (arith, from, long, ints))))
        (λ to_right. absurd (true≢false (sym (has_from r z w record { left = omega (arith, from, ints); right = to_right; top = omega (arith, down, ints); bottom = omega (arith, down, tall, few, ints) }) ∙ out))))))

-- the whole rectangle
pub all_done : (g : Becomes) (old new : Spans) (r : Rect) (row high : ℕ) → IsNotEmpty r → high ≡ height_of r → row ≡ high → AreDoneTo g old new r (r.top +ℤ pos row) → (x y : ℤ) → cell_in new x y ≡ cond (rect_has r x y) (g x y (cell_in old x y)) (cell_in old x y)
all_done g old new r row high some h last is x y =
    elim (true_or_false (rect_has r x y)) [
      | inl has ↦
          let tall = ap pos h ∙ high_is r some.down in
          let low = (in_from r x y has).bottom in
          is.inside x y has (omega (arith, ints)) ∙ sym (ap (λ b. cond b (g x y (cell_in old x y)) (cell_in old x y)) has)
      | inr out ↦ is.beside x y out ∙ sym (ap (λ b. cond b (g x y (cell_in old x y)) (cell_in old x y)) out)
    ]

-- ---- cells that are changed where a test says so

picked : (b : Bool) (c d : Cell) → Some (cond b c d) ≡ cond b (Some c) (Some d)
picked true c d = refl
picked false c d = refl

neither : (b : Bool) → let none : Option Cell = None in none ≡ cond b none none
neither true = refl
neither false = refl

chosen : (rule : Rule) (at : ℤ → ℤ → Bool) (x y : ℤ) (o : Option Cell) → option_map (changed rule at x y) o ≡ cond (at x y) (option_map (rule x y) o) o
chosen rule at x y None = neither (at x y)
chosen rule at x y (Some c) = picked (at x y) (rule x y c) c

both : (a b : Bool) (o p : Option Cell) → cond a (cond b o p) p ≡ cond (a && b) o p
both true b o p = refl
both false b o p = refl

pub changed_here : (rule : Rule) (at : ℤ → ℤ → Bool) (x y : ℤ) (has : Bool) (o : Option Cell) → cond has (option_map (changed rule at x y) o) o ≡ cond (has && at x y) (option_map (rule x y) o) o
changed_here rule at x y has o = ap (λ p. cond has p o) (chosen rule at x y o) ∙ both has (at x y) (option_map (rule x y) o) o

-- ---- all rectangles

step : (f : Option Cell → Option Cell) → ((o : Option Cell) → f (f o) ≡ f o) → (p q : Bool) (d now new : Option Cell) → now ≡ cond p (f d) d → new ≡ cond q (f now) now → new ≡ cond (p || q) (f d) d
step f twice true true d now new e g = g ∙ ap f e ∙ twice d
step f twice true false d now new e g = g ∙ e
step f twice false true d now new e g = g ∙ ap f e
step f twice false false d now new e g = g ∙ e

-- one rectangle more, where nothing more is made of what was made
pub all_more : (g : Becomes) (old now new : Spans) (rs : List Rect) (m : ℕ) (r : Rect) → ((x y : ℤ) (o : Option Cell) → g x y (g x y o) ≡ g x y o) → slice_get rs m ≡ Some r → ((x y : ℤ) → cell_in now x y ≡ cond (region_has (take m rs) x y) (g x y (cell_in old x y)) (cell_in old x y)) → ((x y : ℤ) → cell_in new x y ≡ cond (rect_has r x y) (g x y (cell_in now x y)) (cell_in now x y)) → (x y : ℤ) → cell_in new x y ≡ cond (region_has (take (m + 1) rs) x y) (g x y (cell_in old x y)) (cell_in old x y)
all_more g old now new rs m r twice e so_far more x y =
    step (g x y) (twice x y) (region_has (take m rs) x y) (rect_has r x y) (cell_in old x y) (cell_in now x y) (cell_in new x y) (so_far x y) (more x y)
    ∙ ap (λ b. cond b (g x y (cell_in old x y)) (cell_in old x y)) (sym (rw add-one (has_more rs m r x y e)))

pub map_twice : (f : Cell → Cell) → ((c : Cell) → f (f c) ≡ f c) → (o : Option Cell) → option_map f (option_map f o) ≡ option_map f o
map_twice f h None = refl
map_twice f h (Some c) = ap Some (h c)
