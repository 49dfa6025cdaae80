-- Rectangles that are cut.
use Rattle.std.proofs.Common.{◌≡◌, ◌<◌, ℤ, pos, ◌-ℤ◌, ◌≤ℤ◌, ◌<ℤ◌, Bool, true, false, ◌&&◌, ◌||◌}
use Rattle.std.proofs.Common.{◌⊎◌}
use Rattle.std.proofs.Common.{inl, inr, SFits, w16, List, ◌∷◌, All, suc, subst, refl, sym, ◌∙◌}
use Rattle.std.proofs.Common.{arith}
use Rattle.std.proofs.lemmas.Int.{ints, by_lt_z}
use Rattle.std.proofs.lemmas.Bool.{true≢false}
use Rattle.be_facts.proofs.Truths.{true_or_false}
use Rattle.be_facts.proofs.Numbers.{unsigned_abs_is}
use Rattle.be_geom.specs.declared.rect.Rect.{Rect}
use Rattle.be_geom.specs.Rects.{rect_has, AreDisjoint}
use Rattle.be_region.specs.Regions.{IsNotEmpty}
use Rattle.be_region.proofs.FrameLemmas.{corners}
use Rattle.be_span.specs.Runs.{IsInside}
use Rattle.be_span.proofs.GridLemmas.{IsIn, in_from, has_from}
use Rattle.be_descent.specs.Cutting.{extent_of, AreHalves}

-- ---- pixels of two rectangles

pub and_false : (p q : Bool) → (p ≡ true → q ≡ true → ⊥) → (p && q) ≡ false
and_false true true h = absurd (h refl refl)
and_false true false h = refl
and_false false q h = refl

apart_from : (a b : Rect) → ((x y : ℤ) → IsIn a x y → IsIn b x y → ⊥) → AreDisjoint a b
apart_from a b h x y = and_false (rect_has a x y) (rect_has b x y)
    (λ p q. h x y (in_from a x y p) (in_from b x y q))

pub apart_across : (a b : Rect) → a.right <ℤ b.left → AreDisjoint a b
apart_across a b h = apart_from a b
    (λ x y i j. let k = i.right in let l = j.left in omega (arith, ints))

pub apart_down : (a b : Rect) → a.bottom <ℤ b.top → AreDisjoint a b
apart_down a b h = apart_from a b (λ x y i j. let k = i.bottom in
    let l = j.top in omega (arith, ints))

and_turned : (p q : Bool) → (p && q) ≡ false → (q && p) ≡ false
and_turned true true h = h
and_turned true false h = refl
and_turned false true h = refl
and_turned false false h = refl

pub apart_turned : (a b : Rect) → AreDisjoint a b → AreDisjoint b a
apart_turned a b h x y = and_turned (rect_has a x y) (rect_has b x y) (h x y)

or_same : (p q r : Bool) → (p ≡ true → (q ≡ true) ⊎ (r ≡ true)) → (q ≡ true → p ≡ true)
    → (r ≡ true → p ≡ true) → p ≡ (q || r)
or_same true true r h k l = refl
or_same true false true h k l = refl
or_same true false false h k l =
    elim (h refl) [ inl e ↦ absurd (true≢false (sym e)) | inr e ↦ absurd (true≢false (sym e)) ]
or_same false true r h k l = absurd (true≢false (sym (k refl)))
or_same false false true h k l = absurd (true≢false (sym (l refl)))
or_same false false false h k l = refl

-- a rectangle is what two others are together
parts_of : (area out rest : Rect) → ((x y : ℤ) → IsIn area x y → IsIn out x y ⊎ IsIn rest x y)
    → ((x y : ℤ) → IsIn out x y → IsIn area x y) → ((x y : ℤ) → IsIn rest x y → IsIn area x y)
    → (x y : ℤ) → rect_has area x y ≡ (rect_has out x y || rect_has rest x y)
parts_of area out rest each one other x y =
    or_same (rect_has area x y) (rect_has out x y) (rect_has rest x y)
    (λ e. elim (each x y (in_from area x y e))
    [ inl i ↦ inl (has_from out x y i) | inr i ↦ inr (has_from rest x y i) ])
    (λ e. has_from area x y (one x y (in_from out x y e)))
    (λ e. has_from area x y (other x y (in_from rest x y e)))

-- ---- how far they go

less_far : (a b : Rect) → IsNotEmpty a → IsNotEmpty b → (a.right -ℤ a.left) ≤ℤ (b.right -ℤ b.left)
    → (a.bottom -ℤ a.top) ≤ℤ (b.bottom -ℤ b.top)
    → ((a.right -ℤ a.left) ≡ (b.right -ℤ b.left) → (a.bottom -ℤ a.top) ≡ (b.bottom -ℤ b.top) → ⊥)
    → extent_of a < extent_of b
less_far a b some more across down other =
    let l = some.across in let m = some.down in let n = more.across in let o = more.down in
    let p = unsigned_abs_is (a.right -ℤ a.left) (omega (arith, ints)) in
    let q = unsigned_abs_is (a.bottom -ℤ a.top) (omega (arith, ints)) in
    let r = unsigned_abs_is (b.right -ℤ b.left) (omega (arith, ints)) in
    let s = unsigned_abs_is (b.bottom -ℤ b.top) (omega (arith, ints)) in
    grind (arith, ints)

-- no rectangle of the screen goes further
pub extent_small : (r : Rect) → IsNotEmpty r → SFits w16 r.left → SFits w16 r.top
    → SFits w16 r.right → SFits w16 r.bottom → extent_of r < 200000
extent_small r some l t e b =
    let m = some.across in let n = some.down in
    let p = unsigned_abs_is (r.right -ℤ r.left) (omega (arith, ints)) in
    let q = unsigned_abs_is (r.bottom -ℤ r.top) (omega (arith, ints)) in
    grind (arith, ints)

-- ---- halves

pub rows_halved : (area : Rect) (row : ℤ) → area.left ≤ℤ area.right → area.top <ℤ row
    → row ≤ℤ area.bottom → AreHalves area (record area { bottom = row -ℤ pos 1 })
    (record area { top = row })
rows_halved area row across below inside =
    let above : Rect = record area { bottom = row -ℤ pos 1 } in
    let rest : Rect = record area { top = row } in
    let whole : IsNotEmpty area = record { across = across; down = omega (arith, ints) } in
    let one : IsNotEmpty above = record { across = across; down = omega (arith, ints) } in
    let other : IsNotEmpty rest = record { across = across; down = inside } in
    record {
      apart = apart_down above rest (omega (arith, ints));
      both = parts_of area above rest
          (λ x y i. let b = i.bottom in let t = i.top in by_lt_z y row
          (λ h. inl record {
            left = i.left;
            right = i.right;
            top = i.top;
            bottom =
                omega (arith, ints);
          })
          (λ h. inr record {
            left = i.left;
            right = i.right;
            top = omega (arith, ints);
            bottom =
                i.bottom;
          }))
          (λ x y i. let b = i.bottom in record
          { left = i.left; right = i.right; top = i.top; bottom = omega (arith, ints) })
          (λ x y i. let t = i.top in record {
            left = i.left;
            right = i.right;
            top =
                omega (arith, ints);
            bottom = i.bottom;
          });
      first_some = one;
      second_some = other;
      first_smaller = less_far above area one whole (omega (arith, ints)) (omega (arith, ints))
          (λ p q. omega (arith, ints));
      second_smaller = less_far rest area other whole (omega (arith, ints)) (omega (arith, ints))
          (λ p q. omega (arith, ints));
    }

pub columns_halved : (area : Rect) (column : ℤ) → area.top ≤ℤ area.bottom → area.left <ℤ column
    → column ≤ℤ area.right → AreHalves area (record area { right = column -ℤ pos 1 })
    (record area { left = column })
columns_halved area column down behind inside =
    let before : Rect = record area { right = column -ℤ pos 1 } in
    let rest : Rect = record area { left = column } in
    let whole : IsNotEmpty area = record { across = omega (arith, ints); down = down } in
    let one : IsNotEmpty before = record { across = omega (arith, ints); down = down } in
    let other : IsNotEmpty rest = record { across = inside; down = down } in
    record {
      apart = apart_across before rest (omega (arith, ints));
      both = parts_of area before rest
          (λ x y i. let r = i.right in let l = i.left in by_lt_z x column
          (λ h. inl record {
            left = i.left;
            right = omega (arith, ints);
            top = i.top;
            bottom =
                i.bottom;
          })
          (λ h. inr record {
            left = omega (arith, ints);
            right = i.right;
            top = i.top;
            bottom =
                i.bottom;
          }))
          (λ x y i. let r = i.right in record
          { left = i.left; right = omega (arith, ints); top = i.top; bottom = i.bottom })
          (λ x y i. let l = i.left in record {
            left = omega (arith, ints);
            right = i.right;
            top =
                i.top;
            bottom = i.bottom;
          });
      first_some = one;
      second_some = other;
      first_smaller = less_far before area one whole (omega (arith, ints)) (omega (arith, ints))
          (λ p q. omega (arith, ints));
      second_smaller = less_far rest area other whole (omega (arith, ints)) (omega (arith, ints))
          (λ p q. omega (arith, ints));
    }

or_turned : (p q : Bool) → (p || q) ≡ (q || p)
or_turned true true = refl
or_turned true false = refl
or_turned false true = refl
or_turned false false = refl

pub halves_turned : (area a b : Rect) → AreHalves area a b → AreHalves area b a
halves_turned area a b h = record {
  apart = apart_turned a b h.apart;
  both = λ x y. h.both x y ∙ or_turned (rect_has a x y) (rect_has b x y);
  first_some = h.second_some;
  second_some = h.first_some;
  first_smaller = h.second_smaller;
  second_smaller = h.first_smaller;
}

-- ---- what is in a part

pub rest_all : (P : Rect → Type 0) (r : Rect) (rs xs : List Rect) → xs ≡ r ∷ rs → All P xs
    → All P rs
rest_all P r rs xs e all k d less = (subst (All P) e all) (suc k) d (omega arith)

-- what has only pixels of a rectangle is inside what that is inside
pub inside_of : (part area outer : Rect) → IsNotEmpty part
    → ((x y : ℤ) → rect_has part x y ≡ true → rect_has area x y ≡ true) → IsInside area outer
    → IsInside part outer
inside_of part area outer some only inside =
    let first = in_from area part.left part.top (only part.left part.top (corners part some).0) in
    let last = in_from area part.right part.bottom
    (only part.right part.bottom (corners part some).1) in
    let a = first.left in let b = first.top in let c = last.right in let d = last.bottom in
    let l = inside.left in let t = inside.top in let r = inside.right in let u = inside.bottom in
    record {
      left = omega (arith, ints);
      across = some.across;
      right = omega (arith, ints);
      top =
          omega (arith, ints);
      down = some.down;
      bottom = omega (arith, ints);
    }

or_one : (p q r : Bool) → r ≡ (p || q) → p ≡ true → r ≡ true
or_one true q r e h = e
or_one false q r e h = absurd (true≢false (sym h))

pub first_inside : (area first second outer : Rect) → AreHalves area first second
    → IsInside area outer → IsInside first outer
first_inside area first second outer h =
    inside_of first area outer h.first_some
    (λ x y e. or_one (rect_has first x y) (rect_has second x y) (rect_has area x y) (h.both x y) e)

pub second_inside : (area first second outer : Rect) → AreHalves area first second
    → IsInside area outer → IsInside second outer
second_inside area first second outer h =
    first_inside area second first outer (halves_turned area first second h)

-- ---- halves of which the one isn't copied to the other

not_in : (r : Rect) (x y : ℤ) → (IsIn r x y → ⊥) → rect_has r x y ≡ false
not_in r x y h =
    elim (true_or_false (rect_has r x y)) [ inl e ↦ absurd (h (in_from r x y e)) | inr e ↦ e ]

-- what is copied down comes from no row below
pub copied_down : (a b : Rect) (row dx dy : ℤ) → a.bottom <ℤ row → row ≤ℤ b.top → pos 0 ≤ℤ dy
    → (x y : ℤ) → rect_has a x y ≡ true → rect_has b (x -ℤ dx) (y -ℤ dy) ≡ false
copied_down a b row dx dy above below down x y e =
    let i = (in_from a x y e).bottom in
    not_in b (x -ℤ dx) (y -ℤ dy) (λ j. let k = j.top in omega (arith, ints))

pub copied_up : (a b : Rect) (row dx dy : ℤ) → a.bottom <ℤ row → row ≤ℤ b.top → dy ≤ℤ pos 0
    → (x y : ℤ) → rect_has b x y ≡ true → rect_has a (x -ℤ dx) (y -ℤ dy) ≡ false
copied_up a b row dx dy above below up x y e =
    let i = (in_from b x y e).top in
    not_in a (x -ℤ dx) (y -ℤ dy) (λ j. let k = j.bottom in omega (arith, ints))

pub copied_right : (a b : Rect) (column dx dy : ℤ) → a.right <ℤ column → column ≤ℤ b.left
    → pos 0 ≤ℤ dx → (x y : ℤ) → rect_has a x y ≡ true
    → rect_has b (x -ℤ dx) (y -ℤ dy) ≡ false
copied_right a b column dx dy before behind right x y e =
    let i = (in_from a x y e).right in
    not_in b (x -ℤ dx) (y -ℤ dy) (λ j. let k = j.left in omega (arith, ints))

pub copied_left : (a b : Rect) (column dx dy : ℤ) → a.right <ℤ column → column ≤ℤ b.left
    → dx ≤ℤ pos 0 → (x y : ℤ) → rect_has b x y ≡ true
    → rect_has a (x -ℤ dx) (y -ℤ dy) ≡ false
copied_left a b column dx dy before behind left x y e =
    let i = (in_from b x y e).left in
    not_in a (x -ℤ dx) (y -ℤ dy) (λ j. let k = j.right in omega (arith, ints))
