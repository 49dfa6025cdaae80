-- A line that goes at least as far down or up as across has one point in each of its rows.
use Rattle.std.proofs.Common.{◌≡◌, ℕ, ℤ, pos, false, ◌≤◌, ◌-ℤ◌, ◌≤ℤ◌, ◌<ℤ◌, unsigned_abs, refl, sym, ◌∙◌, arith}
use Rattle.std.proofs.lemmas.Int.{ints, clamps}
use Rattle.be_geom.specs.declared.point.Point.{Point}
use Rattle.be_geom.specs.Points.{between}
use Rattle.be_geom.proofs.Between.{is_between}
use Rattle.be_shape.specs.Rasters.{share, steps_of, line_at, line_has, IsSteep}
use Rattle.be_shape.specs.Rows.{swept_has}
use Rattle.be_shape.specs.Lines.{ArePointsWithin}
use Rattle.be_shape.proofs.ShareLemmas.{share_along}
use Rattle.be_shape.proofs.BetweenLemmas.{not_below, not_above, same_ends}
use Rattle.be_shape.proofs.WayLemmas.{covers_up, covers_down}
use Rattle.be_shape.proofs.PointLemmas.{none_before, none_behind}
use Rattle.be_shape.proofs.LineLemmas.{CoversBetween, span_of_line, none_of_line}

steep_steps : (from to : Point) → IsSteep from to → unsigned_abs (to.y -ℤ from.y) ≡ steps_of from to
steep_steps from to steep = omega arith

-- ---- where a pen of one pixel is

pub thin_down : (from to : Point) (y way : ℤ) → from.y ≤ℤ to.y → way ≡ y -ℤ from.y → CoversBetween from to 1 y way way
thin_down from to y way h e t k =
    covers_up 1 from.y to.y y t h k ∙ same_ends _ _ _ _ _ (omega (arith, ints)) (omega (arith, ints))

pub thin_up : (from to : Point) (y way : ℤ) → to.y <ℤ from.y → way ≡ from.y -ℤ y → CoversBetween from to 1 y way way
thin_up from to y way h e t k =
    covers_down 1 from.y to.y y t h ∙ same_ends _ _ _ _ _ (omega (arith, ints)) (omega (arith, ints))

-- ---- the one point of a row

one_point : (n i : ℕ) (way : ℤ) → i ≤ n → way ≡ pos i → ArePointsWithin n n way way i i
one_point n i way h e =
    record {
      ordered = omega arith;
      of_steps = h;
      within =
          λ j p q. let s = share_along j n n (omega arith) (omega arith) in is_between way (pos (share j n n)) way (omega (arith, ints)) (omega (arith, ints));
      others =
          λ j p b.
          let s = share_along j n n p (omega arith) in
          let low = not_below way (pos (share j n n)) way b in
          let high = not_above way (pos (share j n n)) way b in
          (omega (arith, ints), omega (arith, ints));
    }

thin_swept : (a x : ℤ) → between a x a ≡ swept_has 1 a a x
thin_swept a x = same_ends _ _ _ _ _ (omega (arith, ints, clamps)) (omega (arith, ints, clamps))

-- ---- as the code has them

same_line : (i n : ℕ) (first last from to : ℤ) → first ≡ from → last ≡ to → line_at i n first last ≡ line_at i n from to
same_line i n first last from to e f = rw (e, f) refl

pub point_of_row : (from to : Point) (y way : ℤ) (n i : ℕ) (a b first last x : ℤ) → IsSteep from to → n ≡ unsigned_abs (to.y -ℤ from.y) → CoversBetween from to 1 y way way → i ≤ n → way ≡ pos i → first ≡ from.x → last ≡ to.x → b ≡ line_at i n first last → a ≡ b → between a x a ≡ line_has from to 1 x y
point_of_row from to y way n i a b first last x steep n_is covers h e first_is last_is point is =
    let at : a ≡ line_at i n from.x to.x = is ∙ point ∙ same_line i n first last from.x to.x first_is last_is in
    span_of_line from to 1 y n n way way i i a a (λ z. between a z a) (n_is ∙ steep_steps from to steep) n_is covers (one_point n i way h e) at at (thin_swept a) x

pub none_above : (from to : Point) (y way : ℤ) (n : ℕ) → IsSteep from to → n ≡ unsigned_abs (to.y -ℤ from.y) → CoversBetween from to 1 y way way → way <ℤ pos 0 → (x : ℤ) → line_has from to 1 x y ≡ false
none_above from to y way n steep n_is covers h x =
    sym (none_of_line from to 1 y n n way way (n_is ∙ steep_steps from to steep) n_is covers (none_before n n way way h) x)

pub none_below : (from to : Point) (y way : ℤ) (n : ℕ) → IsSteep from to → n ≡ unsigned_abs (to.y -ℤ from.y) → CoversBetween from to 1 y way way → pos n <ℤ way → (x : ℤ) → line_has from to 1 x y ≡ false
none_below from to y way n steep n_is covers h x =
    sym (none_of_line from to 1 y n n way way (n_is ∙ steep_steps from to steep) n_is covers (none_behind n n way way (omega arith) h) x)
