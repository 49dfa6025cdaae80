-- What painting makes of the cells of a row.
use Rattle.std.specs.Prelude.{◌≡◌, ◌+◌, ◌-◌, ◌<◌, ◌≤◌, ℕ, ℤ, pos, negsuc, ◌+ℤ◌, ◌-ℤ◌, ◌≤ℤ◌, ◌<ℤ◌, ◌⊎◌}
use Rattle.std.specs.Prelude.{Bool, true, false, ◌&&◌, ◌||◌, not, ◌==◌, nat_lt, List, Option, Some, None}
use Rattle.std.specs.Prelude.{length, slice_get, slice_index}
use Rattle.std.specs.Int.{bit_at}
use Rattle.std.specs.Option.{option_map}
use Rattle.std.proofs.Common.{refl, sym, ap, ap₂, ◌∙◌, cond, inl, inr, arith}
use Rattle.std.proofs.lemmas.Bool.{and_parts, cases_lt, lt-ltb, le-ltb, true≢false, and_right}
use Rattle.std.proofs.lemmas.Int.{ints}
use Rattle.std.proofs.lemmas.Option.{slice_get_past}
use Rattle.be_bitmap.specs.Pictures.{Picture, bitmap_pixel}
use Rattle.be_color.specs.Pattern.{pattern_bit, place_in_pattern}
use Rattle.be_color.specs.Pixel.{picked}
use Rattle.be_color.specs.declared.colors.Color.{Color}
use Rattle.be_color.specs.declared.colors.Color.TheVariants.{Clear}
use Rattle.be_geom.specs.Points.{between}
use Rattle.be_geom.proofs.Between.{is_above, is_below, is_between}
use Rattle.be_shape.specs.Rows.{span_has}
use Rattle.be_shape.specs.declared.row.Span.{Span}
use Rattle.be_shape.proofs.BetweenLemmas.{not_above, not_below}
use Rattle.be_bitmap.proofs.PixelLemmas.{pixel_over, pixel_before}
use Rattle.be_span.specs.Painting.{Rule, changed}
use Rattle.be_span.specs.Slices.{color_from, color_or_clear, has_bit_from, mask_bit, painted}
use Rattle.be_span.specs.Slices.{pattern_color, row_bit}
use Rattle.be_span.specs.declared.Cell.{Cell}
use Rattle.be_span.specs.declared.brush.Brush.{Brush}
use Rattle.be_span.proofs.MaskLemmas.{bit_from}
use Rattle.be_descent.specs.Inks.{masks_bit, masks_have, picture_color}
use Rattle.be_descent.specs.declared.way.Way.{Way}

-- a cell stays where a test says no
pub not_changed : (rule : Rule) (at : ℤ → ℤ → Bool) (x y : ℤ) (o : Option Cell) → at x y ≡ false
    → o ≡ option_map (changed rule at x y) o
not_changed rule at x y None e = refl
not_changed rule at x y (Some c) e = ap Some (sym (ap (λ b. cond b (rule x y c) c) e))

-- tests that agree are the same
pub same_changed : (rule : Rule) (p q : ℤ → ℤ → Bool) (x y : ℤ) (o : Option Cell)
    → p x y ≡ q x y → option_map (changed rule p x y) o ≡ option_map (changed rule q x y) o
same_changed rule p q x y o e = ap (λ b. option_map (λ c. cond b (rule x y c) c) o) e

once : (b d : Bool) (f : Cell → Cell) (c : Cell) → (b ≡ true → d ≡ false)
    → cond d (f (cond b (f c) c)) (cond b (f c) c) ≡ cond (b || d) (f c) c
once true true f c apart = absurd (true≢false (apart refl))
once true false f c apart = refl
once false true f c apart = refl
once false false f c apart = refl

-- one test after another, where they never both say yes
pub both_changed : (rule : Rule) (p q : ℤ → ℤ → Bool) (x y : ℤ) (o : Option Cell)
    → (p x y ≡ true → q x y ≡ false)
    → option_map (changed rule q x y) (option_map (changed rule p x y) o)
    ≡ option_map (changed rule (λ z w. p z w || q z w) x y) o
both_changed rule p q x y None apart = refl
both_changed rule p q x y (Some c) apart = ap Some (once (p x y) (q x y) (rule x y) c apart)

clear_stays : (brush : Brush) (o : Option Cell) → option_map (painted brush Clear) o ≡ o
clear_stays brush (Some c) = refl
clear_stays brush None = refl

all_stay : (o : Option Cell) → o ≡ option_map (λ c. c) o
all_stay None = refl
all_stay (Some c) = refl

-- a colour where a bit is set, and elsewhere the transparent one
pub marked : (brush : Brush) (color : Color) (b : Bool) (o : Option Cell)
    → option_map (painted brush (cond b color Clear)) o
    ≡ option_map (λ c. cond b (painted brush color c) c) o
marked brush color true o = refl
marked brush color false o = clear_stays brush o ∙ all_stay o

-- ---- pictures

-- the colour of a pixel in a row of a picture, of which some pixels may lie before it
pub color_at : (picture : Picture) (way : Way) (colors : List Color) (column before row k : ℕ)
    (x y : ℤ) → pos column -ℤ pos before ≡ x -ℤ way.right → (column ≡ 0) ⊎ (before ≡ 0)
    → pos row ≡ y -ℤ way.down
    → ((j : ℕ) → slice_get colors j ≡ bitmap_pixel picture (pos (column + j)) (pos row))
    → color_from before colors k ≡ picture_color picture way (x +ℤ pos k) y
color_at picture way colors column before row k x y far one down each =
    elim (cases_lt k before) [
      | inl h ↦ ap (λ b. cond b Clear (color_or_clear (slice_get colors (k - before))))
          (lt-ltb k before h)
          ∙ sym (ap color_or_clear
          (pixel_before picture (x +ℤ pos k -ℤ way.right) (y -ℤ way.down) (out h one)))
      | inr h ↦
          let across : pos (column + (k - before)) ≡ x +ℤ pos k -ℤ way.right =
          omega (arith, ints) in
          ap (λ b. cond b Clear (color_or_clear (slice_get colors (k - before))))
          (le-ltb k before h)
          ∙ ap color_or_clear (each (k - before) ∙ ap₂ (bitmap_pixel picture) across down)
    ]
  where
    out : k < before → (column ≡ 0) ⊎ (before ≡ 0) → (x +ℤ pos k -ℤ way.right) <ℤ pos 0
    out h (inl none) = omega (arith, ints)
    out h (inr none) = absurd (omega arith)

-- above a picture it is the transparent one
pub none_above : (brush : Brush) (picture : Picture) (way : Way) (x y : ℤ) (o : Option Cell)
    → (y -ℤ way.down) <ℤ pos 0
    → o ≡ option_map (painted brush (picture_color picture way x y)) o
none_above brush picture way x y o less =
    sym (ap (λ (s : Color). option_map (painted brush s) o)
    (ap color_or_clear (pixel_over picture (x -ℤ way.right) (y -ℤ way.down) less))
    ∙ clear_stays brush o)

-- ---- masks

left_bits : (masks : List ℕ) (u v : ℤ) → u <ℤ pos 0 → masks_bit masks u v ≡ false
left_bits masks (pos n) v less = absurd (omega (arith, ints))
left_bits masks (negsuc n) v less = refl

pub bits_above : (masks : List ℕ) (u v : ℤ) → v <ℤ pos 0 → masks_bit masks u v ≡ false
bits_above masks (pos n) (pos m) less = absurd (omega (arith, ints))
bits_above masks (pos n) (negsuc m) less = refl
bits_above masks (negsuc n) v less = refl

pub bits_below : (masks : List ℕ) (u v : ℤ) → pos 7 ≤ℤ v → masks_bit masks u v ≡ false
bits_below masks (pos n) (pos m) more =
    ap (λ b. b && mask_bit (slice_index masks m) n) (le-ltb m 7 (omega (arith, ints)))
bits_below masks (pos n) (negsuc m) more = refl
bits_below masks (negsuc n) v more = refl

pub bits_behind : (masks : List ℕ) (u v : ℤ) → pos 64 ≤ℤ u → masks_bit masks u v ≡ false
bits_behind masks (pos n) (pos m) more =
    and_right (nat_lt m 7) (mask_bit (slice_index masks m) n)
    (ap (λ b. b && (bit_at (slice_index masks m) (63 - n) == 1)) (le-ltb n 64 (omega (arith, ints))))
bits_behind masks (pos n) (negsuc m) more = refl
bits_behind masks (negsuc n) v more = refl

-- the bit of a pixel in a row of the masks, of which some pixels may lie before it
pub bit_of : (masks : List ℕ) (way : Way) (mask column before row k : ℕ) (x y : ℤ)
    → pos column -ℤ pos before ≡ x -ℤ way.right → (column ≡ 0) ⊎ (before ≡ 0)
    → pos row ≡ y -ℤ way.down → row < 7
    → ((j : ℕ) → mask_bit mask j ≡ mask_bit (slice_index masks row) (column + j))
    → has_bit_from before mask k ≡ masks_have masks way (x +ℤ pos k) y
bit_of masks way mask column before row k x y far one down few each =
    elim (cases_lt k before) [
      | inl h ↦ ap (λ b. not b && mask_bit mask (k - before)) (lt-ltb k before h)
          ∙ sym (left_bits masks (x +ℤ pos k -ℤ way.right) (y -ℤ way.down) (out h one))
      | inr h ↦
          let j = k - before in
          let across : pos (column + j) ≡ x +ℤ pos k -ℤ way.right = omega (arith, ints) in
          bit_from before mask k j (omega arith)
          ∙ each j
          ∙ sym (ap (λ b. b && mask_bit (slice_index masks row) (column + j)) (lt-ltb row 7 few))
          ∙ ap₂ (masks_bit masks) across down
    ]
  where
    out : k < before → (column ≡ 0) ⊎ (before ≡ 0) → (x +ℤ pos k -ℤ way.right) <ℤ pos 0
    out h (inl none) = omega (arith, ints)
    out h (inr none) = absurd (omega arith)

-- ---- patterns

-- the colour that a bit of a row picks
pub row_color : (brush : Brush) (rows : List ℕ) (byte : ℕ) (x y : ℤ)
    → byte ≡ slice_index rows (place_in_pattern y)
    → picked brush.mode (row_bit byte x) brush.high brush.low ≡ pattern_color brush rows x y
unfolding pattern_bit
row_color brush rows byte x y e =
    ap (λ b. picked brush.mode (row_bit b x) brush.high brush.low) e

-- ---- runs

-- some columns of which none is in a run
pub none_of : (rule : Rule) (at : ℤ → ℤ → Bool) (run : Span) (old : List Cell) (x end y by : ℤ)
    (k : ℕ) → end ≡ x +ℤ (pos (length old) -ℤ pos 1)
    → ((z : ℤ) → (between x z end && between run.first (z -ℤ by) run.last) ≡ false)
    → slice_get old k ≡ option_map (changed rule (λ z w. span_has run (z -ℤ by) && at z w)
    (x +ℤ pos k) y) (slice_get old k)
none_of rule at run old x end y by k e none =
    elim (cases_lt k (length old)) [
      | inl h ↦
          let here = is_between x (x +ℤ pos k) end (omega (arith, ints)) (omega (arith, ints)) in
          let out = ap (λ b. b && span_has run (x +ℤ pos k -ℤ by)) (sym here)
          ∙ none (x +ℤ pos k) in
          not_changed rule (λ z w. span_has run (z -ℤ by) && at z w) (x +ℤ pos k) y
          (slice_get old k) (ap (λ b. b && at (x +ℤ pos k) y) out)
      | inr h ↦ let past = slice_get_past old k h in past ∙ sym (ap (option_map _) past)
    ]

-- columns that some others and a run have in common are among the others
pub first_from : (first last x end : ℤ) (run : Span) (by : ℤ) → first ≤ℤ last
    → ((z : ℤ) → between first z last
    ≡ (between x z end && between run.first (z -ℤ by) run.last)) → x ≤ℤ first
first_from first last x end run by order both =
    let here = is_between first first last (omega (arith, ints)) order in
    not_below x first end (and_parts (between x first end)
    (between run.first (first -ℤ by) run.last) (sym (both first) ∙ here)).0

pub last_to : (first last x end : ℤ) (run : Span) (by : ℤ) → first ≤ℤ last
    → ((z : ℤ) → between first z last
    ≡ (between x z end && between run.first (z -ℤ by) run.last)) → last ≤ℤ end
last_to first last x end run by order both =
    let here = is_between first last last order (omega (arith, ints)) in
    not_above x last end (and_parts (between x last end)
    (between run.first (last -ℤ by) run.last) (sym (both last) ∙ here)).0

-- those columns are painted, and the others stay
pub run_changed : (rule : Rule) (at : ℤ → ℤ → Bool) (run : Span) (old new : List Cell)
    (first last x end y by : ℤ) (start count k : ℕ) → end ≡ x +ℤ (pos (length old) -ℤ pos 1)
    → first ≤ℤ last → pos start ≡ first -ℤ x → pos count ≡ last -ℤ first +ℤ pos 1
    → ((z : ℤ) → between first z last
    ≡ (between x z end && between run.first (z -ℤ by) run.last))
    → ((j : ℕ) → j < count → slice_get new (start + j)
    ≡ option_map (changed rule at (first +ℤ pos j) y) (slice_get old (start + j)))
    → ((q : ℕ) → (q < start) ⊎ ((start + count) ≤ q) → slice_get new q ≡ slice_get old q)
    → slice_get new k ≡ option_map (changed rule (λ z w. span_has run (z -ℤ by) && at z w)
    (x +ℤ pos k) y) (slice_get old k)
run_changed rule at run old new first last x end y by start count k e order far wide both inside others =
    elim (cases_lt k (length old)) [
      | inl h ↦ elim (cases_lt k start) [
        | inl less ↦ others k (inl less) ∙ stays h (is_below first (x +ℤ pos k) last
            (omega (arith, ints)))
        | inr from ↦ elim (cases_lt k (start + count)) [
          | inl to ↦ within h from to
          | inr past ↦ others k (inr past) ∙ stays h (is_above first (x +ℤ pos k) last
              (omega (arith, ints)))
        ]
      ]
      | inr h ↦
          let to = last_to first last x end run by order both in
          let past = slice_get_past old k h in
          others k (inr (omega (arith, ints))) ∙ past ∙ sym (ap (option_map _) past)
    ]
  where
    test : k < length old → between first (x +ℤ pos k) last ≡ span_has run (x +ℤ pos k -ℤ by)
    test h =
        let here = is_between x (x +ℤ pos k) end (omega (arith, ints)) (omega (arith, ints)) in
        both (x +ℤ pos k) ∙ ap (λ b. b && span_has run (x +ℤ pos k -ℤ by)) here

    stays : k < length old → between first (x +ℤ pos k) last ≡ false
        → slice_get old k ≡ option_map (changed rule (λ z w. span_has run (z -ℤ by) && at z w)
        (x +ℤ pos k) y) (slice_get old k)
    stays h out =
        not_changed rule (λ z w. span_has run (z -ℤ by) && at z w) (x +ℤ pos k) y (slice_get old k)
        (ap (λ b. b && at (x +ℤ pos k) y) (sym (test h) ∙ out))

    within : k < length old → start ≤ k → k < (start + count)
        → slice_get new k ≡ option_map (changed rule (λ z w. span_has run (z -ℤ by) && at z w)
        (x +ℤ pos k) y) (slice_get old k)
    within h from to =
        let j = k - start in
        let is : start + j ≡ k = omega arith in
        let column : first +ℤ pos j ≡ x +ℤ pos k = omega (arith, ints) in
        let has = sym (test h) ∙ is_between first (x +ℤ pos k) last (omega (arith, ints))
        (omega (arith, ints)) in
        ap (slice_get new) (sym is)
        ∙ inside j (omega arith)
        ∙ ap (λ z. option_map (changed rule at z y) (slice_get old (start + j))) column
        ∙ ap (λ q. option_map (changed rule at (x +ℤ pos k) y) (slice_get old q)) is
        ∙ same_changed rule at (λ z w. span_has run (z -ℤ by) && at z w) (x +ℤ pos k) y
        (slice_get old k) (ap (λ b. b && at (x +ℤ pos k) y) (sym has))

-- ---- one pixel of some

pub moved_between : (column x by : ℤ)
    → between (column +ℤ by) x (column +ℤ by) ≡ between column (x -ℤ by) column
unfolding between
moved_between column x by = grind (arith, ints)

-- none of them is in the column
pub none_there : (rule : Rule) (at : ℤ → ℤ → Bool) (old : List Cell) (x y column : ℤ) (k : ℕ)
    → (column <ℤ x) ⊎ ((x +ℤ pos (length old)) ≤ℤ column)
    → slice_get old k ≡ option_map (changed rule (λ z w. between column z column && at z w)
    (x +ℤ pos k) y) (slice_get old k)
none_there rule at old x y column k out =
    elim (cases_lt k (length old)) [
      | inl h ↦
          not_changed rule (λ z w. between column z column && at z w) (x +ℤ pos k) y
          (slice_get old k) (ap (λ b. b && at (x +ℤ pos k) y) (apart h out))
      | inr h ↦ let past = slice_get_past old k h in past ∙ sym (ap (option_map _) past)
    ]
  where
    apart : k < length old → (column <ℤ x) ⊎ ((x +ℤ pos (length old)) ≤ℤ column)
        → between column (x +ℤ pos k) column ≡ false
    apart h (inl left) = is_above column (x +ℤ pos k) column (omega (arith, ints))
    apart h (inr right) = is_below column (x +ℤ pos k) column (omega (arith, ints))

-- the one in the column is painted, and the others stay
pub one_changed : (rule : Rule) (at : ℤ → ℤ → Bool) (old new : List Cell) (x y column : ℤ)
    (start k : ℕ) → pos start ≡ column -ℤ x
    → ((j : ℕ) → j < 1 → slice_get new (start + j)
    ≡ option_map (changed rule at (column +ℤ pos j) y) (slice_get old (start + j)))
    → ((q : ℕ) → (q < start) ⊎ ((start + 1) ≤ q) → slice_get new q ≡ slice_get old q)
    → slice_get new k ≡ option_map (changed rule (λ z w. between column z column && at z w)
    (x +ℤ pos k) y) (slice_get old k)
one_changed rule at old new x y column start k far inside others =
    elim (cases_lt k start) [
      | inl less ↦ others k (inl less) ∙ stays (is_below column (x +ℤ pos k) column (omega (arith, ints)))
      | inr from ↦ elim (cases_lt start k) [
        | inl past ↦ others k (inr (omega arith)) ∙ stays (is_above column (x +ℤ pos k) column (omega (arith, ints)))
        | inr to ↦
            let is : start + 0 ≡ k = omega arith in
            let across : column +ℤ pos 0 ≡ x +ℤ pos k = omega (arith, ints) in
            let has = is_between column (x +ℤ pos k) column (omega (arith, ints)) (omega (arith, ints)) in
            ap (slice_get new) (sym is)
            ∙ inside 0 (omega arith)
            ∙ ap (λ z. option_map (changed rule at z y) (slice_get old (start + 0))) across
            ∙ ap (λ q. option_map (changed rule at (x +ℤ pos k) y) (slice_get old q)) is
            ∙ same_changed rule at (λ z w. between column z column && at z w) (x +ℤ pos k) y
            (slice_get old k) (ap (λ b. b && at (x +ℤ pos k) y) (sym has))
      ]
    ]
  where
    stays : between column (x +ℤ pos k) column ≡ false
        → slice_get old k ≡ option_map (changed rule (λ z w. between column z column && at z w)
        (x +ℤ pos k) y) (slice_get old k)
    stays out =
        not_changed rule (λ z w. between column z column && at z w) (x +ℤ pos k) y (slice_get old k)
        (ap (λ b. b && at (x +ℤ pos k) y) out)
