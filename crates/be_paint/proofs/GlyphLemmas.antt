-- Glyphs and texts.
use Rattle.std.proofs.Common.{◌≡◌, ℕ, zero, suc, ℤ, pos, negsuc, ◌*◌, ◌/◌, ◌+ℤ◌, ◌-ℤ◌, ◌*ℤ◌, ◌≤ℤ◌, ◌<ℤ◌, ◌≤◌, ◌<◌, Bool, true, false, ◌||◌, List, [], ◌∷◌, length, get_or, slice_index, replicate, set, refl, ap, ap₂, sym, ◌∙◌, ◌-◌, arith}
use Rattle.std.proofs.Math.ListN.{drop, take}
use Rattle.std.proofs.Math.Seq.{drop-cons}
use Rattle.std.proofs.lemmas.List.{drop_all, take_all, length-drop, get_or-set_same, get_or-replicate}
use Rattle.std.proofs.lemmas.Int.{ints, clamps}
use Rattle.be_font.specs.Glyphs.{glyph_bit}
use Rattle.std.specs.Int.{int_min}
use Rattle.std.specs.Int.Bits.{bit_or}
use Rattle.be_facts.proofs.Truths.{or_regroup}
use Rattle.be_font.specs.Runs.{row_bit}
use Rattle.be_font.proofs.RowLemmas.{glyph_bit-column_past, glyph_bit-row_past}
use Rattle.be_span.specs.Slices.{mask_bit}
use Rattle.be_paint.specs.Inks.{glyph_covers, text_has, pen_behind}
use Rattle.be_paint.specs.Laying.{AreMasksOf}
use Rattle.be_paint.proofs.BitLemmas.{mask_none, mask_or}

-- ---- rows

-- no glyph has a bit in the row
abbrev pub HasNoGlyph : ℤ → Type 0
HasNoGlyph row = (code : ℕ) (column : ℤ) → glyph_covers code column row ≡ false

pub row_above : (row : ℤ) → row <ℤ pos 0 → HasNoGlyph row
row_above (pos n) h code column = absurd (omega (arith, ints))
row_above (negsuc n) h code (pos column) = refl
row_above (negsuc n) h code (negsuc column) = refl

pub row_below : (row : ℤ) → pos 7 ≤ℤ row → HasNoGlyph row
row_below (negsuc n) h code column = absurd (omega (arith, ints))
row_below (pos n) h code (pos column) = glyph_bit-row_past code column n (omega (arith, ints))
row_below (pos n) h code (negsuc column) = refl

pub text_none : (codes : List ℕ) (pen_x pen_y x y : ℤ) → HasNoGlyph (y -ℤ pen_y +ℤ pos 6) → text_has codes pen_x pen_y x y ≡ false
text_none [] pen_x pen_y x y h = refl
text_none (code ∷ codes) pen_x pen_y x y h =
    ap (λ b. b || text_has codes (pen_behind pen_x) pen_y x y) (h code (x -ℤ pen_x)) ∙ text_none codes (pen_behind pen_x) pen_y x y h

-- ---- glyphs

covers_left : (code row : ℕ) (z : ℤ) → z <ℤ pos 0 → glyph_covers code z (pos row) ≡ false
covers_left code row (pos n) h = absurd (omega (arith, ints))
covers_left code row (negsuc n) h = refl

covers_past : (code row : ℕ) (z : ℤ) → pos 5 ≤ℤ z → glyph_covers code z (pos row) ≡ false
covers_past code row (negsuc n) h = absurd (omega (arith, ints))
covers_past code row (pos n) h = glyph_bit-column_past code n row (omega (arith, ints))

-- ---- texts

-- the next glyph, and those behind it
text_next : (codes : List ℕ) (i code : ℕ) (left pen_y z y : ℤ) → i < length codes → code ≡ get_or codes i 0 → text_has (drop i codes) left pen_y z y ≡ (glyph_covers code (z -ℤ left) (y -ℤ pen_y +ℤ pos 6) || text_has (drop (suc i) codes) (pen_behind left) pen_y z y)
text_next codes i code left pen_y z y h read = rw (drop-cons codes i 0, ← read) refl

-- no glyph is left
pub text_end : (codes : List ℕ) (i : ℕ) (left pen_y z y : ℤ) → length codes ≤ i → text_has (drop i codes) left pen_y z y ≡ false
text_end codes i left pen_y z y h = ap (λ l. text_has l left pen_y z y) (drop_all i codes h)

-- ---- glyphs that are far from a column

covers_not_past : (code : ℕ) (row z : ℤ) → pos 5 ≤ℤ z → glyph_covers code z row ≡ false
covers_not_past code (pos row) z h = covers_past code row z h
covers_not_past code (negsuc row) (pos n) h = refl
covers_not_past code (negsuc row) (negsuc n) h = refl

covers_not_left : (code : ℕ) (row z : ℤ) → z <ℤ pos 0 → glyph_covers code z row ≡ false
covers_not_left code (pos row) z h = covers_left code row z h
covers_not_left code (negsuc row) (pos n) h = refl
covers_not_left code (negsuc row) (negsuc n) h = refl

-- all glyphs begin behind the column
pub text_behind : (codes : List ℕ) (left pen_y z y : ℤ) → z <ℤ left → left ≤ℤ pos 32767 → text_has codes left pen_y z y ≡ false
text_behind [] left pen_y z y h most = refl
text_behind (code ∷ codes) left pen_y z y h most =
    ap (λ b. b || text_has codes (pen_behind left) pen_y z y) (covers_not_left code (y -ℤ pen_y +ℤ pos 6) (z -ℤ left) (omega (arith, ints)))
    ∙ text_behind codes (pen_behind left) pen_y z y (omega (arith, ints, clamps)) (omega (arith, ints, clamps))

-- the first glyphs end before the column
pub text_before : (n : ℕ) (codes : List ℕ) (left pen_y z y : ℤ) → (left +ℤ pos 6 *ℤ pos n) ≤ℤ pos 32767 → (0 < n → (left +ℤ pos 6 *ℤ pos n) ≤ℤ z) → text_has codes left pen_y z y ≡ text_has (drop n codes) (left +ℤ pos 6 *ℤ pos n) pen_y z y
text_before zero codes left pen_y z y most h = ap (λ l. text_has codes l pen_y z y) (omega (arith, ints))
text_before (suc n) [] left pen_y z y most h = refl
text_before (suc n) (code ∷ codes) left pen_y z y most h =
    let here = h (omega arith) in
    let next : pen_behind left ≡ left +ℤ pos 6 = omega (arith, ints, clamps) in
    let sum : left +ℤ pos 6 +ℤ pos 6 *ℤ pos n ≡ left +ℤ pos 6 *ℤ pos (suc n) = omega (arith, ints) in
    ap (λ b. b || text_has codes (pen_behind left) pen_y z y) (covers_not_past code (y -ℤ pen_y +ℤ pos 6) (z -ℤ left) (omega (arith, ints)))
    ∙ ap (λ l. text_has codes l pen_y z y) next
    ∙ text_before n codes (left +ℤ pos 6) pen_y z y (omega (arith, ints)) (λ _. omega (arith, ints))
    ∙ ap (λ l. text_has (drop n codes) l pen_y z y) sum

-- whole steps of a way
pub steps_within : (w : ℕ) → 6 * (w / 6) ≤ w
steps_within w = omega arith

-- the same with what the code has
pub text_skip : (codes : List ℕ) (m : ℕ) (left x pen_y z y : ℤ) → x ≡ left +ℤ pos 6 *ℤ pos m → x ≤ℤ pos 32767 → (0 < m → x ≤ℤ z) → m ≤ length codes → text_has codes left pen_y z y ≡ text_has (take (length codes - m) (drop m codes)) x pen_y z y
text_skip codes m left x pen_y z y at most before fits =
    text_before m codes left pen_y z y (omega (arith, ints)) (λ some. let b = before some in omega (arith, ints))
    ∙ ap (λ l. text_has (drop m codes) l pen_y z y) (sym at)
    ∙ ap (λ l. text_has l x pen_y z y) (sym (take_all (length codes - m) (drop m codes) (let e = length-drop m codes in omega arith)))

-- all glyphs end before the column
pub text_past : (codes : List ℕ) (m : ℕ) (left x pen_y z y : ℤ) → x ≡ left +ℤ pos 6 *ℤ pos m → x ≤ℤ pos 32767 → (0 < m → x ≤ℤ z) → length codes < m → text_has codes left pen_y z y ≡ false
text_past codes m left x pen_y z y at most before few =
    text_before m codes left pen_y z y (omega (arith, ints)) (λ some. let b = before some in omega (arith, ints))
    ∙ ap (λ l. text_has l (left +ℤ pos 6 *ℤ pos m) pen_y z y) (drop_all m codes (omega arith))

-- all glyphs end before the column, or it is behind the last one that a glyph can have
pub text_ended : (codes : List ℕ) (left pen_y z y : ℤ) → left ≤ℤ pos 32767 → int_min (left +ℤ pos 6 *ℤ pos (length codes)) (pos 32772) ≤ℤ z → text_has codes left pen_y z y ≡ false
text_ended [] left pen_y z y most h = refl
text_ended (code ∷ codes) left pen_y z y most h =
    ap (λ b. b || text_has codes (pen_behind left) pen_y z y) (covers_not_past code (y -ℤ pen_y +ℤ pos 6) (z -ℤ left) (omega (arith, ints, clamps)))
    ∙ text_ended codes (pen_behind left) pen_y z y (omega (arith, ints, clamps)) (omega (arith, ints, clamps))

-- ---- the bits of masks

-- a column from a glyph's left on
bit_covered : (code row byte : ℕ) (z : ℤ) (b : Bool) → ((column : ℕ) → glyph_bit code column row ≡ row_bit byte column) → ((column : ℕ) → z ≡ pos column → b ≡ row_bit byte column) → (z <ℤ pos 0 → b ≡ false) → b ≡ glyph_covers code z (pos row)
bit_covered code row byte (pos n) b bits inside before = inside n refl ∙ sym (bits n)
bit_covered code row byte (negsuc n) b bits inside before = before (omega (arith, ints))

-- a glyph's byte placed among the pixels
pub placed_covers : (code row byte mask k : ℕ) (left : ℤ) → k < 64 → ((column : ℕ) → glyph_bit code column row ≡ row_bit byte column) → ((k column : ℕ) → k < 64 → pos k ≡ left +ℤ pos column → mask_bit mask k ≡ row_bit byte column) → ((k : ℕ) → pos k <ℤ left → mask_bit mask k ≡ false) → mask_bit mask k ≡ glyph_covers code (pos k -ℤ left) (pos row)
placed_covers code row byte mask k left h bits inside before =
    bit_covered code row byte (pos k -ℤ left) (mask_bit mask k) bits
    (λ column e. inside k column h (omega (arith, ints)))
    (λ less. before k (omega (arith, ints)))

-- one of the masks gets more bits
pub mask_added : (masks : List ℕ) (i more k : ℕ) → i < length masks → k < 64 → mask_bit (slice_index (set masks i (bit_or (slice_index masks i) more)) i) k ≡ (mask_bit (slice_index masks i) k || mask_bit more k)
mask_added masks i more k there h =
    ap (λ m. mask_bit m k) (get_or-set_same masks i (bit_or (slice_index masks i) more) 0 there)
    ∙ mask_or (slice_index masks i) more k h

-- what is gathered, and what is left
abbrev pub AreGathered : List ℕ → List ℕ → ℤ → ℤ → ℤ → List ℕ → Type 0
AreGathered codes rest pen left x masks = (pen_y : ℤ) (k row : ℕ) → k < 64 → row < 7
    → text_has codes pen pen_y (x +ℤ pos k) (pen_y -ℤ pos 6 +ℤ pos row) ≡ (mask_bit (slice_index masks row) k || text_has rest left pen_y (x +ℤ pos k) (pen_y -ℤ pos 6 +ℤ pos row))

pub gathered_more : (codes : List ℕ) (i code : ℕ) (masks new : List ℕ) (pen left x : ℤ) → i < length codes → code ≡ get_or codes i 0 → ((k row : ℕ) → k < 64 → row < 7 → mask_bit (slice_index new row) k ≡ (mask_bit (slice_index masks row) k || glyph_covers code (pos k -ℤ (left -ℤ x)) (pos row))) → AreGathered codes (drop i codes) pen left x masks → AreGathered codes (drop (suc i) codes) pen (pen_behind left) x new
gathered_more codes i code masks new pen left x inside read added before pen_y k row h r =
    let y : ℤ = pen_y -ℤ pos 6 +ℤ pos row in
    let next = text_has (drop (suc i) codes) (pen_behind left) pen_y (x +ℤ pos k) y in
    let across : x +ℤ pos k -ℤ left ≡ pos k -ℤ (left -ℤ x) = omega (arith, ints) in
    let down : y -ℤ pen_y +ℤ pos 6 ≡ pos row = omega (arith, ints) in
    before pen_y k row h r
    ∙ ap (λ b. mask_bit (slice_index masks row) k || b) (text_next codes i code left pen_y (x +ℤ pos k) y inside read ∙ ap (λ b. b || next) (ap₂ (glyph_covers code) across down))
    ∙ or_regroup (mask_bit (slice_index masks row) k) (glyph_covers code (pos k -ℤ (left -ℤ x)) (pos row)) next
    ∙ ap (λ b. b || next) (sym (added k row h r))

none_more : (a b : Bool) → b ≡ false → (a || b) ≡ a
none_more true b e = refl
none_more false b e = e

-- none of those that are left is at the pixels
pub gathered_all : (codes rest : List ℕ) (pen left x : ℤ) (masks : List ℕ) → length masks ≡ 7 → AreGathered codes rest pen left x masks → ((pen_y y : ℤ) (k : ℕ) → k < 64 → text_has rest left pen_y (x +ℤ pos k) y ≡ false) → (pen_y : ℤ) → AreMasksOf codes pen pen_y x masks
gathered_all codes rest pen left x masks seven gathered none pen_y = record {
  seven = seven;
  each = λ k row h r.
      let y : ℤ = pen_y -ℤ pos 6 +ℤ pos row in
      sym (gathered pen_y k row h r ∙ none_more (mask_bit (slice_index masks row) k) (text_has rest left pen_y (x +ℤ pos k) y) (none pen_y y k h));
}

-- where no glyph is at the pixels
none_of_seven : (row k : ℕ) → row < 7 → mask_bit (slice_index (replicate 7 0) row) k ≡ false
none_of_seven row k r = ap (λ m. mask_bit m k) (get_or-replicate 7 row 0 0 r) ∙ mask_none k

pub no_masks : (codes : List ℕ) (pen_x pen_y x : ℤ) → ((y : ℤ) (k : ℕ) → k < 64 → text_has codes pen_x pen_y (x +ℤ pos k) y ≡ false) → AreMasksOf codes pen_x pen_y x (replicate 7 0)
no_masks codes pen_x pen_y x none = record {
  seven = refl;
  each = λ k row h r. none_of_seven row k r ∙ sym (none (pen_y -ℤ pos 6 +ℤ pos row) k h);
}
