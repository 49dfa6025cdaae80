-- What a buffer shows, from the cells that it keeps.
use Rattle.std.proofs.Common.{◌≡◌, ℕ, zero, suc, ℤ, pos, ◌+ℤ◌, ◌-ℤ◌, ◌<ℤ◌, Bool, true, false, ◌&&◌, cond, List, length, All, count_by, inl, inr, Option, Some, None, IsNone, IsSome, rules, refl, sym, ap, ◌∙◌, subst, arith}
use Rattle.std.specs.Prelude.{unsigned_abs}
use Rattle.std.specs.Option.{option_map}
use Rattle.std.proofs.lemmas.Bool.{true≢false}
use Rattle.std.proofs.lemmas.Int.{ints, by_lt_z}
use Rattle.std.proofs.lemmas.Option.{get_or_from_slice_get}
use Rattle.be_facts.proofs.Numbers.{plus_zero, unsigned_abs_is}
use Rattle.be_facts.proofs.Truths.{true_or_false}
use Rattle.be_geom.specs.declared.rect.Rect.{Rect}
use Rattle.be_geom.specs.Rects.{rect_has}
use Rattle.be_region.specs.Bands.{AreBands}
use Rattle.be_region.specs.Regions.{region_has}
use Rattle.be_span.specs.declared.Cell.{Cell}
use Rattle.be_span.specs.Runs.{HasRun, IsBeside}
use Rattle.be_span.specs.Painting.{Rule, IsPainted}
use Rattle.be_span.specs.Seen.{IsSeen, seen}
use Rattle.be_span.specs.Spans.{Spans, cell_in, is_dirty, pixels_of, place_of}
use Rattle.be_span.proofs.CountLemmas.{seen_dirty}
use Rattle.be_span.proofs.MarkLemmas.{clean_count}
use Rattle.be_span.proofs.PlaceLemmas.{pixel_of, place_has}
use Rattle.be_span.proofs.SeenLemmas.{cell_place, seen_cell, seen_length, seen_rects, unseen_cell}

-- ---- the region

pub rects_are : (rs : List Rect) (kept s : Spans) → seen rs kept ≡ s → s.rects ≡ rs
rects_are rs kept s view = ap (λ (t : Spans). t.rects) (sym view) ∙ seen_rects rs kept

pub run_of : (rs : List Rect) (kept s : Spans) (x y : ℤ) (n : ℕ) → seen rs kept ≡ s → HasRun s.rects x y n → HasRun rs x y n
run_of rs kept s x y n view run = subst (λ (l : List Rect). HasRun l x y n) (rects_are rs kept s view) run

pub run_kept : (rs : List Rect) (kept s : Spans) (x y : ℤ) (n : ℕ) → IsSeen rs kept → seen rs kept ≡ s → HasRun s.rects x y n → HasRun kept.rects x y n
run_kept rs kept s x y n is view run k less = is.inside (x +ℤ pos k) y (run_of rs kept s x y n view run k less)

pub whole_is : (rs : List Rect) (kept s : Spans) → seen rs kept ≡ s → length s.cells ≡ pixels_of s.rects
whole_is rs kept s view = subst (λ (t : Spans). length t.cells ≡ pixels_of t.rects) view (seen_length rs kept ∙ sym (ap pixels_of (seen_rects rs kept)))

pub dirty_is : (rs : List Rect) (kept s : Spans) → IsSeen rs kept → seen rs kept ≡ s → count_by (λ c. c.dirty) s.cells ≡ count_by (λ c. c.dirty) kept.cells
dirty_is rs kept s is view = ap (λ (t : Spans). count_by (λ c. c.dirty) t.cells) (sym view) ∙ seen_dirty rs kept is

-- ---- cells

pub cell_is : (rs : List Rect) (kept s : Spans) (x y : ℤ) → IsSeen rs kept → seen rs kept ≡ s → region_has rs x y ≡ true → cell_in s x y ≡ cell_in kept x y
cell_is rs kept s x y is view has = ap (λ t. cell_in t x y) (sym view) ∙ seen_cell rs kept x y is has

pub none_is : (rs : List Rect) (kept s : Spans) (x y : ℤ) → seen rs kept ≡ s → region_has rs x y ≡ false → cell_in s x y ≡ None
none_is rs kept s x y view out = ap (λ t. cell_in t x y) (sym view) ∙ unseen_cell rs kept x y out

-- none is dirty of which none that is kept is
pub clean_of : (rs : List Rect) (kept : Spans) → IsSeen rs kept → ((x y : ℤ) → is_dirty (cell_in kept x y) ≡ false) → count_by (λ c. c.dirty) (seen rs kept).cells ≡ 0
clean_of rs kept is clean =
    clean_count (seen rs kept) (subst AreBands (sym (seen_rects rs kept)) is.bands) (seen_length rs kept ∙ sym (ap pixels_of (seen_rects rs kept))) (λ x y.
    elim (true_or_false (region_has rs x y)) [
      | inl h ↦ ap is_dirty (seen_cell rs kept x y is h) ∙ clean x y
      | inr h ↦ ap is_dirty (unseen_cell rs kept x y h)
    ])

-- the region's cells are all one where those are that are kept for it
pub all_cells : (rs : List Rect) (kept : Spans) (c : Cell) → IsSeen rs kept → ((x y : ℤ) → region_has rs x y ≡ true → cell_in kept x y ≡ Some c) → All (λ d. d ≡ c) (seen rs kept).cells
all_cells rs kept c is same k d less =
    let whole = seen_length rs kept in
    let pixel = pixel_of rs k is.bands.none_empty is.bands.in_order (omega arith) in
    let x = pixel.0 in
    let y = pixel.1.0 in
    let at : place_of (seen rs kept).rects x y ≡ Some k = ap (λ l. place_of l x y) (seen_rects rs kept) ∙ pixel.1.1 in
    let has = place_has rs x y k pixel.1.1 in
    get_or_from_slice_get (seen rs kept).cells k c d (sym (cell_place (seen rs kept) x y k at) ∙ seen_cell rs kept x y is has ∙ same x y has)

-- a pixel whose cell stays is shown as it was
pub cell_stays : (rs : List Rect) (old new : Spans) (x y : ℤ) → IsSeen rs old → IsSeen rs new → cell_in new x y ≡ cell_in old x y → cell_in (seen rs new) x y ≡ cell_in (seen rs old) x y
cell_stays rs old new x y was is same =
    elim (true_or_false (region_has rs x y)) [
      | inl h ↦ seen_cell rs new x y is h ∙ same ∙ sym (seen_cell rs old x y was h)
      | inr h ↦ unseen_cell rs new x y h ∙ sym (unseen_cell rs old x y h)
    ]

-- ---- what is written to

-- a pixel outside the region is none of a run's
pub out_beside : (rs : List Rect) (x y : ℤ) (n : ℕ) (z w : ℤ) → HasRun rs x y n → region_has rs z w ≡ false → IsBeside x y n z w
out_beside rs x y n z w run out =
    by_lt_z w y
    (λ above. inl (λ (e : w ≡ y). omega (arith, ints)))
    (λ from. by_lt_z y w
    (λ below. inl (λ (e : w ≡ y). omega (arith, ints)))
    (λ to. by_lt_z z x
    (λ before. inr (inl before))
    (λ from_left. by_lt_z z (x +ℤ pos n)
    (λ within. absurd (here (unsigned_abs (z -ℤ x)) (unsigned_abs_is (z -ℤ x) (omega (arith, ints))) within (omega (arith, ints))))
    (λ behind. inr (inr behind)))))
  where
    here : (k : ℕ) → pos k ≡ z -ℤ x → z <ℤ (x +ℤ pos n) → w ≡ y → ⊥
    here k e within same =
        let at : x +ℤ pos k ≡ z = omega (arith, ints) in
        true≢false (sym (run k (omega (arith, ints))) ∙ ap (λ t. region_has rs t y) at ∙ ap (region_has rs z) (sym same) ∙ out)

-- cells that were written in the region alone
pub seen_run : (rs : List Rect) (old new : Spans) (x y : ℤ) (n : ℕ) → IsSeen rs old → new.rects ≡ old.rects → length new.cells ≡ pixels_of new.rects → HasRun rs x y n → ((z w : ℤ) → IsBeside x y n z w → cell_in new z w ≡ cell_in old z w) → IsSeen rs new
seen_run rs old new x y n is same whole run others = record {
  bands = is.bands;
  frame = is.frame;
  framed = same ∙ is.framed;
  some = is.some;
  inside = λ z w has. ap (λ l. region_has l z w) same ∙ is.inside z w has;
  whole = whole;
  outside = λ z w out. ap is_dirty (others z w (out_beside rs x y n z w run out)) ∙ is.outside z w out;
}

pub some_unless : {X : Type 0} (o : Option X) → (IsNone o → ⊥) → IsSome o
some_unless (Some x) h = search rules
some_unless None h = absurd (h refl)

-- a run of one pixel
pub one_run : (rs : List Rect) (x y : ℤ) → region_has rs x y ≡ true → HasRun rs x y 1
one_run rs x y has zero less = ap (λ z. region_has rs z y) (plus_zero x) ∙ has
one_run rs x y has (suc k) less = absurd (omega arith)

-- ---- what is painted

-- in a rectangle of the region
pub seen_painted : (rs : List Rect) (old new : Spans) (rule : Rule) (at : ℤ → ℤ → Bool) (r : Rect) → IsSeen rs old → IsPainted rule (λ x y. rect_has r x y && at x y) old new → length new.cells ≡ pixels_of new.rects → ((x y : ℤ) → rect_has r x y ≡ true → region_has rs x y ≡ true) → IsSeen rs new
seen_painted rs old new rule at r is painted whole inside = record {
  bands = is.bands;
  frame = is.frame;
  framed = painted.region ∙ is.framed;
  some = is.some;
  inside = λ z w has. ap (λ l. region_has l z w) painted.region ∙ is.inside z w has;
  whole = whole;
  outside = λ z w out. ap is_dirty (painted.cells z w ∙ ap (λ b. cond (b && at z w) (option_map (rule z w) (cell_in old z w)) (cell_in old z w)) (beside z w out)) ∙ is.outside z w out;
}
  where
    beside : (z w : ℤ) → region_has rs z w ≡ false → rect_has r z w ≡ false
    beside z w out =
        elim (true_or_false (rect_has r z w)) [ inl h ↦ absurd (true≢false (sym (inside z w h) ∙ out)) | inr h ↦ h ]

pub painted_seen : (rs : List Rect) (old new s : Spans) (rule : Rule) (at : ℤ → ℤ → Bool) → IsSeen rs old → IsSeen rs new → seen rs old ≡ s → IsPainted rule at old new → IsPainted rule at s (seen rs new)
painted_seen rs old new s rule at was is view painted = record {
  region = seen_rects rs new ∙ sym (rects_are rs old s view);
  cells = λ x y. elim (true_or_false (region_has rs x y)) [
    | inl h ↦ seen_cell rs new x y is h ∙ painted.cells x y ∙ ap (λ o. cond (at x y) (option_map (rule x y) o) o) (sym (cell_is rs old s x y was view h))
    | inr h ↦ unseen_cell rs new x y h ∙ neither (rule x y) (at x y) ∙ ap (λ o. cond (at x y) (option_map (rule x y) o) o) (sym (none_is rs old s x y view h))
  ];
}
  where
    neither : (f : Cell → Cell) (b : Bool) → let none : Option Cell = None in none ≡ cond b (option_map f none) none
    neither f true = refl
    neither f false = refl
