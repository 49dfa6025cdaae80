-- Marks that painting leaves.
use Rattle.std.specs.Prelude.{slice_get, count_by, option_and_then}
use Rattle.std.specs.Option.{option_map}
use Rattle.std.proofs.Common.{◌≡◌, ℕ, ◌+◌, zero, suc, ℤ, Bool, true, false, cond, List, [], ◌∷◌}
use Rattle.std.proofs.Common.{Option, Some, length, if◌then◌else◌, arith, refl, sym, ap, ◌∙◌}
use Rattle.std.proofs.lemmas.List.Sums.{sum_by-cons}
use Rattle.std.proofs.lemmas.Option.{same_Some, slice_get_within}
use Rattle.be_span.specs.declared.Cell.{Cell}
use Rattle.be_span.specs.Spans.{Spans, cell_in, pixels_of, place_of}
use Rattle.be_span.proofs.PlaceLemmas.{pixel_of}
use Rattle.be_descent.specs.Marks.{MarksStay}

abbrev one_if : Bool → ℕ
one_if b = cond b 1 0

count_cons : (c : Cell) (cs : List Cell)
    → count_by (λ d. d.dirty) (c ∷ cs) ≡ one_if c.dirty + count_by (λ d. d.dirty) cs
count_cons c cs = sum_by-cons (λ (d : Cell). one_if d.dirty) c cs

-- cells one by one with the same marks
same_count : (old new : List Cell) → length new ≡ length old
    → ((k : ℕ) (c d : Cell) → slice_get old k ≡ Some c → slice_get new k ≡ Some d
    → d.dirty ≡ c.dirty) → count_by (λ c. c.dirty) new ≡ count_by (λ c. c.dirty) old
same_count [] [] e h = refl
same_count [] (d ∷ ds) e h = absurd (omega arith)
same_count (c ∷ cs) [] e h = absurd (omega arith)
same_count (c ∷ cs) (d ∷ ds) e h =
    let rest = same_count cs ds (omega arith) (λ k a b. h (suc k) a b) in
    let mark : one_if d.dirty ≡ one_if c.dirty = ap one_if (h zero c d refl refl) in
    let one = count_cons c cs in
    let other = count_cons d ds in
    omega arith

read_at : (s : Spans) (x y : ℤ) (k : ℕ) → place_of s.rects x y ≡ Some k
    → cell_in s x y ≡ slice_get s.cells k
unfolding cell_in
read_at s x y k e = ap (option_and_then (slice_get s.cells)) e

either_mark : (f : Cell → Cell) (b : Bool) (c d : Cell) (old new : Option Cell)
    → (f c).dirty ≡ c.dirty → old ≡ Some c → new ≡ Some d
    → new ≡ (if b then option_map f old else old) → d.dirty ≡ c.dirty
either_mark f true c d old new h o n e =
    ap (λ (a : Cell). a.dirty) (same_Some d (f c) (sym n ∙ e ∙ ap (option_map f) o)) ∙ h
either_mark f false c d old new h o n e =
    ap (λ (a : Cell). a.dirty) (same_Some d c (sym n ∙ e ∙ o))

pub marks_left : MarksStay
marks_left rule at old new whole after leaves done =
    let a = whole.cells in
    let b = after.cells in
    let same = ap (λ rs. pixels_of rs) done.region in
    same_count old.cells new.cells (b ∙ same ∙ sym a) (λ k c d o n.
    let less = slice_get_within old.cells k c o in
    let pixel = pixel_of old.rects k whole.bands.none_empty whole.bands.in_order (omega arith)
    in
    let x = pixel.0 in
    let y = pixel.1.0 in
    let is = pixel.1.1 in
    either_mark (rule x y) (at x y) c d (cell_in old x y) (cell_in new x y) (leaves x y c)
    (read_at old x y k is ∙ o) (read_at new x y k
    (ap (λ rs. place_of rs x y) done.region ∙ is) ∙ n) (done.cells x y))
