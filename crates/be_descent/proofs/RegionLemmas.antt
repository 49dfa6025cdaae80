-- Painting looks at no pixel outside the region.
use Rattle.std.specs.Prelude.{if◌then◌else◌}
use Rattle.std.specs.Option.{option_map}
use Rattle.std.proofs.Common.{◌≡◌, ℤ, ◌+ℤ◌, ◌-ℤ◌, ◌≤ℤ◌, pos, Bool, true, false, ◌&&◌, ◌||◌, List}
use Rattle.std.proofs.Common.{Option, None, ℕ, ◌<◌, ◌<ℤ◌, unsigned_abs}
use Rattle.std.proofs.Common.{refl, ap, sym, ◌∙◌, arith}
use Rattle.std.proofs.lemmas.Bool.{true≢false}
use Rattle.std.proofs.lemmas.Int.{ints, by_lt_z}
use Rattle.be_facts.proofs.Truths.{and_false, and_spread}
use Rattle.be_geom.specs.declared.rect.Rect.{Rect}
use Rattle.be_geom.specs.Points.{between}
use Rattle.be_geom.proofs.Between.{is_above, is_below, is_between}
use Rattle.be_shape.proofs.BetweenLemmas.{not_above}
use Rattle.be_region.specs.Regions.{region_has}
use Rattle.be_span.specs.declared.Cell.{Cell}
use Rattle.be_span.specs.Spans.{Spans, cell_in}
use Rattle.be_span.proofs.CellLemmas.{cell_none}
use Rattle.be_span.specs.Painting.{Rule, IsPainted}
use Rattle.be_descent.proofs.PaintLemmas.{both_painted, same_painted}

none_mapped : (f : Cell → Cell) (b : Bool) (old : Option Cell) → old ≡ None
    → (if b then option_map f old else old) ≡ None
none_mapped f true old e = ap (option_map f) e
none_mapped f false old e = e

same_cell : (f : Cell → Cell) (r p q : Bool) (old new : Option Cell) → (r ≡ false → old ≡ None)
    → (r ≡ true → p ≡ q) → new ≡ (if p then option_map f old else old)
    → new ≡ (if q then option_map f old else old)
same_cell f true p q old new none same e =
    e ∙ ap (λ (b : Bool). if b then option_map f old else old) (same refl)
same_cell f false p q old new none same e =
    e ∙ none_mapped f p old (none refl) ∙ sym (none_mapped f q old (none refl))

-- tests that agree at the pixels of the region are the same ones
pub region_painted : (rule : Rule) (p q : ℤ → ℤ → Bool) (old new : Spans)
    → ((x y : ℤ) → region_has old.rects x y ≡ true → p x y ≡ q x y) → IsPainted rule p old new
    → IsPainted rule q old new
region_painted rule p q old new same done = record {
  region = done.region;
  cells = λ x y. same_cell (rule x y) (region_has old.rects x y) (p x y) (q x y) (cell_in old x y)
      (cell_in new x y) (cell_none old x y) (same x y) (done.cells x y);
}

-- nothing is painted where the test agrees at none of them
pub none_in_region : (rule : Rule) (q : ℤ → ℤ → Bool) (s : Spans)
    → ((x y : ℤ) → region_has s.rects x y ≡ true → q x y ≡ false) → IsPainted rule q s s
none_in_region rule q s none =
    region_painted rule (λ x y. false) q s s (λ x y has. sym (none x y has)) record {
      region = refl;
      cells = λ x y. refl;
    }

-- ---- rows one below the other

pub rows_joined : (first y end z : ℤ) → first ≤ℤ y → y ≤ℤ (end +ℤ pos 1)
    → (between first z (y -ℤ pos 1) || between y z end) ≡ between first z end
rows_joined first y end z low high =
    by_lt_z z first
    (λ out. rw (
      is_below first z (y -ℤ pos 1) out,
      is_below y z end (omega (arith, ints, out, low)),
      is_below first z end out,
    ) refl)
    (λ from. by_lt_z end z
    (λ out. rw (
      is_above first z (y -ℤ pos 1) (omega (arith, ints, out, high)),
      is_above y z end out,
      is_above first z end out,
    ) refl)
    (λ to. by_lt_z z y
    (λ up. rw (
      is_between first z (y -ℤ pos 1) from (omega (arith, ints, up)),
      is_between first z end from to,
    ) refl)
    (λ down. rw (
      is_above first z (y -ℤ pos 1) (omega (arith, ints, down)),
      is_between y z end down to,
      is_between first z end from to,
    ) refl)))

pub rows_apart : (first y end z : ℤ) → between first z (y -ℤ pos 1) ≡ true → between y z end ≡ false
rows_apart first y end z has =
    let up = not_above first z (y -ℤ pos 1) has in
    is_below y z end (omega (arith, ints, up))

-- ---- tests one within another

pub and_joined : (a b c : Bool) → ((a && b) && c) ≡ (a && (b && c))
and_joined true b c = refl
and_joined false b c = refl

pub none_more : (a b c : Bool) → (a && b) ≡ false → (a && (b && c)) ≡ false
none_more true true c h = absurd (true≢false h)
none_more true false c h = refl
none_more false b c h = refl

pub none_there : (a c : Bool) → (a && (false && c)) ≡ false
none_there true c = refl
none_there false c = refl

pub one_or_other : (a b c d : Bool) → ((a && (b && d)) || (a && (c && d))) ≡ (a && ((b || c) && d))
one_or_other true true true true = refl
one_or_other true true true false = refl
one_or_other true true false true = refl
one_or_other true true false false = refl
one_or_other true false c d = refl
one_or_other false b c d = refl

pub not_other : (a b c d : Bool) → (b ≡ true → c ≡ false) → (a && (b && d)) ≡ true
    → (a && (c && d)) ≡ false
not_other true true c d apart h = ap (λ e. e && d) (apart refl)
not_other true false c d apart h = absurd (true≢false (sym h))
not_other false b c d apart h = refl

pub and_none : (a b m : Bool) → (a ≡ true → b ≡ false) → (a && m) ≡ true → (b && m) ≡ false
and_none true b m apart h = ap (λ c. c && m) (apart refl)
and_none false b m apart h = absurd (true≢false (sym h))

-- The pixels whose number is from the first one up to another were painted, and then those from it
-- on to the end.
pub band_painted : (rule : Rule) (number : ℤ → ℤ → ℤ) (first y end next : ℤ) (m : ℤ → ℤ → Bool)
    (old mid new : Spans) → first ≤ℤ y → y ≤ℤ (end +ℤ pos 1) → next ≡ end +ℤ pos 1
    → IsPainted rule (λ x z. between first (number x z) (y -ℤ pos 1) && m x z) old mid
    → IsPainted rule (λ x z. between y (number x z) end && m x z) mid new
    → IsPainted rule (λ x z. between first (number x z) (next -ℤ pos 1) && m x z) old new
band_painted rule number first y end next m old mid new low high is above below =
    let last : end ≡ next -ℤ pos 1 = omega (arith, ints, is) in
    same_painted rule
    (λ x z. (between first (number x z) (y -ℤ pos 1) && m x z)
    || (between y (number x z) end && m x z))
    (λ x z. between first (number x z) (next -ℤ pos 1) && m x z) old new
    (λ x z. and_spread (between first (number x z) (y -ℤ pos 1)) (between y (number x z) end) (m x z)
    ∙ ap (λ b. b && m x z) (rows_joined first y end (number x z) low high
    ∙ ap (λ (e : ℤ). between first (number x z) e) last))
    (both_painted rule (λ x z. between first (number x z) (y -ℤ pos 1) && m x z)
    (λ x z. between y (number x z) end && m x z) old mid new
    (λ x z. and_none (between first (number x z) (y -ℤ pos 1)) (between y (number x z) end) (m x z)
    (rows_apart first y end (number x z))) above below)

pub no_row_yet : (first y z : ℤ) (m : Bool) → y ≡ first
    → (between first z (y -ℤ pos 1) && m) ≡ false
no_row_yet first y z m is =
    by_lt_z z first
    (λ out. ap (λ b. b && m) (is_below first z (y -ℤ pos 1) out))
    (λ from. ap (λ b. b && m) (is_above first z (y -ℤ pos 1) (omega (arith, ints, is, from))))

pub turned : (c r h k t : Bool) → (r ≡ true → h ≡ k)
    → ((c && r) && (h && t)) ≡ (r && (c && (k && t)))
turned true true h k t same = ap (λ b. b && t) (same refl)
turned true false h k t same = refl
turned false true h k t same = refl
turned false false h k t same = refl

pub and_turned : (a b c : Bool) → (a && (b && c)) ≡ ((b && a) && c)
and_turned true true c = refl
and_turned true false c = refl
and_turned false true c = refl
and_turned false false c = refl

pub in_columns : (c r h k t : Bool) → c ≡ true → (r ≡ true → h ≡ k)
    → ((c && r) && (h && t)) ≡ (r && (k && t))
in_columns c r h k t is same =
    ap (λ b. (b && r) && (h && t)) is ∙ in_row r h k t same
  where
    in_row : (r h k t : Bool) → (r ≡ true → h ≡ k) → (r && (h && t)) ≡ (r && (k && t))
    in_row true h k t same = ap (λ b. b && t) (same refl)
    in_row false h k t same = refl

pub in_band : (c r h k t : Bool) → (r ≡ true → h ≡ k)
    → ((c && r) && (h && t)) ≡ ((c && r) && (k && t))
in_band true true h k t same = ap (λ b. b && t) (same refl)
in_band true false h k t same = refl
in_band false r h k t same = refl

pub whole_rows : (b s t : Bool) → (s ≡ true → b ≡ true) → (b && (s && t)) ≡ (s && t)
whole_rows b true t h = ap (λ c. c && t) (h refl)
whole_rows true false t h = refl
whole_rows false false t h = refl

pub none_shaped : (f s t : Bool) → f ≡ true → (f && s) ≡ false → (s && t) ≡ false
none_shaped f s t is none = ap (λ b. b && t) (sym (ap (λ b. b && s) is) ∙ none)

pub beside_all : (a s r t : Bool) → (a ≡ true → s ≡ true → r ≡ true) → (a && r) ≡ false
    → (a && (s && t)) ≡ false
beside_all true true r t h none = absurd (true≢false (sym (h refl refl) ∙ none))
beside_all true false r t h none = refl
beside_all false s r t h none = refl

pub cut_test : (p a r m s t : Bool) → p ≡ (a && r) → (a ≡ true → s ≡ true → r ≡ true)
    → (p && (m && (s && t))) ≡ (a && (s && (m && t)))
cut_test p true r m true t e h = ap (λ b. b && (m && t)) (e ∙ h refl refl)
cut_test p true r true false t e h = and_false p
cut_test p true r false false t e h = and_false p
cut_test p false r m s t e h = ap (λ b. b && (m && (s && t))) e

pub none_from : (region : List Rect) (q : ℤ → ℤ → Bool)
    → ((x y : ℤ) → region_has region x y ≡ false) → (x y : ℤ) → region_has region x y ≡ true
    → q x y ≡ false
none_from region q none x y has = absurd (true≢false (sym has ∙ none x y))

-- ---- rows that are left

abbrev pub rows_left : ℤ → ℤ → ℕ
rows_left y bottom = unsigned_abs (bottom +ℤ pos 1 -ℤ y)

pub fewer_left : (y next bottom : ℤ) → y <ℤ next → next ≤ℤ (bottom +ℤ pos 1)
    → rows_left next bottom < rows_left y bottom
fewer_left y next bottom more most = omega (arith, ints, more, most)

pub none_boxed : (a h m t : Bool) → (a && h) ≡ false → (a && (h && (m && t))) ≡ false
none_boxed true true m t e = absurd (true≢false e)
none_boxed true false m t e = refl
none_boxed false h m t e = refl

pub boxed : (p a h m t : Bool) → p ≡ (a && h) → (p && (m && t)) ≡ (a && (h && (m && t)))
boxed p a h m t e = ap (λ b. b && (m && t)) e ∙ and_joined a h (m && t)

pub letter_test : (a h m t : Bool) → (t ≡ true → h ≡ true)
    → (a && (h && (m && t))) ≡ (a && (t && m))
letter_test a h true true in_it = ap (λ b. a && (b && true)) (in_it refl)
letter_test a h false true in_it = ap (λ b. a && b) (and_false h)
letter_test a true true false in_it = refl
letter_test a true false false in_it = refl
letter_test a false m false in_it = refl
