-- The bits of a mask, from the last set bit to the first.
use Rattle.std.proofs.Common.{◌≡◌, ℕ, zero, suc, ◌+◌, ◌-◌, ◌/◌, ◌%◌, ◌^◌, ◌<◌, ◌≤◌, min, true, false, eqb, cond, inl, inr, List, Option, Some, None, length, get_or, set, slice_get, refl, sym, ap, ◌∙◌, arith, w64, bit_and, ◌==◌}
use Rattle.std.specs.Prelude.{◌&&◌, not, nat_lt}
use Rattle.std.specs.Option.{option_map}
use Rattle.std.specs.Int.{bit_at, trailing_zeros}
use Rattle.std.proofs.lemmas.Bool.{cases_lt, cases_order, lt-ltb, le-ltb, true≢false}
use Rattle.std.proofs.lemmas.Nat.Bits.{bit_at-zero, bit_at-suc, bit_at_lowest, bit_at_and, bit_at-trailing_zeros}
use Rattle.std.proofs.lemmas.Option.{slice_get-get_or, slice_get_past}
use Rattle.be_color.specs.declared.colors.Color.{Color}
use Rattle.be_color.specs.declared.colors.Color.TheVariants.{Clear}
use Rattle.be_span.specs.declared.Cell.{Cell}
use Rattle.be_span.specs.declared.brush.Brush.{Brush}
use Rattle.be_span.specs.Slices.{has_bit_from, mask_bit, painted}
use Rattle.be_span.proofs.SliceLemmas.{slice_get-set_same, slice_get-set_other, stays}

mask_at : (bits k : ℕ) → k < 64 → mask_bit bits k ≡ eqb (bit_at bits (63 - k)) 1
mask_at bits k less = ap (λ b. b && eqb (bit_at bits (63 - k)) 1) (lt-ltb k 64 less)

pub mask_past : (bits k : ℕ) → 64 ≤ k → mask_bit bits k ≡ false
mask_past bits k past = ap (λ b. b && eqb (bit_at bits (63 - k)) 1) (le-ltb k 64 past)

pub mask_unset : (bits k : ℕ) → bit_at bits (63 - k) ≡ 0 → mask_bit bits k ≡ false
mask_unset bits k e =
    elim (cases_lt k 64) [ inl h ↦ mask_at bits k h ∙ ap (λ b. eqb b 1) e | inr h ↦ mask_past bits k h ]

-- a number less one, from the lowest bit that is set on
below_one : (z n : ℕ) → bit_at n z ≡ 1 → ((i : ℕ) → i < z → bit_at n i ≡ 0) → bit_at (n - 1) z ≡ 0
below_one zero n one none =
    let odd : n % 2 ≡ 1 = sym (bit_at_lowest n) ∙ one in
    bit_at_lowest (n - 1) ∙ omega arith
below_one (suc z) n one none =
    let even : n % 2 ≡ 0 = sym (bit_at_lowest n) ∙ none 0 (omega arith) in
    let half : (n - 1) / 2 ≡ n / 2 - 1 = omega arith in
    bit_at-suc (n - 1) z ∙ ap (λ m. bit_at m z) half ∙ below_one z (n / 2) (sym (bit_at-suc n z) ∙ one) (λ i less. sym (bit_at-suc n i) ∙ none (suc i) (omega arith))

below_others : (z n i : ℕ) → bit_at n z ≡ 1 → ((i : ℕ) → i < z → bit_at n i ≡ 0) → z < i → bit_at (n - 1) i ≡ bit_at n i
below_others z n zero one none above = absurd (omega arith)
below_others zero n (suc i) one none above =
    let odd : n % 2 ≡ 1 = sym (bit_at_lowest n) ∙ one in
    let half : (n - 1) / 2 ≡ n / 2 = omega arith in
    bit_at-suc (n - 1) i ∙ ap (λ m. bit_at m i) half ∙ sym (bit_at-suc n i)
below_others (suc z) n (suc i) one none above =
    let even : n % 2 ≡ 0 = sym (bit_at_lowest n) ∙ none 0 (omega arith) in
    let half : (n - 1) / 2 ≡ n / 2 - 1 = omega arith in
    bit_at-suc (n - 1) i ∙ ap (λ m. bit_at m i) half
    ∙ below_others z (n / 2) i (sym (bit_at-suc n z) ∙ one) (λ j less. sym (bit_at-suc n j) ∙ none (suc j) (omega arith)) (omega arith)
    ∙ sym (bit_at-suc n i)

-- the last bit that is set is taken away
pub record IsWithout (bits place rest : ℕ) : Type 0 where
  pub within : place < 64
  pub set : mask_bit bits place ≡ true
  pub gone : mask_bit rest place ≡ false
  pub others : (k : ℕ) → (k ≡ place → ⊥) → mask_bit rest k ≡ mask_bit bits k

pub last_gone : (bits : ℕ) → 0 < bits → bits < 2 ^ 64 → IsWithout bits (63 - trailing_zeros w64 bits) (bit_and bits (bits - 1))
last_gone bits some fits =
    let low = bit_at-trailing_zeros w64 bits some fits in
    let z = trailing_zeros w64 bits in
    let less : z < 64 = low.0 in
    let one : bit_at bits z ≡ 1 = low.1 in
    let none : (i : ℕ) → i < z → bit_at bits i ≡ 0 = low.2 in
    let there : 63 - (63 - z) ≡ z = omega arith in
    let rest = bit_and bits (bits - 1) in
    let bit_of : (i : ℕ) → bit_at rest i ≡ min (bit_at bits i) (bit_at (bits - 1) i) = bit_at_and bits (bits - 1) in
    record {
      within = omega arith;
      set = mask_at bits (63 - z) (omega arith) ∙ ap (λ b. eqb b 1) (ap (bit_at bits) there ∙ one);
      gone = mask_unset rest (63 - z) (ap (bit_at rest) there ∙ bit_of z ∙ min_zero (bit_at bits z) _ (below_one z bits one none));
      others = λ k other. elim (cases_lt k 64) [
        | inl h ↦ mask_at rest k h ∙ ap (λ b. eqb b 1) (bit_of (63 - k) ∙ kept z (63 - k) one none (λ same. other (omega arith))) ∙ sym (mask_at bits k h)
        | inr h ↦ mask_past rest k h ∙ sym (mask_past bits k h)
      ];
    }
  where
    min_zero : (a b : ℕ) → b ≡ 0 → min a b ≡ 0
    min_zero a b e = omega arith

    kept : (z i : ℕ) → bit_at bits z ≡ 1 → ((i : ℕ) → i < z → bit_at bits i ≡ 0) → (i ≡ z → ⊥) → min (bit_at bits i) (bit_at (bits - 1) i) ≡ bit_at bits i
    kept z i one none other =
        elim (cases_order z i) [
          | inl same ↦ absurd (other (sym same))
          | inr (inl above) ↦ let e = below_others z bits i one none above in omega arith
          | inr (inr below) ↦ let e = none i below in omega arith
        ]

-- a cell without a bit stays
abbrev pub by_mask : Brush → Color → ℕ → ℕ → Cell → Cell
by_mask brush color bits k = painted brush (cond (mask_bit bits k) color Clear)

pub unset_stays : (brush : Brush) (color : Color) (bits k : ℕ) (c : Cell) → mask_bit bits k ≡ false → by_mask brush color bits k c ≡ c
unset_stays brush color bits k c e = ap (λ b. painted brush (cond b color Clear) c) e

-- the cells whose bit isn't left are painted, and the others are as they were
pub record IsPaintedBut (brush : Brush) (color : Color) (bits rest : ℕ) (old new : List Cell) : Type 0 where
  pub some : (k : ℕ) → mask_bit rest k ≡ true → mask_bit bits k ≡ true
  pub left : (k : ℕ) → mask_bit rest k ≡ true → slice_get new k ≡ slice_get old k
  pub done : (k : ℕ) → mask_bit rest k ≡ false → slice_get new k ≡ option_map (by_mask brush color bits k) (slice_get old k)

pub all_left : (brush : Brush) (color : Color) (bits : ℕ) (cells : List Cell) → IsPaintedBut brush color bits bits cells cells
all_left brush color bits cells = record {
  some = λ k e. e;
  left = λ k e. refl;
  done = λ k e. stays (by_mask brush color bits k) (slice_get cells k) (λ c. unset_stays brush color bits k c e);
}

pub none_left : (brush : Brush) (color : Color) (bits rest : ℕ) (old new : List Cell) (k : ℕ) → rest ≡ 0 → IsPaintedBut brush color bits rest old new → slice_get new k ≡ option_map (by_mask brush color bits k) (slice_get old k)
none_left brush color bits rest old new k e is = is.done k (ap (λ n. mask_bit n k) e ∙ mask_unset 0 k (bit_at-zero (63 - k)))

one_less : (brush : Brush) (color : Color) (bits rest place next : ℕ) (old new after : List Cell) → IsWithout rest place next → IsPaintedBut brush color bits rest old new → ((k : ℕ) → (k ≡ place → ⊥) → slice_get after k ≡ slice_get new k) → slice_get after place ≡ option_map (painted brush color) (slice_get old place) → IsPaintedBut brush color bits next old after
one_less brush color bits rest place next old new after without is same here = record {
  some = λ k e. is.some k (sym (without.others k (apart k e)) ∙ e);
  left = λ k e. same k (apart k e) ∙ is.left k (sym (without.others k (apart k e)) ∙ e);
  done = λ k e. elim (cases_order k place) [
    | inl at ↦ ap (slice_get after) at ∙ here ∙ painted_at k at
    | inr (inl less) ↦ same k (λ at. omega arith) ∙ is.done k (sym (without.others k (λ at. omega arith)) ∙ e)
    | inr (inr more) ↦ same k (λ at. omega arith) ∙ is.done k (sym (without.others k (λ at. omega arith)) ∙ e)
  ];
}
  where
    apart : (k : ℕ) → mask_bit next k ≡ true → k ≡ place → ⊥
    apart k e at = true≢false (sym e ∙ ap (mask_bit next) at ∙ without.gone)

    painted_at : (k : ℕ) → k ≡ place → option_map (painted brush color) (slice_get old place) ≡ option_map (by_mask brush color bits k) (slice_get old k)
    painted_at k at =
        ap (λ b. option_map (painted brush (cond b color Clear)) (slice_get old place)) (sym (is.some place without.set))
        ∙ ap (λ q. option_map (by_mask brush color bits q) (slice_get old q)) (sym at)

-- the last of the bits that are left is painted
pub last_painted : (brush : Brush) (color : Color) (bits rest : ℕ) (old new : List Cell) (d x : Cell) → 0 < rest → rest < 2 ^ 64 → 63 - trailing_zeros w64 rest < length new → IsPaintedBut brush color bits rest old new → x ≡ painted brush color (get_or new (63 - trailing_zeros w64 rest) d) → IsPaintedBut brush color bits (bit_and rest (rest - 1)) old (set new (63 - trailing_zeros w64 rest) x)
last_painted brush color bits rest old new d x some fits less is e =
    let place = 63 - trailing_zeros w64 rest in
    let without = last_gone rest some fits in
    one_less brush color bits rest place (bit_and rest (rest - 1)) old new (set new place x) without is
    (λ k other. slice_get-set_other new place k x (λ same. other (sym same)))
    (slice_get-set_same new place x less ∙ ap Some e ∙ ap (option_map (painted brush color)) (sym (slice_get-get_or new place d less) ∙ is.left place without.set))

-- or it has no cell
pub last_past : (brush : Brush) (color : Color) (bits rest : ℕ) (old new : List Cell) → 0 < rest → rest < 2 ^ 64 → length old ≤ 63 - trailing_zeros w64 rest → IsPaintedBut brush color bits rest old new → IsPaintedBut brush color bits (bit_and rest (rest - 1)) old new
last_past brush color bits rest old new some fits past is =
    let place = 63 - trailing_zeros w64 rest in
    let without = last_gone rest some fits in
    let none : slice_get old place ≡ None = slice_get_past old place past in
    one_less brush color bits rest place (bit_and rest (rest - 1)) old new new without is (λ k other. refl)
    (is.left place without.set ∙ none ∙ sym (ap (option_map (painted brush color)) none))

-- ---- from a cell on

-- a cell before it stays
pub before_from : (brush : Brush) (color : Color) (from bits k : ℕ) (o : Option Cell) → k < from → o ≡ option_map (painted brush (cond (has_bit_from from bits k) color Clear)) o
before_from brush color from bits k o less =
    stays (painted brush (cond (has_bit_from from bits k) color Clear)) o
    (λ c. ap (λ b. painted brush (cond (not b && mask_bit bits (k - from)) color Clear) c) (lt-ltb k from less))

-- the others have the mask's bits
pub bit_from : (from bits k j : ℕ) → k ≡ from + j → has_bit_from from bits k ≡ mask_bit bits j
bit_from from bits k j e =
    let not_before : nat_lt k from ≡ false = le-ltb k from (omega arith) in
    let far : k - from ≡ j = omega arith in
    ap (λ b. not b && mask_bit bits (k - from)) not_before ∙ ap (mask_bit bits) far

pub mask_within : (m k : ℕ) → k < 64 → mask_bit m k ≡ (bit_at m (63 - k) == 1)
mask_within m k h = ap (λ b. b && (bit_at m (63 - k) == 1)) (lt-ltb k 64 h)
