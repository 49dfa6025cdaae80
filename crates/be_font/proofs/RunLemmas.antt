-- The runs of a byte's bits, by going through all bytes.
use Rattle.std.proofs.Common.{◌≡◌, ℕ, ◌+◌, ◌-◌, ◌*◌, ◌/◌, ◌%◌, ◌^◌, ◌<◌, ◌≤◌, ◌==◌, nat_eq, if◌then◌else◌, Bool, true, false, not, ◌&&◌, ◌||◌, nat_lt, nat_le, bit_and, refl, subst, ⊎_elim, arith, w8}
use lib.Count.{count_leading_zeros}
use Rattle.std.proofs.Math.Bool.{and-false}
use Rattle.std.proofs.lemmas.Nat.Bits.{bit_at-zero}
use Rattle.std.proofs.lemmas.Bool.{cases_lt, le-ltb, lt-leb, leb-true, ltb-true}
use Rattle.std.specs.Int.{leading_zeros, leading_ones}
use Rattle.std.proofs.lemmas.Bool.Decides.{nat_tests}
use Rattle.be_facts.proofs.Truths.{not_true, and_first, and_second}
use Rattle.be_font.specs.Runs.{row_bit, IsFirstRun}
use Rattle.be_font.proofs.TestLemmas.{all_below, all_below-at}

abbrev pub rest_of : ℕ → ℕ → ℕ
rest_of bits from = bit_and bits (255 / 2 ^ from)

abbrev pub first_of : ℕ → ℕ → ℕ
first_of bits from = leading_zeros w8 (rest_of bits from)

abbrev pub count_of : ℕ → ℕ → ℕ
count_of bits from = leading_ones w8 (rest_of bits from * 2 ^ first_of bits from % 256)

-- what is to be shown of a byte and a column to begin at, each part a test
abbrev pub none_left : ℕ → ℕ → Bool
none_left bits from = all_below 8 (λ column. nat_lt column from || not (row_bit bits column))

abbrev pub none_between : ℕ → ℕ → ℕ → Bool
none_between bits from first = all_below 8 (λ column. nat_lt column from || (nat_le first column || not (row_bit bits column)))

abbrev pub all_between : ℕ → ℕ → ℕ → Bool
all_between bits first next = all_below 8 (λ column. nat_lt column first || (nat_le next column || row_bit bits column))

abbrev pub stops : ℕ → ℕ → Bool
stops bits next = nat_le next 8 && not (row_bit bits next)

abbrev pub is_run : ℕ → ℕ → ℕ → ℕ → Bool
is_run bits from first count =
    nat_le from first && (nat_lt 0 count && (none_between bits from first && (all_between bits first (first + count) && stops bits (first + count))))

abbrev pub passes : ℕ → ℕ → Bool
passes bits from =
    (if rest_of bits from == 0 then none_left bits from else is_run bits from (first_of bits from) (count_of bits from))

pub all_pass : all_below 256 (λ bits. all_below 8 (passes bits)) ≡ true
unfolding row_bit count_leading_zeros
all_pass = refl

-- the read row has a byte's bits alone
pub row_bit-past : (bits column : ℕ) → 8 ≤ column → row_bit bits column ≡ false
unfolding row_bit
row_bit-past bits column h = rw (le-ltb column 8 h) refl

pub row_bit-zero : (column : ℕ) → row_bit 0 column ≡ false
unfolding row_bit
row_bit-zero column = rw (bit_at-zero (7 - column), and-false) refl

-- the tests of a run, each as a fact
pub record RunParts (bits from first next : ℕ) : Type 0 where
  pub begins : from ≤ first
  pub some : first < next
  pub none_before : none_between bits from first ≡ true
  pub all_inside : all_between bits first next ≡ true
  pub fits : next ≤ 8
  pub none_after : row_bit bits next ≡ false

pub run_parts : (bits from first count : ℕ) → is_run bits from first count ≡ true → RunParts bits from first (first + count)
run_parts bits from first count e =
    let next = first + count in
    let before = none_between bits from first in
    let inside = all_between bits first next in
    let after = stops bits next in
    let e1 = and_second (nat_le from first) (nat_lt 0 count && (before && (inside && after))) e in
    let e2 = and_second (nat_lt 0 count) (before && (inside && after)) e1 in
    let e3 = and_second before (inside && after) e2 in
    let e4 = and_second inside after e3 in
    let some : 0 < count = ltb-true 0 count (and_first (nat_lt 0 count) (before && (inside && after)) e1) in
    record {
      begins = leb-true from first (and_first (nat_le from first) (nat_lt 0 count && (before && (inside && after))) e);
      some = omega arith;
      none_before = and_first before (inside && after) e2;
      all_inside = and_first inside after e3;
      fits = leb-true next 8 (and_first (nat_le next 8) (not (row_bit bits next)) e4);
      none_after = not_true (row_bit bits next) (and_second (nat_le next 8) (not (row_bit bits next)) e4);
    }

-- what a byte passes is that its first run from there on is the one
pub run_is : (bits from first count : ℕ) → is_run bits from first count ≡ true → IsFirstRun (row_bit bits) from first (first + count - 1)
run_is bits from first count e =
    let parts = run_parts bits from first count e in
    record {
      begins = parts.begins;
      ends = omega arith;
      none_before = λ column low high.
          let test = all_below-at 8 (λ k. nat_lt k from || (nat_le first k || not (row_bit bits k))) column parts.none_before (omega arith) in
          not_true (row_bit bits column) (rw (le-ltb column from low, lt-leb first column high) at test);
      all_inside = λ column low high.
          let test = all_below-at 8 (λ k. nat_lt k first || (nat_le (first + count) k || row_bit bits k)) column parts.all_inside (omega arith) in
          let short : column < first + count = omega arith in
          rw (le-ltb column first low, lt-leb (first + count) column short) at test;
      none_after =
          let P : ℕ → Type 0 = λ k. row_bit bits k ≡ false in
          let next : first + count ≡ first + count - 1 + 1 = omega arith in
          subst P next parts.none_after;
    }

pub run_some : (bits from first count : ℕ) → is_run bits from first count ≡ true → 1 ≤ first + count
run_some bits from first count e = let parts = run_parts bits from first count e in omega arith

pub none_is : (bits from : ℕ) → none_left bits from ≡ true → (column : ℕ) → from ≤ column → row_bit bits column ≡ false
none_is bits from e column low =
    ⊎_elim
    (λ within. let test = all_below-at 8 (λ k. nat_lt k from || not (row_bit bits k)) column e within in
    not_true (row_bit bits column) (rw (le-ltb column from low) at test))
    (λ past. row_bit-past bits column past)
    (cases_lt column 8)

pub byte_passes : (bits from : ℕ) → bits < 256 → from < 8 → passes bits from ≡ true
byte_passes bits from small low =
    all_below-at 8 (passes bits) from (all_below-at 256 (λ b. all_below 8 (passes b)) bits all_pass small) low

-- no bit is left where the rest of the byte is 0
pub none_where_zero : (bits from : ℕ) → bits < 256 → from < 8 → rest_of bits from ≡ 0 → (column : ℕ) → from ≤ column → row_bit bits column ≡ false
none_where_zero bits from small low zero =
    let test = byte_passes bits from small low in
    none_is bits from (rw zero at test)

-- else the first run is the one that zeros and ones in front tell
pub run_where_some : (bits from : ℕ) → bits < 256 → from < 8 → (rest_of bits from ≡ 0 → ⊥) → is_run bits from (first_of bits from) (count_of bits from) ≡ true
run_where_some bits from small low some =
    let test = byte_passes bits from small low in
    let not_zero : nat_eq (rest_of bits from) 0 ≡ false = grind (arith, nat_tests) in
    rw not_zero at test
