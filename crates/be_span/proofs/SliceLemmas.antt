-- Cells side by side, painted.
use Rattle.std.proofs.Common.{Bool, ◌≡◌, ℕ, zero, suc, ◌+◌, ◌-◌, ◌*◌, ◌%◌, ◌<◌, ◌≤◌, ℤ, pos, negsuc, ◌+ℤ◌, ◌≤ℤ◌, true, false, eqb, inl, inr, List, [], ◌∷◌, ◌++◌, length, get_or, set, take, drop, map, slice_get, count_by, Option, Some, None, refl, sym, ap, ◌∙◌, arith, cond, below_more}
use Rattle.std.specs.Prelude.{unsigned_abs}
use Rattle.std.specs.Option.{option_map}
use Rattle.std.specs.Int.{bit_at}
use Rattle.std.proofs.lemmas.Int.{ints, int_rem_euclid_is}
use Rattle.std.proofs.lemmas.Bool.{cases_lt, agree_below_at, lt-ltb, le-ltb, true≢false}
use Rattle.std.proofs.lemmas.Nat.Bits.{bit_at-zero}
use Rattle.std.proofs.lemmas.List.{get_or_default, length-set}
use Rattle.std.proofs.lemmas.List.Edits.{map_over_more}
use Rattle.std.proofs.lemmas.Option.{get_or_from_slice_get, none-some, same_Some, slice_get-get_or, slice_get_past}
use Rattle.std.proofs.lemmas.List.Sums.{sum_by-cons}
use Rattle.be_facts.proofs.Numbers.{unsigned_abs_is}
use Rattle.be_color.specs.declared.colors.Color.{Color}
use Rattle.be_color.specs.declared.colors.Color.TheVariants.{Clear, Solid}
use Rattle.be_color.specs.declared.colors.Rgb.{Rgb}
use Rattle.be_color.specs.declared.modes.Mode.{Mode}
use Rattle.be_color.specs.declared.modes.Mode.TheVariants.{Copy, Over, Erase, Invert, Add, Subtract, Blend, Min, Max, Select}
use Rattle.be_color.specs.Pixel.{picked}
use Rattle.be_color.specs.Pattern.{place_in_pattern}
use Rattle.be_span.specs.declared.Cell.{Cell}
use Rattle.be_span.specs.declared.brush.Brush.{Brush}
use Rattle.be_span.specs.Slices.{color_from, color_or_clear, painted, recolored, replaces, row_bit, turned_bit}
use Rattle.be_span.specs.Spans.{clean_cell}
use Rattle.be_span.proofs.MarkLemmas.{recolored_clean}

module _ {X : Type 0} where
  pub slice_get-set_same : (xs : List X) (i : ℕ) (x : X) → i < length xs → slice_get (set xs i x) i ≡ Some x
  slice_get-set_same [] i x h = absurd (omega arith)
  slice_get-set_same (y ∷ xs) zero x h = refl
  slice_get-set_same (y ∷ xs) (suc i) x h = slice_get-set_same xs i x (omega arith)

  pub slice_get-set_other : (xs : List X) (i k : ℕ) (x : X) → (i ≡ k → ⊥) → slice_get (set xs i x) k ≡ slice_get xs k
  slice_get-set_other [] i k x h = refl
  slice_get-set_other (y ∷ xs) zero zero x h = absurd (h refl)
  slice_get-set_other (y ∷ xs) zero (suc k) x h = refl
  slice_get-set_other (y ∷ xs) (suc i) zero x h = refl
  slice_get-set_other (y ∷ xs) (suc i) (suc k) x h = slice_get-set_other xs i k x (λ e. h (ap suc e))

  -- the elements before a place are done, by a function of their places, and the others are as they were
  pub record IsDoneTo (f : ℕ → X → X) (old new : List X) (i : ℕ) : Type 0 where
    pub done : (k : ℕ) → k < i → slice_get new k ≡ option_map (f k) (slice_get old k)
    pub rest : (k : ℕ) → i ≤ k → slice_get new k ≡ slice_get old k

  pub done_all : (f : ℕ → X → X) (old new : List X) (i k : ℕ) → length old ≤ i → IsDoneTo f old new i → slice_get new k ≡ option_map (f k) (slice_get old k)
  done_all f old new i k all so_far =
      elim (cases_lt k i) [
        | inl h ↦ so_far.done k h
        | inr h ↦ let past = slice_get_past old k (omega arith) in so_far.rest k h ∙ past ∙ sym (ap (option_map (f k)) past)
      ]

  pub stays : (g : X → X) (o : Option X) → ((x : X) → g x ≡ x) → o ≡ option_map g o
  stays g None h = refl
  stays g (Some x) h = ap Some (sym (h x))

-- ---- marks

-- where no mark changes, as many are dirty
pub marks_same : (f : ℕ → Cell → Cell) (old new : List Cell) → ((k : ℕ) → slice_get new k ≡ option_map (f k) (slice_get old k)) → ((k : ℕ) (c : Cell) → (f k c).dirty ≡ c.dirty) → count_by (λ c. c.dirty) new ≡ count_by (λ c. c.dirty) old
marks_same f [] [] h stays = refl
marks_same f [] (c ∷ new) h stays = absurd (none-some c (sym (h 0)))
marks_same f (d ∷ old) [] h stays = absurd (none-some (f 0 d) (h 0))
marks_same f (d ∷ old) (c ∷ new) h stays =
    let first : c.dirty ≡ d.dirty = ap (λ (x : Cell). x.dirty) (same_Some c (f 0 d) (h 0)) ∙ stays 0 d in
    let rest = marks_same (λ k. f (suc k)) old new (λ k. h (suc k)) (λ k. stays (suc k)) in
    sum_by-cons (λ (x : Cell). cond x.dirty 1 0) c new ∙ ap (λ b. cond b 1 0 + count_by (λ x. x.dirty) new) first ∙ ap (λ n. cond d.dirty 1 0 + n) rest ∙ sym (sum_by-cons (λ (x : Cell). cond x.dirty 1 0) d old)

-- ---- each changed alike

-- one cell more
pub each_step : (f : Cell → Cell) (old new : List Cell) (i : ℕ) (d c : Cell) → i < length old → i < length new → new ≡ map f (take i old) ++ drop i old → c ≡ f (get_or new i d) → set new i c ≡ map f (take (i + 1) old) ++ drop (i + 1) old
each_step f old new i d c less within so_far e =
    ap (set new i) e ∙ map_over_more f old new i (get_or new i d) less so_far (get_or_default new i d (get_or new i d) within)

-- ---- bits

pub all_set : (x : ℤ) → row_bit 255 x ≡ true
all_set x = eight (7 - place_in_pattern x) (omega arith)
  where
    eight : (i : ℕ) → i < 8 → eqb (bit_at 255 i) 1 ≡ true
    eight i h = agree_below_at (λ n. eqb (bit_at 255 n) 1) (λ n. true) 8 i refl h

pub none_set : (x : ℤ) → row_bit 0 x ≡ false
none_set x = ap (λ n. eqb n 1) (bit_at-zero (7 - place_in_pattern x))

place_is : (z : ℤ) (m : ℕ) → z +ℤ pos (268435456 * 8) ≡ pos m → place_in_pattern z ≡ m % 8
unfolding place_in_pattern
place_is z m e = ap unsigned_abs (int_rem_euclid_is z (pos 8) 8 268435456 m (omega arith) refl e)

pub place_next : (column : ℤ) (k : ℕ) → negsuc 2147483647 ≤ℤ column → (place_in_pattern column + k) % 8 ≡ place_in_pattern (column +ℤ pos k)
place_next column k low =
    let m = unsigned_abs (column +ℤ pos 2147483648) in
    let is : pos m ≡ column +ℤ pos 2147483648 = unsigned_abs_is (column +ℤ pos 2147483648) (omega (arith, ints)) in
    rw (place_is column m (omega (arith, ints)), place_is (column +ℤ pos k) (m + k) (omega (arith, ints))) (omega arith)

-- ---- colours from a cell on

clear_stays : (brush : Brush) (o : Option Cell) → o ≡ option_map (painted brush Clear) o
clear_stays brush o = stays (painted brush Clear) o (λ c. refl)

-- a cell before it stays
pub color_before : (brush : Brush) (from : ℕ) (colors : List Color) (k : ℕ) (o : Option Cell) → k < from → o ≡ option_map (painted brush (color_from from colors k)) o
color_before brush from colors k o less =
    clear_stays brush o ∙ ap (λ b. option_map (painted brush (cond b Clear (color_or_clear (slice_get colors (k - from))))) o) (sym (lt-ltb k from less))

-- and so does one behind the last colour
pub color_behind : (brush : Brush) (from : ℕ) (colors : List Color) (k : ℕ) (o : Option Cell) → from + length colors ≤ k → o ≡ option_map (painted brush (color_from from colors k)) o
color_behind brush from colors k o more =
    clear_stays brush o
    ∙ ap (λ (s : Option Color). option_map (painted brush (color_or_clear s)) o) (sym (slice_get_past colors (k - from) (omega arith)))
    ∙ ap (λ b. option_map (painted brush (cond b Clear (color_or_clear (slice_get colors (k - from))))) o) (sym (le-ltb k from (omega arith)))

-- the others have their own
pub color_here : (from : ℕ) (colors : List Color) (k j : ℕ) → k ≡ from + j → j < length colors → get_or colors j Clear ≡ color_from from colors k
color_here from colors k j e less =
    let far : k - from ≡ j = omega arith in
    ap color_or_clear (sym (slice_get-get_or colors j Clear less) ∙ ap (slice_get colors) (sym far))
    ∙ ap (λ b. cond b Clear (color_or_clear (slice_get colors (k - from)))) (sym (le-ltb k from (omega arith)))

-- ---- cells in turn

-- the first n cells are told by their places
pub record AreTold (f : ℕ → Cell) (old new : List Cell) (n : ℕ) : Type 0 where
  pub long : length new ≡ length old
  pub done : (k : ℕ) → k < n → slice_get new k ≡ Some (f k)

pub told_more : (f : ℕ → Cell) (old new : List Cell) (n : ℕ) (c : Cell) → n < length new → AreTold f old new n → c ≡ f n → AreTold f old (set new n c) (n + 1)
told_more f old new n c less so_far e = record {
  long = length-set new n c ∙ so_far.long;
  done = below_more (λ k. slice_get (set new n c) k ≡ Some (f k)) n
      (λ k h. slice_get-set_other new n k c (λ same. omega arith) ∙ so_far.done k h)
      (slice_get-set_same new n c less ∙ ap Some e);
}

-- a cell of one of two colours, as a bit says
abbrev pub turn_cell : ℕ → ℕ → Rgb → Rgb → ℕ → Cell
turn_cell byte first set unset k = clean_cell (cond (turned_bit byte (first + k)) set unset)

-- each is like the one eight before it
pub eight_before : (byte first : ℕ) (set unset : Rgb) (old new : List Cell) (n : ℕ) (d : Cell) → 8 ≤ n → AreTold (turn_cell byte first set unset) old new n → get_or new (n - 8) d ≡ turn_cell byte first set unset n
eight_before byte first set unset old new n d more so_far =
    let same : (first + (n - 8)) % 8 ≡ (first + n) % 8 = omega arith in
    get_or_from_slice_get new (n - 8) _ d (so_far.done (n - 8) (omega arith))
    ∙ ap (λ m. clean_cell (cond (eqb (bit_at byte (7 - m)) 1) set unset)) same

-- ---- a colour that takes the place of another

put : (mode : Mode) (high low : Color) (rgb : Rgb) (c : Cell) → replaces mode ≡ true → painted record { mode = mode; high = high; low = low } (Solid rgb) c ≡ recolored rgb c
put Copy high low rgb c e = refl
put Over high low rgb c e = refl
put Erase high low rgb c e = absurd (true≢false (sym e))
put Invert high low rgb c e = absurd (true≢false (sym e))
put Add high low rgb c e = absurd (true≢false (sym e))
put Subtract high low rgb c e = absurd (true≢false (sym e))
put Blend high low rgb c e = absurd (true≢false (sym e))
put Min high low rgb c e = absurd (true≢false (sym e))
put Max high low rgb c e = absurd (true≢false (sym e))
put Select high low rgb c e = absurd (true≢false (sym e))

all_put : (brush : Brush) (rgb : Rgb) (o : Option Cell) → replaces brush.mode ≡ true → option_map (painted brush (Solid rgb)) o ≡ option_map (recolored rgb) o
all_put brush rgb None e = refl
all_put brush rgb (Some c) e = ap Some (put brush.mode brush.high brush.low rgb c e)

solid : (b : Bool) (set unset : Rgb) → cond b (Solid set) (Solid unset) ≡ Solid (cond b set unset)
solid true set unset = refl
solid false set unset = refl

-- one of two colours, where no cell is dirty
pub turn_put : (brush : Brush) (bit : Bool) (set unset : Rgb) (old : List Cell) (k : ℕ) → replaces brush.mode ≡ true → count_by (λ c. c.dirty) old ≡ 0 → k < length old → Some (clean_cell (cond bit set unset)) ≡ option_map (painted brush (cond bit (Solid set) (Solid unset))) (slice_get old k)
turn_put brush bit set unset old k e clean less =
    sym (recolored_clean (cond bit set unset) old k clean less)
    ∙ sym (all_put brush (cond bit set unset) (slice_get old k) e)
    ∙ ap (λ (s : Color). option_map (painted brush s) (slice_get old k)) (sym (solid bit set unset))

-- the colour that a bit picks is one of two
pub picks : (brush : Brush) (bit : Bool) (set unset : Color) → set ≡ picked brush.mode true brush.high brush.low → unset ≡ picked brush.mode false brush.high brush.low → cond bit set unset ≡ picked brush.mode bit brush.high brush.low
picks brush true set unset e f = e
picks brush false set unset e f = f
