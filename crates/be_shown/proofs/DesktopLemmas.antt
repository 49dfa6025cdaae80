-- Which pixels no window owns, by what the parts have of them, and how many of them a run has.
use Rattle.std.proofs.Common.{◌≡◌, ℕ, zero, suc, ◌+◌, ◌*◌, ◌<◌, ◌≤◌, Bool, true, false, cond, List, length, Option, Some, None, refl, sym, ap, ◌∙◌, subst, arith, pos}
use Rattle.std.specs.Prelude.{ℤ, ◌/◌, count_by, is_none, slice_get, if◌then◌else◌}
use Rattle.std.specs.List.{range_with_len}
use Rattle.std.proofs.Math.Arith.{digits_mod, digits_div}
use Rattle.std.proofs.lemmas.List.Sums.{sum_by-append, sum_by-cons}
use Rattle.be_facts.proofs.Lists.{range_append, element}
use Rattle.be_facts.proofs.Numbers.{index_below}
use Rattle.be_geom.specs.Numbers.{is_number}
use Rattle.be_machine.specs.declared.Entry.{Entry}
use Rattle.be_machine.specs.History.{IsLegalHistory, state_after}
use Rattle.be_machine.specs.Pixels.{owner_in, pixel_at}
use Rattle.be_machine.specs.State.{State}
use Rattle.be_machine.specs.Touched.{Part}
use Rattle.be_machine.specs.Touched as part
use Rattle.be_machine.specs.Windows.{width_of, owned}
use Rattle.be_rules.specs.Rules.{IsSound}
use Rattle.be_rules.specs.Slices.{Slice, all_parts, slice_of, slices, state_of}
use Rattle.be_rules.proofs.Cut.{put_together}
use Rattle.be_rules.proofs.Lawfully.{state, whole, whole_after, back}
use Rattle.be_rules.proofs.Looks.{look_own}
use Rattle.be_script.specs.Limits.{IsWithinLimits}
use Rattle.be_script.specs.Script.{Declared}
use Rattle.be_span.specs.declared.Cell.{Cell}
use Rattle.be_shown.specs.Desktop.{desktop_count, is_desktop}
use Rattle.be_shown.specs.Pixels.{HasCells, HasNone, pixel_in}
use Rattle.be_shown.proofs.Owners.{from_map, owner_shows, owner_stands}
use Rattle.be_shown.proofs.Rows.{cell_inside}

-- ---- numbers that pass a test

module _ (p : ℕ → Bool) where
  -- those up to a place, and those of a run behind it
  pub counted_on : (a n m : ℕ) → count_by p (range_with_len a (n + m)) ≡ count_by p (range_with_len a n) + count_by p (range_with_len (a + n) m)
  counted_on a n m = ap (count_by p) (range_append a n m) ∙ sum_by-append (λ x. cond (p x) 1 0) (range_with_len a n) (range_with_len (a + n) m)

  pub counted_same : (b : Bool) (a n : ℕ) → ((k : ℕ) → k < n → p (a + k) ≡ b) → count_by p (range_with_len a n) ≡ n * cond b 1 0
  counted_same b a zero same = omega arith
  counted_same b a (suc n) same =
      let here : a + 0 ≡ a = omega arith in
      let first : p a ≡ b = ap p (sym here) ∙ same 0 (omega arith) in
      let rest = counted_same b (a + 1) n (λ k lt. let next : a + 1 + k ≡ a + suc k = omega arith in ap p next ∙ same (suc k) (omega arith)) in
      sum_by-cons (λ x. cond (p x) 1 0) a (range_with_len (a + 1) n)
      ∙ ap (λ (t : Bool). cond t 1 0 + count_by p (range_with_len (a + 1) n)) first
      ∙ ap (λ (k : ℕ). cond b 1 0 + k) rest
      ∙ grind (arith)

-- ---- one pixel

has_if : (b : Bool) (o : Option Cell) → ((if b then o else None) ≡ None → ⊥) → b ≡ true
has_if true o h = refl
has_if false o h = absurd (h refl)

is_one : (w : ℕ) (o : Option ℕ) → is_number w o ≡ true → is_none o ≡ false
is_one w (Some v) e = refl
is_one w None e = absurd (cc)

-- where a slice of a state has a pixel there is an owner
owned_by : (s : State) (p : Part) (x y : ℤ) → (pixel_in (slice_of s p) x y ≡ None → ⊥) → is_none (owner_in s x y) ≡ false
owned_by s part.desk x y h = absurd (h refl)
owned_by s part.input x y h = absurd (h refl)
owned_by s (part.cell m) x y h = absurd (h refl)
owned_by s (part.looper w) x y h = absurd (h refl)
owned_by s (part.port w) x y h = absurd (h refl)
owned_by s (part.link w) x y h = absurd (h refl)
owned_by s (part.pane w) x y h =
    is_one w (owner_in s x y) (has_if (owned s w x y) (pixel_at s x y) (λ none. h (look_own (width_of s) (owned s w) s.screen x y ∙ none)))

module _ (d : Declared) (all : List Slice) (sound : IsSound d all) where
  abbrev s : State
  s = state d all sound

  wide : width_of s ≡ d.width
  wide = (whole d all sound).parts.width

  pub owned_there : (k : ℕ) (slice : Slice) (x y : ℤ) → slice_get all k ≡ Some slice → (pixel_in slice x y ≡ None → ⊥) → is_none (owner_in (state d all sound) x y) ≡ false
  owned_there k slice x y there has =
      let found = from_map (slice_of s) (all_parts d) k slice (ap (λ l. slice_get l k) (sym sound.is) ∙ there) in
      owned_by s found.0 x y (λ none. has (ap (λ z. pixel_in z x y) found.2 ∙ none))

  free_by : (o : Option ℕ) (x y : ℤ) (c : Cell) → owner_in s x y ≡ o → ((k : ℕ) (slice : Slice) → slice_get all k ≡ Some slice → pixel_in slice x y ≡ None) → pixel_at s x y ≡ Some c → is_none o ≡ true
  free_by (Some u) x y c owner none e =
      let there = owner_stands d all sound u x y owner in
      let shows : pixel_in (slice_of s (part.pane u)) x y ≡ Some c = owner_shows d all sound u x y c owner e in
      let hidden : pixel_in (slice_of s (part.pane u)) x y ≡ None = none there.0 (slice_of s (part.pane u)) there.1 in
      absurd (cc)
  free_by None x y c owner none e = refl

  -- where no slice has a pixel of the screen there is none
  pub free_there : (x y : ℕ) → x < d.width → y < d.height → ((k : ℕ) (slice : Slice) → slice_get all k ≡ Some slice → pixel_in slice (pos x) (pos y) ≡ None) → is_none (owner_in (state d all sound) (pos x) (pos y)) ≡ true
  free_there x y inside below none =
      let on : y * d.width + x < length s.screen = subst (λ n. y * d.width + x < n) (sym (whole d all sound).parts.screen) (index_below x y d.width d.height inside below) in
      let c = element s.screen (y * d.width + x) on in
      let narrow : x < width_of s = subst (λ n. x < n) (sym wide) inside in
      let pixel : pixel_at s (pos x) (pos y) ≡ Some c.0 = cell_inside (width_of s) s.screen x y narrow ∙ ap (λ n. slice_get s.screen (y * n + x)) wide ∙ c.1 in
      free_by (owner_in s (pos x) (pos y)) (pos x) (pos y) c.0 refl none pixel

  -- ---- runs of a row

  -- a pixel of a row by its number
  numbered : (x y : ℕ) → x < d.width → is_desktop d.width (state_of d all) (y * d.width + x) ≡ is_none (owner_in s (pos x) (pos y))
  numbered x y inside =
      ap (λ z. is_desktop d.width z (y * d.width + x)) (back d all sound)
      ∙ ap (λ n. is_none (owner_in s (pos n) (pos ((y * d.width + x) / d.width)))) (digits_mod y inside)
      ∙ ap (λ n. is_none (owner_in s (pos x) (pos n))) (digits_div y inside)

  run_same : (b : Bool) (x y n : ℕ) → x + n ≤ d.width → ((k : ℕ) → k < n → is_none (owner_in s (pos (x + k)) (pos y)) ≡ b) → count_by (is_desktop d.width (state_of d all)) (range_with_len (y * d.width + x) n) ≡ n * cond b 1 0
  run_same b x y n within same =
      counted_same (is_desktop d.width (state_of d all)) b (y * d.width + x) n
      (λ k lt. let place : y * d.width + x + k ≡ y * d.width + (x + k) = omega arith in
      ap (is_desktop d.width (state_of d all)) place ∙ numbered (x + k) y (omega arith) ∙ same k lt)

  -- all pixels of a run that no slice has
  pub free_run : (x y n : ℕ) → y < d.height → x + n ≤ d.width → ((k : ℕ) (slice : Slice) → slice_get all k ≡ Some slice → HasNone slice x y n) → count_by (is_desktop d.width (state_of d all)) (range_with_len (y * d.width) (x + n)) ≡ count_by (is_desktop d.width (state_of d all)) (range_with_len (y * d.width) x) + n
  free_run x y n below within none =
      let all_of = run_same true x y n within (λ k lt. free_there (x + k) y (omega arith) below (λ j slice there. none j slice there k lt)) in
      counted_on (is_desktop d.width (state_of d all)) (y * d.width) x n
      ∙ ap (λ m. count_by (is_desktop d.width (state_of d all)) (range_with_len (y * d.width) x) + m) all_of
      ∙ omega arith

  -- and none of those that one has
  pub owned_run : (place : ℕ) (slice : Slice) (x y : ℕ) (cells : List Cell) → x + length cells ≤ d.width → slice_get all place ≡ Some slice → HasCells slice x y cells → count_by (is_desktop d.width (state_of d all)) (range_with_len (y * d.width) (x + length cells)) ≡ count_by (is_desktop d.width (state_of d all)) (range_with_len (y * d.width) x)
  owned_run place slice x y cells within there has =
      let none_of = run_same false x y (length cells) within
      (λ k lt. owned_there place slice (pos (x + k)) (pos y) there
      (λ none. let c = element cells k lt in let is : pixel_in slice (pos (x + k)) (pos y) ≡ Some c.0 = has k lt ∙ c.1 in cc)) in
      counted_on (is_desktop d.width (state_of d all)) (y * d.width) x (length cells)
      ∙ ap (λ m. count_by (is_desktop d.width (state_of d all)) (range_with_len (y * d.width) x) + m) none_of
      ∙ omega arith

  -- ---- rows

  pub row_more : (y n m : ℕ) → n ≡ count_by (is_desktop d.width (state_of d all)) (range_with_len 0 (y * d.width)) → m ≡ count_by (is_desktop d.width (state_of d all)) (range_with_len (y * d.width) d.width) → n + m ≡ count_by (is_desktop d.width (state_of d all)) (range_with_len 0 ((y + 1) * d.width))
  row_more y n m before here =
      let next : (y + 1) * d.width ≡ y * d.width + d.width = grind (arith) in
      let zeroed : 0 + y * d.width ≡ y * d.width = omega arith in
      ap (λ k. k + m) before
      ∙ ap (λ k. count_by (is_desktop d.width (state_of d all)) (range_with_len 0 (y * d.width)) + k) (here ∙ ap (λ k. count_by (is_desktop d.width (state_of d all)) (range_with_len k d.width)) (sym zeroed))
      ∙ sym (counted_on (is_desktop d.width (state_of d all)) 0 (y * d.width) d.width)
      ∙ ap (λ k. count_by (is_desktop d.width (state_of d all)) (range_with_len 0 k)) (sym next)

  -- the screen that is put together has all pixels
  pub screen_long : length (state_of d all).screen ≡ d.width * d.height
  screen_long = ap (λ z. length z.screen) (back d all sound) ∙ (whole d all sound).parts.screen

  pub all_rows : (y n : ℕ) → y ≡ d.height → n ≡ count_by (is_desktop d.width (state_of d all)) (range_with_len 0 (y * d.width)) → n ≡ desktop_count d (state_of d all)
  all_rows y n last is =
      let size : y * d.width ≡ length (state_of d all).screen = ap (λ k. k * d.width) last ∙ grind (arith) ∙ sym screen_long in
      is ∙ ap (λ k. count_by (is_desktop d.width (state_of d all)) (range_with_len 0 k)) size

-- what is put together of the slices of a state after a legal history has as many as that state
pub count_after : (d : Declared) (all : List Slice) (h : List Entry) → IsWithinLimits d → IsLegalHistory d h → all ≡ slices d (state_after d h) → desktop_count d (state_of d all) ≡ desktop_count d (state_after d h)
count_after d all h limits legal is =
    ap (desktop_count d) (ap (state_of d) is ∙ put_together d (state_after d h) (whole_after d h limits legal))
