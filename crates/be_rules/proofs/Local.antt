-- What holds of one sound list with these parts in hand holds of each: an entry whose touched parts are in hand.
use Rattle.std.proofs.Common.{◌≡◌, ℕ, suc, ◌+◌, ◌*◌, ◌<◌, ◌≤◌, Bool, true, false, List, [], ◌++◌, map, length, Option, Some, None, ◌⊎◌, inl, inr, ⊎_elim, refl, sym, ap, ◌∙◌, subst, arith}
use Rattle.std.specs.Prelude.{ℤ, pos, negsuc, ◌&&◌, nat_lt, int_le, int_lt, slice_get, option_map, find, if◌then◌else◌}
use Rattle.std.specs.List.{range_with_len}
use Rattle.std.proofs.lemmas.Bool.Decides.{nat_tests}
use Rattle.std.proofs.lemmas.Option.{same_Some, slice_get_past}
use mathlib.Core.Option.{some}
use lib.ListN.{get_elem?}
use Rattle.be_facts.proofs.Numbers.{nat_lt_from, index_below}
use Rattle.be_facts.proofs.Truths.{and_second, and_first}
use Rattle.be_facts.proofs.Lists.{element}
use Rattle.be_geom.proofs.Numbered.{number_is}
use Rattle.be_script.specs.Script.{Declared}
use Rattle.be_span.specs.declared.Cell.{Cell}
use Rattle.be_stack.specs.Owner.{covers, is_on_screen, owner_at}
use Rattle.be_stack.specs.declared.window.Window.{Window}
use Rattle.be_views.specs.Trees.{left_top}
use Rattle.be_machine.specs.Pixels.{owner_in, pixel_at}
use Rattle.be_machine.specs.State.{State}
use Rattle.be_machine.specs.Touched.{Part, SamePart, SamePixels, Touches}
use Rattle.be_machine.specs.Touched as part
use Rattle.be_machine.specs.Windows.{width_of, owned, corner_at}
use Rattle.be_machine.proofs.ReadsDirt.{is_owned}
use Rattle.be_machine.proofs.PixelExposed.{cell_if}
use Rattle.be_rules.specs.Places.{place_of, IsPart}
use Rattle.be_rules.specs.Slices.{Shown, Slice, desk, input, cell, looper, port, link, pane, desk_in, input_in, app_in, looper_in, buffer_in, port_in, link_in, look_at, shown_of, slice_of, all_parts}
use Rattle.be_rules.proofs.Cut.{IsWhole, owner_there}
use Rattle.be_rules.proofs.ListLemmas.{elem_left, elem_right, elem_range}
use Rattle.be_rules.proofs.Looks.{look_own}
use Rattle.be_rules.proofs.Keepers.{long}

abbrev shown_in : Slice → Option Shown
shown_in (desk x) = None
shown_in (input k b) = None
shown_in (cell m a) = None
shown_in (looper w l b) = None
shown_in (port w p) = None
shown_in (link w l) = None
shown_in (pane w p) = Some p

-- ---- a pixel that a window owns is on the screen

below : (x width : ℕ) → is_on_screen width (pos x) ≡ true → x < width
below x width e = let lt : nat_lt x width ≡ true = and_second (int_le (pos 0) (pos x)) (int_lt (pos x) (pos width)) e in grind (arith, nat_tests)

on_by : (b : Bool) (o : Option ℕ) (w : ℕ) → (if b then o else None) ≡ Some w → b ≡ true
on_by true o w e = refl
on_by false o w e = absurd (cc)

module _ (d : Declared) (s : State) (h : IsWhole d s) where
  full_at : (x y : ℤ) (w : ℕ) → owner_in s x y ≡ Some w → (c : Cell) × (pixel_at s x y ≡ Some c)
  unfolding owner_at
  full_at (pos x) (pos y) w e =
      let on : (is_on_screen s.desk.windows.width (pos x) && is_on_screen s.desk.windows.height (pos y)) ≡ true = on_by _ (find (covers s.desk.windows.windows (pos x) (pos y)) s.desk.windows.order) w e in
      let column : x < s.desk.windows.width = below x s.desk.windows.width (and_first _ _ on) in
      let row : y < s.desk.windows.height = below y s.desk.windows.height (and_second (is_on_screen s.desk.windows.width (pos x)) _ on) in
      let long : length s.screen ≡ s.desk.windows.width * s.desk.windows.height = h.parts.screen ∙ (λ i. sym h.parts.width i * sym h.parts.height i) in
      let c : (c : Cell) × (slice_get s.screen (y * s.desk.windows.width + x) ≡ Some c) = element s.screen (y * s.desk.windows.width + x) (subst (λ n. y * s.desk.windows.width + x < n) (sym long) (index_below x y s.desk.windows.width s.desk.windows.height column row)) in
      (c.0, cell_if s.desk.windows.width s.screen x y c.0 (nat_lt_from x s.desk.windows.width column) c.1)
  full_at (pos x) (negsuc y) w e = let no = on_by _ (find (covers s.desk.windows.windows (pos x) (negsuc y)) s.desk.windows.order) w e in let never : false ≡ true = and_first (int_le (pos 0) (negsuc y)) (int_lt (negsuc y) (pos s.desk.windows.height)) (and_second (is_on_screen s.desk.windows.width (pos x)) (is_on_screen s.desk.windows.height (negsuc y)) no) in absurd (cc)
  full_at (negsuc x) y w e = let no = on_by _ (find (covers s.desk.windows.windows (negsuc x) y) s.desk.windows.order) w e in let never : false ≡ true = and_first (int_le (pos 0) (negsuc x)) (int_lt (negsuc x) (pos s.desk.windows.width)) (and_first (is_on_screen s.desk.windows.width (negsuc x)) (is_on_screen s.desk.windows.height y) no) in absurd (cc)

-- ---- from slices back to parts

own_by : (a b : Bool) (o p : Option Cell) (c : Cell) → (if b then p else None) ≡ (if a then o else None) → a ≡ true → o ≡ Some c → (b ≡ true) × (p ≡ Some c)
own_by true true o p c same yes_a is = (refl, same ∙ is)
own_by true false o p c same yes_a is = let no : None ≡ Some c = same ∙ is in absurd (cc)
own_by false b o p c same yes_a is = absurd (cc)

module _ (d : Declared) (s r : State) (one : IsWhole d s) (two : IsWhole d r) where
  looks : (w : ℕ) → shown_of r w ≡ shown_of s w → (x y : ℤ) → (if owned r w x y then pixel_at r x y else None) ≡ (if owned s w x y then pixel_at s x y else None)
  looks w same x y =
      sym (look_own (width_of r) (owned r w) r.screen x y)
      ∙ ap (λ (p : Shown). look_at p.width p.cells x y) same
      ∙ look_own (width_of s) (owned s w) s.screen x y

  pixels_by : (w : ℕ) → shown_of r w ≡ shown_of s w → SamePixels s r w
  pixels_by w same x y (inl is) =
      let c = full_at d s one x y w is in
      let got = own_by (owned s w x y) (owned r w x y) (pixel_at s x y) (pixel_at r x y) c.0 (looks w same x y) (is_owned s w x y is) c.1 in
      (number_is w (owner_in r x y) got.0 ∙ sym is, got.1 ∙ sym c.1)
  pixels_by w same x y (inr is) =
      let c = full_at d r two x y w is in
      let got = own_by (owned r w x y) (owned s w x y) (pixel_at r x y) (pixel_at s x y) c.0 (sym (looks w same x y)) (is_owned r w x y is) c.1 in
      (is ∙ sym (number_is w (owner_in s x y) got.0), c.1 ∙ sym got.1)

  pub part_by : (p : Part) → slice_of r p ≡ slice_of s p → SamePart s r p
  part_by part.desk e = same_Some r.desk s.desk (ap desk_in e)
  part_by part.input e = let both : (r.events, r.stopped) ≡ (s.events, s.stopped) = same_Some (r.events, r.stopped) (s.events, s.stopped) (ap input_in e) in ((λ i. (both i).0), (λ i. (both i).1))
  part_by (part.cell m) e = ap app_in e
  part_by (part.looper w) e = (ap looper_in e, ap buffer_in e)
  part_by (part.port w) e = ap port_in e
  part_by (part.link w) e = ap link_in e
  part_by (part.pane w) e =
      let shown : shown_of r w ≡ shown_of s w = same_Some (shown_of r w) (shown_of s w) (ap shown_in e) in
      ((λ i. (shown i).kept), pixels_by w shown, (λ i. (shown i).corner), (λ i. (shown i).tree))

-- ---- places

apps : Declared → List Part
apps d = map part.cell (range_with_len 0 (length d.apps))

row : (ℕ → Part) → Declared → List Part
row g d = map g (range_with_len 0 (length d.windows))

module _ (d : Declared) where
  n : ℕ
  n = length d.windows

  behind_cells : (ps : List Part) (i : ℕ) (p : Part) → get_elem? ps i ≡ some p → get_elem? (map part.cell (range_with_len 0 (length d.apps)) ++ ps) (length d.apps + i) ≡ some p
  behind_cells ps i p e = elem_right (map part.cell (range_with_len 0 (length d.apps))) ps (length d.apps) i p (long part.cell (length d.apps)) e

  behind : (g : ℕ → Part) (ps : List Part) (i : ℕ) (p : Part) → get_elem? ps i ≡ some p → get_elem? (map g (range_with_len 0 (length d.windows)) ++ ps) (length d.windows + i) ≡ some p
  behind g ps i p e = elem_right (map g (range_with_len 0 (length d.windows))) ps (length d.windows) i p (long g (length d.windows)) e

  front : (g : ℕ → Part) (k : ℕ) (ps : List Part) (i : ℕ) → i < k → get_elem? (map g (range_with_len 0 k) ++ ps) i ≡ some (g i)
  front g k ps i lt = elem_left (map g (range_with_len 0 k)) ps i (g i) (elem_range g k i lt)

  pub at_place : (p : Part) → IsPart d p → get_elem? (all_parts d) (place_of d p) ≡ some p
  at_place part.desk lt = refl
  at_place part.input lt = refl
  at_place (part.cell m) lt = let at : 2 + m ≡ suc (suc m) = omega arith in rw at (front part.cell (length d.apps) _ m lt)
  at_place (part.looper w) lt = let at : 2 + (length d.apps + w) ≡ suc (suc (length d.apps + w)) = omega arith in rw at (behind_cells _ w (part.looper w) (front part.looper (length d.windows) _ w lt))
  at_place (part.port w) lt = let at : 2 + (length d.apps + (length d.windows + w)) ≡ suc (suc (length d.apps + (length d.windows + w))) = omega arith in rw at (behind_cells _ _ (part.port w) (behind part.looper _ w (part.port w) (front part.port (length d.windows) _ w lt)))
  at_place (part.link w) lt = let at : 2 + (length d.apps + (length d.windows + (length d.windows + w))) ≡ suc (suc (length d.apps + (length d.windows + (length d.windows + w)))) = omega arith in rw at (behind_cells _ _ (part.link w) (behind part.looper _ _ (part.link w) (behind part.port _ w (part.link w) (front part.link (length d.windows) _ w lt))))
  at_place (part.pane w) lt = let at : 2 + (length d.apps + (length d.windows + (length d.windows + (length d.windows + w)))) ≡ suc (suc (length d.apps + (length d.windows + (length d.windows + (length d.windows + w))))) = omega arith in rw at (behind_cells _ _ (part.pane w) (behind part.looper _ _ (part.pane w) (behind part.port _ _ (part.pane w) (behind part.link _ w (part.pane w) (elem_range part.pane (length d.windows) w lt)))))

-- ---- parts that aren't the script's are the same in all states

none_both : {X : Type 0} (xs ys : List X) (n i : ℕ) → length xs ≡ n → length ys ≡ n → n ≤ i → slice_get xs i ≡ slice_get ys i
none_both xs ys n i a b le = slice_get_past xs i (subst (λ k. k ≤ i) (sym a) le) ∙ sym (slice_get_past ys i (subst (λ k. k ≤ i) (sym b) le))

below_by : (a b : ℕ) (t : Bool) → nat_lt a b ≡ t → (a < b → ⊥) → b ≤ a
below_by a b true e out = let lt : a < b = grind (arith, nat_tests) in absurd (out lt)
below_by a b false e out = grind (arith, nat_tests)

not_below : {a b : ℕ} → (a < b → ⊥) → b ≤ a
not_below {a} {b} out = below_by a b (nat_lt a b) refl out

module _ (d : Declared) (s r : State) (one : IsWhole d s) (two : IsWhole d r) where
  nobody : (x y : ℤ) (w : ℕ) (t : State) → IsWhole d t → length d.windows ≤ w → owner_in t x y ≡ Some w → ⊥
  nobody x y w t whole past e = let lt : w < length t.desk.windows.windows = owner_there t.desk.windows x y w e in let same : length t.desk.windows.windows ≡ length d.windows = whole.parts.windows in omega (arith, same)

  no_corner : (w : ℕ) → length d.windows ≤ w → corner_at r w ≡ corner_at s w
  no_corner w past = ap (option_map (λ (window : Window). left_top window.frame)) (none_both r.desk.windows.windows s.desk.windows.windows (length d.windows) w two.parts.windows one.parts.windows past)

  pub others_same : (p : Part) → (IsPart d p → ⊥) → SamePart s r p
  others_same part.desk out = absurd (out tt)
  others_same part.input out = absurd (out tt)
  others_same (part.cell m) out = none_both r.apps s.apps (length d.apps) m two.parts.apps one.parts.apps (not_below out)
  others_same (part.looper w) out = (none_both r.loopers s.loopers (length d.windows) w two.parts.loopers one.parts.loopers (not_below out), none_both r.buffers s.buffers (length d.windows) w two.parts.buffers one.parts.buffers (not_below out))
  others_same (part.port w) out = none_both r.ports s.ports (length d.windows) w two.parts.ports one.parts.ports (not_below out)
  others_same (part.link w) out = none_both r.links s.links (length d.windows) w two.parts.links one.parts.links (not_below out)
  others_same (part.pane w) out = (
    none_both r.panes s.panes (length d.windows) w two.parts.panes one.parts.panes (not_below out),
    (λ x y e. absurd (⊎_elim (nobody x y w s one (not_below out)) (nobody x y w r two (not_below out)) e)),
    no_corner w (not_below out),
    none_both r.desk.pointing.trees s.desk.pointing.trees (length d.windows) w two.parts.trees one.parts.trees (not_below out),
  )

decided : (a b : ℕ) (t : Bool) → nat_lt a b ≡ t → (a < b) ⊎ (a < b → ⊥)
decided a b true e = inl (grind (arith, nat_tests))
decided a b false e = inr (λ lt. let le : b ≤ a = grind (arith, nat_tests) in absurd (omega arith))

pub is_part : (d : Declared) (p : Part) → IsPart d p ⊎ (IsPart d p → ⊥)
is_part d part.desk = inl tt
is_part d part.input = inl tt
is_part d (part.cell m) = decided m (length d.apps) (nat_lt m (length d.apps)) refl
is_part d (part.looper w) = decided w (length d.windows) (nat_lt w (length d.windows)) refl
is_part d (part.port w) = decided w (length d.windows) (nat_lt w (length d.windows)) refl
is_part d (part.link w) = decided w (length d.windows) (nat_lt w (length d.windows)) refl
is_part d (part.pane w) = decided w (length d.windows) (nat_lt w (length d.windows)) refl
