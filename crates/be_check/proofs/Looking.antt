-- A pixel's colour is that of its owner's pane, or the desktop's.
use Rattle.std.proofs.Common.{◌≡◌, ℕ, ◌+◌, ◌*◌, ◌<◌, ◌≤◌, false, List, [], length}
use Rattle.std.proofs.Common.{Option, Some, None, get_or, refl, sym, ap, subst, ◌∙◌, arith}
use Rattle.std.specs.Prelude.{pos, nat_lt, slice_get, option_map, unwrap_or}
use Rattle.std.specs.Prelude.{if◌then◌else◌}
use Rattle.std.proofs.lemmas.Bool.Decides.{nat_tests}
use Rattle.std.proofs.lemmas.Option.{same_Some, slice_get-get_or, slice_get_past}
use Rattle.be_facts.proofs.Numbers.{index_below, nat_lt_from}
use Rattle.be_asking.proofs.InHand.{desk_read, not_held, pane_read}
use Rattle.be_asking.specs.Finding.{IsMissing, IsReachable}
use Rattle.be_desk.specs.Changes.{Desk}
use Rattle.be_desk.specs.Desks.{desk_of}
use Rattle.be_desk.specs.declared.desk.Desk as code
use Rattle.be_hall.specs.Hands.{meant, part_at}
use Rattle.be_hall.specs.Machine.{Fits, SomeFits}
use Rattle.be_hall.proofs.Gathered.{fits_from, held_at}
use Rattle.be_machine.proofs.ReadsDirt.{is_owned}
use Rattle.be_machine.specs.Pixels.{color_at, owner_in, pixel_at}
use Rattle.be_machine.specs.State.{State}
use Rattle.be_machine.specs.Touched as part
use Rattle.be_machine.specs.Windows.{owned, width_of}
use Rattle.be_check.specs.Following.{now_of, state_in}
use Rattle.be_pane.specs.declared.pane.Pane.{Pane}
use Rattle.be_parts.specs.Kept.{Kept}
use Rattle.be_parts.specs.Parts.{meaning_of}
use Rattle.be_parts.specs.Stands.{PaneIs, PaneShows, is_there}
use Rattle.be_parts.specs.declared.part.Part.{Part}
use Rattle.be_parts.specs.declared.part.Part.TheVariants as kinds
use Rattle.be_rules.proofs.Cut.{owner_there}
use Rattle.be_rules.proofs.Lawfully.{back, state, whole}
use Rattle.be_rules.proofs.ListLemmas.{there_in}
use Rattle.be_rules.proofs.Local.{at_place}
use Rattle.be_rules.proofs.Looks.{look_own}
use Rattle.be_rules.specs.Places.{IsPart, place_of}
use Rattle.be_rules.specs.Rules.{world_machine}
use Rattle.be_rules.specs.Slices as sl
use Rattle.be_rules.specs.Slices.{Slice, all_parts, desk_in, look_at, own_from, shown_of}
use Rattle.be_rules.specs.Slices.{slice_of}
use Rattle.be_script.specs.Script.{Declared}
use Rattle.be_span.specs.Cells.{desktop_cell}
use Rattle.be_span.specs.Screen.{cell_at}
use Rattle.be_span.specs.Spans.{cell_in}
use Rattle.be_span.specs.declared.Cell.{Cell}
use Rattle.be_stack.specs.Owner.{owner_at}
use Rattle.be_opening.proofs.Shown.{none_if}
use Rattle.be_check.specs.Stepping.{HasAll}

-- ---- cells by column and row

past : (x width : ℕ) → width ≤ x → nat_lt x width ≡ false
past x width le = grind (arith, nat_tests)

index_past : (x y width height : ℕ) → height ≤ y → width * height ≤ y * width + x
index_past x y width height le = grind (arith)

column_past : (width : ℕ) (cells : List Cell) (x y : ℕ) → width ≤ x
    → cell_at width cells (pos x) (pos y) ≡ None
unfolding cell_at
column_past width cells x y le =
    ap (λ b. if b then slice_get cells (y * width + x) else None) (past x width le)

row_past : (width height : ℕ) (cells : List Cell) (x y : ℕ) → length cells ≡ width * height
    → height ≤ y → cell_at width cells (pos x) (pos y) ≡ None
unfolding cell_at
row_past width height cells x y long le =
    let index = index_past x y width height le in
    none_if (nat_lt x width) (slice_get cells (y * width + x))
    (slice_get_past cells (y * width + x) (omega (arith, long, index)))

cell_there : (width height : ℕ) (cells : List Cell) (x y : ℕ) → length cells ≡ width * height
    → x < width → y < height → (c : Cell) × (cell_at width cells (pos x) (pos y) ≡ Some c)
unfolding cell_at
cell_there width height cells x y long a b =
    let index = index_below x y width height a b in (
      get_or cells (y * width + x) desktop_cell,
      ap (λ t. if t then slice_get cells (y * width + x) else None) (nat_lt_from x width a)
          ∙ slice_get-get_or cells (y * width + x) desktop_cell (omega (arith, long, index)),
    )

-- ---- parts in hand

module _ (d : Declared) (parts : List (ℕ × Part)) (has : HasAll d parts) where
  pub fits : Fits (now_of parts) (meant meaning_of parts)
  fits = fits_from meaning_of [] 0 (length (all_parts d)) parts refl has.places

  some_fits : SomeFits (world_machine d) (meant meaning_of parts)
  some_fits = (now_of parts, has.sound, fits)

  pub reachable : (x : part.Part) → IsPart d x → IsReachable d parts x
  reachable x there = record { limits = has.sound.limits; fitting = some_fits; there = there }

  pub never_missing : (x : part.Part) (place : ℕ) → IsPart d x → IsMissing d parts x place → ⊥
  never_missing x place there missing =
      let low : place_of d x < length (all_parts d) =
      there_in (all_parts d) (place_of d x) x (at_place d x there) in
      not_held parts (place_of d x) (ap (part_at parts) (sym missing.0) ∙ missing.1)
      (held_at meaning_of 0 (length (all_parts d)) (place_of d x) parts has.places (omega arith)
      (omega arith))

  abbrev now : State
  now = state d (now_of parts) has.sound

  pub now_is : state_in d parts ≡ now
  now_is = back d (now_of parts) has.sound

  wide : width_of now ≡ d.width
  wide = (whole d (now_of parts) has.sound).parts.width

  long : length now.screen ≡ width_of now * d.height
  long =
      (whole d (now_of parts) has.sound).parts.screen
      ∙ ap (λ n. n * d.height) (sym wide)

  colors : (x y : ℕ) (o : Option Cell) → pixel_at now (pos x) (pos y) ≡ o
      → color_at (state_in d parts) (pos x) (pos y) ≡ option_map (λ cell. cell.rgb) o
  colors x y o is =
      ap (λ s. color_at s (pos x) (pos y)) now_is
      ∙ ap (option_map (λ (cell : Cell). cell.rgb)) is

  -- ---- off the screen

  pub off_right : (x y : ℕ) → d.width ≤ x
      → None ≡ color_at (state_in d parts) (pos x) (pos y)
  off_right x y le =
      let far : width_of now ≤ x = subst (λ n. n ≤ x) (sym wide) le in
      sym (colors x y None (column_past (width_of now) now.screen x y far))

  pub off_below : (x y : ℕ) → d.height ≤ y
      → None ≡ color_at (state_in d parts) (pos x) (pos y)
  off_below x y le =
      sym (colors x y None (row_past (width_of now) d.height now.screen x y long le))

  -- ---- what parts in hand tell

  pub desk_is : (k : Slice) (desk : code.Desk)
      → part_at parts (place_of d part.desk) ≡ Some (kinds.Desk k) → k ≡ sl.desk (desk_of desk)
      → desk_of desk ≡ (state_in d parts).desk
  desk_is k desk at is =
      sym (ap (λ (s : State). s.desk) now_is
      ∙ same_Some now.desk (desk_of desk)
      (desk_read d parts (now_of parts) has.sound fits (kinds.Desk k) at ∙ ap desk_in is))

  pub pane_is : (w : ℕ) → w < length d.windows → (kept : Kept) (p : Pane)
      → part_at parts (place_of d (part.pane w)) ≡ Some (kinds.Pane kept) → PaneIs kept.slice p
      → PaneIs (slice_of (state_in d parts) (part.pane w)) p
  pane_is w there kept p at stands =
      subst (λ (z : Slice). PaneIs z p)
      (sym (pane_read d parts (now_of parts) has.sound fits (kinds.Pane kept) w there at)
      ∙ ap (λ (s : State). slice_of s (part.pane w)) (sym now_is))
      stands

  -- ---- on the screen

  module _ (x y : ℕ) (inside : x < d.width) (low : y < d.height) (desk : code.Desk)
      (same : desk_of desk ≡ (state_in d parts).desk) (o : Option ℕ)
      (owner : o ≡ owner_at desk.stack (pos x) (pos y)) where
    owner_is : owner_in now (pos x) (pos y) ≡ o
    owner_is =
        ap (λ (s : State). owner_in s (pos x) (pos y)) (sym now_is)
        ∙ ap (λ (z : Desk). owner_at z.windows (pos x) (pos y)) (sym same)
        ∙ sym owner

    there : (c : Cell) × (pixel_at now (pos x) (pos y) ≡ Some c)
    there =
        cell_there (width_of now) d.height now.screen x y long
        (subst (λ n. x < n) (sym wide) inside) low

    pub on_desktop : o ≡ None
        → Some desktop_cell.rgb ≡ color_at (state_in d parts) (pos x) (pos y)
    on_desktop none =
        sym (colors x y (Some desktop_cell)
        ((whole d (now_of parts) has.sound).desktop (pos x) (pos y) (owner_is ∙ none)
        ∙ ap (option_map (λ _. desktop_cell)) there.1))

    module _ (w : ℕ) (is : o ≡ Some w) where
      mine : owner_in now (pos x) (pos y) ≡ Some w
      mine = owner_is ∙ is

      pub window_there : w < length d.windows
      window_there =
          subst (λ n. w < n) (whole d (now_of parts) has.sound).parts.windows
          (owner_there now.desk.windows (pos x) (pos y) w mine)

      look : look_at (width_of now) (own_from (width_of now) 0 (owned now w) now.screen)
          (pos x) (pos y) ≡ Some there.0
      look =
          look_own (width_of now) (owned now w) now.screen (pos x) (pos y)
          ∙ ap (λ b. if b then pixel_at now (pos x) (pos y) else None)
          (is_owned now w (pos x) (pos y) mine)
          ∙ there.1

      pub in_pane : (p : Pane) → PaneIs (slice_of (state_in d parts) (part.pane w)) p
          → option_map (λ cell. cell.rgb) (cell_in p.spans (pos x) (pos y))
          ≡ color_at (state_in d parts) (pos x) (pos y)
      in_pane p stands =
          let shows : PaneShows w (shown_of now w) p =
          subst (λ (s : State). PaneIs (slice_of s (part.pane w)) p) now_is stands in
          let cell : cell_in p.spans (pos x) (pos y) ≡ Some there.0 =
          shows.stands.shown (pos x) (pos y) (ap is_there look)
          ∙ ap (λ (z : Option Cell). Some (unwrap_or z desktop_cell)) look in
          ap (option_map (λ (z : Cell). z.rgb)) cell
          ∙ sym (colors x y (Some there.0) there.1)
