-- The states in which an update begins, and those after it.
use Rattle.std.proofs.Common.{◌≡◌, ℕ, Bool, true, false, List, map, Option, Some, None, refl, ap, ◌∙◌}
use Rattle.std.specs.Prelude.{ℤ, ◌==◌, option_map, option_and_then, slice_get, if◌then◌else◌}
use Rattle.std.specs.Option.{option_map_or}
use Rattle.std.proofs.lemmas.Option.{slice_get-map}
use Rattle.be_actor.specs.Wishes.{first_place, has_no_room}
use Rattle.be_geom.specs.declared.point.Point.{Point}
use Rattle.be_looper.specs.Duties.{Hand}
use Rattle.be_machine.specs.Activities.{looper}
use Rattle.be_machine.specs.Program.{body_wish, buffered, letter_program, update_program}
use Rattle.be_machine.specs.State.{Looper, State, beginning, ending, free, handling, in_body, in_update, locked}
use Rattle.be_machine.specs.Step.{met}
use Rattle.be_machine.specs.Touched as part
use Rattle.be_machine.specs.Update.{at_stage, begun, listing_of, opened, passed_by}
use Rattle.be_machine.specs.Wants.{begins, draws_end, ends, flushes, looper_want}
use Rattle.be_machine.specs.Windows.{corner_at, dirty_of}
use Rattle.be_message.specs.Messages.{Message}
use Rattle.be_pane.specs.declared.pane.Pane.{Pane}
use Rattle.be_parts.specs.Effects.{looper_with}
use Rattle.be_rules.specs.Slices as slices
use Rattle.be_rules.specs.Slices.{slice_of}
use Rattle.be_script.specs.Script.{Declared}
use Rattle.be_span.specs.Cells.{unmarked}
use Rattle.be_span.specs.Spans.{Spans, cell_in, place_of}
use Rattle.be_span.specs.declared.Cell.{Cell}
use Rattle.be_steps.proofs.Moved.{at_map}
use Rattle.be_update.specs.Sessions.{is_any}
use Rattle.be_update.specs.Surveys.{HasBegun, Surveyed}
use Rattle.be_machine.proofs.KeptSessions.{not_begins}

-- ---- who begins

begins_by : (d : Declared) (s : State) (w : ℕ) (l : Looper) → looper_want d s w l ≡ begins w → (hand : Hand Message) × (l ≡ handling hand beginning)
begins_by d s w (handling hand (in_body place)) e = absurd (not_begins (looper w) w (body_wish s w hand (letter_program d w hand) place) (buffered s (looper w) == 0) (ends w) (flushes w) (λ never. cc) (λ never. cc) e)
begins_by d s w (handling hand beginning) e = (hand, refl)
begins_by d s w (handling hand (in_update views place)) e = absurd (not_begins (looper w) w (body_wish s w hand (update_program d w views) place) (has_no_room (buffered s (looper w))) (flushes w) (draws_end w) (λ never. cc) (λ never. cc) e)
begins_by d s w (handling hand ending) e = absurd (not_begins (looper w) w None (buffered s (looper w) == 0) (ends w) (flushes w) (λ never. cc) (λ never. cc) e)
begins_by d s w (locked m) e = absurd (cc)
begins_by d s w free e = absurd (cc)

-- ---- a pane in which the update has begun

cells_by : (cells : List Cell) (o : Option ℕ) → option_and_then (slice_get (map unmarked cells)) o ≡ option_map unmarked (option_and_then (slice_get cells) o)
cells_by cells (Some n) = slice_get-map unmarked cells n
cells_by cells None = refl

cells_then : (spans : Spans) (x y : ℤ) → cell_in (record spans { cells = map unmarked spans.cells }) x y ≡ option_map unmarked (cell_in spans x y)
unfolding cell_in
cells_then spans x y = cells_by spans.cells (place_of spans.rects x y)

abbrev pub begun_pane : Surveyed → Pane → Pane
begun_pane survey pane = record pane { session = Some survey.session; spans = record pane.spans { cells = map unmarked pane.spans.cells }; notified = false }

pub has_begun : (survey : Surveyed) (pane : Pane) → HasBegun survey pane (begun_pane survey pane)
has_begun survey pane = record {
  session = refl;
  region = refl;
  cells = λ x y. cells_then pane.spans x y;
  notice = refl;
  window = refl;
  place = refl;
  tree = refl;
  colors = refl;
  states = refl;
}

-- ---- what it changes

module _ (d : Declared) (s : State) (w : ℕ) where
  pub looper_open : (corner : Point) → is_any (dirty_of s w) ≡ true → corner_at s w ≡ Some corner
      → slice_of (met d s (begins w)) (part.looper w) ≡ looper_with (at_stage (in_update (map (λ p. p.0) (listing_of s w)) first_place)) (slice_of s (part.looper w))
  unfolding met begun
  looper_open corner dirty is =
      ap (λ b. slice_of (if b then option_map_or (opened s w) (corner_at s w) s else passed_by s w) (part.looper w)) dirty
      ∙ ap (λ o. slice_of (option_map_or (opened s w) o s) (part.looper w)) is
      ∙ ap (λ o. slices.looper w o (slice_get s.buffers w)) (at_map s.loopers w (at_stage (in_update (map (λ p. p.0) (listing_of s w)) first_place)))

  pub looper_passed : is_any (dirty_of s w) ≡ false → slice_of (met d s (begins w)) (part.looper w) ≡ looper_with (at_stage ending) (slice_of s (part.looper w))
  unfolding met begun
  looper_passed clean =
      ap (λ b. slice_of (if b then option_map_or (opened s w) (corner_at s w) s else passed_by s w) (part.looper w)) clean
      ∙ ap (λ o. slices.looper w o (slice_get s.buffers w)) (at_map s.loopers w (at_stage ending))

  links_by : (b : Bool) (o : Option Point) → slice_of (if b then option_map_or (opened s w) o s else passed_by s w) (part.link w) ≡ slice_of s (part.link w)
  links_by true (Some corner) = refl
  links_by true None = refl
  links_by false o = refl

  pub link_kept : slice_of (met d s (begins w)) (part.link w) ≡ slice_of s (part.link w)
  unfolding met begun
  link_kept = links_by (is_any (dirty_of s w)) (corner_at s w)

  pub begun_is : met d s (begins w) ≡ begun s w
  unfolding met
  begun_is = refl
