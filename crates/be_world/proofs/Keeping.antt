-- The log that keeps an activity's entries, among the parts in hand.
use Rattle.std.proofs.Common.{◌≡◌, ℕ, true, false, Bool, List, [], ◌∷◌, Some, None, inl, inr}
use Rattle.std.proofs.Common.{⊎_elim, refl, sym, ap, ◌∙◌}
use Rattle.std.specs.Prelude.{is_some, option_and_then}
use Rattle.be_asking.proofs.InHand.{slice_read}
use Rattle.be_asking.proofs.Spotted.{part_there}
use Rattle.be_hall.proofs.Holding.{has_spare, held_part, logs_with, meant_with, same_places}
use Rattle.be_hall.proofs.Holding.{spare_of as spare_there}
use Rattle.be_hall.specs.Answers.{HasSpare}
use Rattle.be_hall.specs.Hands.{meant, part_at, places_of, rises_from}
use Rattle.be_hall.specs.Logs.{appended}
use Rattle.be_hall.specs.Machine.{IsHeld, SomeFits}
use Rattle.be_machine.specs.Activities.{Activity, runner, app, looper, twin, input, closing}
use Rattle.be_machine.specs.Activities.{activity_of}
use Rattle.be_machine.specs.Legal.{IsLegal, legal_act, want_act}
use Rattle.be_machine.specs.State.{State}
use Rattle.be_machine.specs.Wants.{want_of}
use Rattle.be_machine.specs.declared.Entry.{Entry}
use Rattle.be_machine.proofs.Histories.{in_range}
use Rattle.be_noting.specs.Noting.{noted_in}
use Rattle.be_parts.specs.Kinds.{Kind, kind_of, stored_as, of_desk, of_input, of_cell, of_looper}
use Rattle.be_parts.specs.Kinds.{of_port, of_link, of_pane}
use Rattle.be_parts.specs.Parts.{log_of, logged_of, meaning_of, notes_of, spare_of}
use Rattle.be_parts.specs.declared.part.Part.{Part}
use Rattle.be_parts.specs.declared.part.Part.TheVariants as kinds
use Rattle.be_rules.proofs.Keepers.{kept_there, own_of}
use Rattle.be_rules.proofs.Lawfully.{state}
use Rattle.be_rules.specs.Places.{place_of}
use Rattle.be_rules.specs.Rules.{kept_at, world_machine}
use Rattle.be_rules.specs.Slices.{slice_of}
use Rattle.be_script.specs.Script.{Declared}
use Rattle.be_world.specs.Entering.{HasEntered, HasOtherRoom, KeepsEntries, TakesEntry}
use Rattle.be_world.proofs.NotesWith.{notes_with}
use Rattle.be_world.proofs.Places.{kept_is}

-- an activity that isn't there has no legal entry
pub nobody_acts : (d : Declared) (s : State) (e : Entry) → activity_of d e.actor ≡ None
    → IsLegal d s e → ⊥
unfolding legal_act
nobody_acts d s e none legal =
    let no : None ≡ Some e.act = sym
    (ap (λ o. option_and_then (want_act d s) (option_and_then (want_of d s) o)) none) ∙ legal in
    absurd (cc)

-- ---- parts that keep entries

abbrev keeps : Kind → Bool
keeps of_input = true
keeps of_cell = true
keeps of_looper = true
keeps of_pane = true
keeps of_desk = false
keeps of_port = false
keeps of_link = false

keeps_stored : (x : Part) → is_some (logged_of x) ≡ keeps (stored_as x)
keeps_stored (kinds.Desk k) = refl
keeps_stored (kinds.Input k) = refl
keeps_stored (kinds.Cell k) = refl
keeps_stored (kinds.Looper k) = refl
keeps_stored (kinds.Port k) = refl
keeps_stored (kinds.Link k) = refl
keeps_stored (kinds.Pane k) = refl

keeps_own : (s : State) (who : Activity) → keeps (kind_of (slice_of s (own_of who))) ≡ true
keeps_own s (runner (app m)) = refl
keeps_own s (runner (looper w)) = refl
keeps_own s (twin w) = refl
keeps_own s input = refl
keeps_own s closing = refl

module _ (d : Declared) (parts : List (ℕ × Part)) (a : ℕ) (who : Activity)
    (number : activity_of d a ≡ Some who) where
  -- the part that keeps an activity's entries keeps entries
  pub keeps_entries : SomeFits (world_machine d) (meant meaning_of parts) → (place : ℕ)
      → place ≡ kept_at d (Some who) → (x : Part) → part_at parts place ≡ Some x
      → kind_of (meaning_of x) ≡ stored_as x → KeepsEntries parts place
  keeps_entries some_list place is x at kind =
      let s : State = state d some_list.0 some_list.1 in
      let there = part_there d (kept_at d (Some who)) (own_of who)
      (kept_there d who (in_range d a who number)) in
      let at_own : part_at parts (place_of d (own_of who)) ≡ Some x =
      ap (part_at parts) (sym (is ∙ kept_is d who)) ∙ at in
      let means : slice_of s (own_of who) ≡ meaning_of x =
      slice_read d parts some_list.0 some_list.1 some_list.2 x (own_of who) there at_own in (
        x,
        at,
        keeps_stored x ∙ ap keeps (sym kind) ∙ ap (λ m. keeps (kind_of m)) (sym means)
            ∙ keeps_own s who,
      )

-- ---- room

module _ (place : ℕ) (old new : List (ℕ × Part)) (other : HasOtherRoom place old new) where
  pub means_same : meant meaning_of new ≡ meant meaning_of old
  means_same = ap (meant meaning_of) other.after_is
      ∙ meant_with meaning_of old place other.was other.is other.before other.means

  pub notes_same : meant notes_of new ≡ meant notes_of old
  notes_same = ap (meant notes_of) other.after_is
      ∙ meant_with notes_of old place other.was other.is other.before other.notes

  pub logs_same : meant log_of new ≡ meant log_of old
  logs_same = ap (meant log_of) other.after_is
      ∙ meant_with log_of old place other.was other.is other.before other.log

pub spare_is : (parts : List (ℕ × Part)) (place : ℕ) → TakesEntry parts place
    → HasSpare place (meant spare_of parts)
spare_is parts place takes = has_spare spare_of parts place takes.0 takes.1 takes.2

spare_held : (spares : List (ℕ × ℕ)) (place : ℕ) → HasSpare place spares → IsHeld spares place
spare_held [] place h = h
spare_held (x ∷ xs) place h = ⊎_elim (λ here. inl here.0)
    (λ later. inr (spare_held xs place later)) h

pub takes_entry : (parts : List (ℕ × Part)) (place : ℕ) → rises_from 0 (places_of parts) ≡ true
    → HasSpare place (meant spare_of parts) → TakesEntry parts place
takes_entry parts place rises spare =
    let x = held_part spare_of parts place (spare_held (meant spare_of parts) place spare) in
    (x.0, x.1, spare_there spare_of 0 parts place x.0 rises x.1 spare)

-- ---- an entry

module _ (place n : ℕ) (e : Entry) (note : List ℕ) (old new : List (ℕ × Part))
    (entered : HasEntered place n e note old new) where
  pub entered_means : meant meaning_of new ≡ meant meaning_of old
  entered_means = ap (meant meaning_of) entered.after_is
      ∙ meant_with meaning_of old place entered.was entered.is entered.before entered.means

  pub entered_places : places_of new ≡ places_of old
  entered_places = ap places_of entered.after_is ∙ same_places old place entered.is

  pub entered_logs : rises_from 0 (places_of old) ≡ true
      → meant log_of new ≡ appended place (n, e) (meant log_of old)
  entered_logs rises = ap (meant log_of) entered.after_is
      ∙ logs_with log_of 0 old place entered.was entered.is (n, e) rises entered.before entered.log

  pub entered_notes : rises_from 0 (places_of old) ≡ true
      → meant notes_of new ≡ noted_in place note (meant notes_of old)
  entered_notes rises = ap (meant notes_of) entered.after_is
      ∙ notes_with notes_of 0 old place entered.was entered.is note rises entered.before
      entered.notes
