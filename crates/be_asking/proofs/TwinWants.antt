-- What a twin wants, by the window's pane.
use Rattle.std.proofs.Common.{◌≡◌, ℕ, ◌<◌, Bool, true, false, List, length, Some, refl, sym, ap, ◌∙◌, subst}
use Rattle.std.specs.Prelude.{ℤ, ◌↔◌, ◌&&◌, ◌==◌, IsTrue, not, slice_get, if◌then◌else◌}
use Rattle.std.proofs.lemmas.Bool.{false_from_ne_true}
use Rattle.be_facts.proofs.Lists.{element}
use Rattle.be_asking.proofs.InHand.{pane_read, is_held}
use Rattle.be_asking.specs.declared.want.Want.TheVariants as want
use Rattle.be_asking.specs.declared.want.Wanted.TheVariants.{Wants}
use Rattle.be_asking.specs.Wants.{IsWanted}
use Rattle.be_geom.specs.Rects.{rect_has}
use Rattle.be_geom.proofs.Numbered.{number_is}
use Rattle.be_hall.specs.Hands.{meant, part_at}
use Rattle.be_hall.specs.Machine.{Fits}
use Rattle.be_machine.proofs.PixelExposed.{owned_cell_after}
use Rattle.be_machine.specs.Activities.{twin}
use Rattle.be_machine.specs.Pixels.{owner_in}
use Rattle.be_machine.specs.State.{State}
use Rattle.be_machine.specs.Touched as part
use Rattle.be_machine.specs.Update.{owes, owes_notice}
use Rattle.be_machine.specs.Wants.{notifies, executes, want_of}
use Rattle.be_machine.specs.Windows.{dirty_of, owned}
use Rattle.be_pane.specs.declared.pane.Pane.{Pane}
use Rattle.be_pane.specs.Owed.{IsOwed}
use Rattle.be_parts.proofs.Begun.{are_dirty, as_owned}
use Rattle.be_parts.specs.Changed.{cells_in}
use Rattle.be_parts.specs.declared.part.Part.{Part}
use Rattle.be_parts.specs.Panes.{IsFull}
use Rattle.be_parts.specs.Parts.{meaning_of}
use Rattle.be_parts.specs.Stands.{PaneIs, PaneShows}
use Rattle.be_rules.proofs.Lawfully.{state, back, whole}
use Rattle.be_rules.specs.Places.{place_of}
use Rattle.be_rules.specs.Rules.{IsSound}
use Rattle.be_rules.specs.Slices.{Slice, shown_of, state_of}
use Rattle.be_script.specs.Script.{Declared}
use Rattle.be_stack.specs.declared.window.Window.{Window}
use Rattle.be_stack.specs.Owner.{covers_pixel, owner_at}
use Rattle.be_stack.specs.Windows.{Windows, passes}
use Rattle.be_update.specs.Laws.{ListedAsDirty, OwedAsTheMachine}
use Rattle.be_update.specs.Sessions.{is_owed}
use Rattle.be_machine.proofs.WorkStages.{found_if}

-- ---- a closed window owns no pixel

shut : (closed b c : Bool) → ((not closed && b) && c) ≡ true → closed ≡ true → ⊥
shut true b c e shut_now = absurd (cc)
shut false b c e shut_now = absurd (cc)

closed_owns : (windows : Windows) (x y : ℤ) (w : ℕ) (window : Window) → slice_get windows.windows w ≡ Some window → window.closed ≡ true → owner_at windows x y ≡ Some w → ⊥
unfolding owner_at
closed_owns windows x y w window read over e =
    shut window.closed (window.hides == 0) (rect_has window.frame x y) (sym (ap (passes (covers_pixel x y)) read) ∙ found_if _ windows x y w e) over

-- ---- the notice

module _ (d : Declared) (parts : List (ℕ × Part)) (w : ℕ) (y : Part) (p : Pane) (lt : w < length d.windows) (at : part_at parts (place_of d (part.pane w)) ≡ Some y)
    (stands : PaneIs (meaning_of y) p) (law : OwedAsTheMachine) (listed : ListedAsDirty) where
  module _ (all : List Slice) (sound : IsSound d all) (fits : Fits all (meant meaning_of parts)) where
    abbrev s : State
    s = state d all sound

    full : IsFull s w
    full i j mine = owned_cell_after d sound.history w i j sound.legal (number_is w (owner_in s i j) mine)

    shows : PaneShows w (shown_of s w) p
    shows = subst (λ z. PaneIs z p) (sym (pane_read d parts all sound fits y w lt at)) stands

    abbrev window : (x : Window) × (slice_get s.desk.windows.windows w ≡ Some x)
    window = element s.desk.windows.windows w (subst (λ n. w < n) (sym (whole d all sound).parts.windows) lt)

    owes_is : owes_notice s w ≡ is_owed window.0.closed (dirty_of s w) shows.kept
    unfolding owes_notice
    owes_is = λ i. owes s w (window.1 i) (shows.is_kept i)

    owed_as : IsOwed p ↔ (is_owed window.0.closed (dirty_of s w) shows.kept ≡ true)
    owed_as = law p w shows.corner shows.kept shows.tree (owned s w) (cells_in s) (dirty_of s w) window.0.closed (as_owned s w full p shows) (are_dirty s w full listed)
        (λ over i j. false_from_ne_true (owned s w i j) (λ mine. closed_owns s.desk.windows i j w window.0 window.1 over (number_is w (owner_in s i j) mine)))

    wants_by : (b : Bool) → owes_notice s w ≡ b → want_of d (state_of d all) (twin w) ≡ Some (if b then notifies w else executes w)
    unfolding want_of
    wants_by b e = ap (λ t. want_of d t (twin w)) (back d all sound) ∙ ap (λ c. Some (if c then notifies w else executes w)) e

  -- the test of a notice that is owed is the machine's
  pub owes_told : (b : Bool) → (IsTrue b ↔ IsOwed p) → (all : List Slice) → IsSound d all → Fits all (meant meaning_of parts) → owes_notice (state_of d all) w ≡ b
  owes_told true told all sound fits = ap (λ t. owes_notice t w) (back d all sound) ∙ owes_is all sound fits ∙ (owed_as all sound fits).0 (told.0 refl)
  owes_told false told all sound fits =
      ap (λ t. owes_notice t w) (back d all sound)
      ∙ false_from_ne_true (owes_notice (s all sound fits) w) (λ e. let never : false ≡ true = told.1 ((owed_as all sound fits).1 (sym (owes_is all sound fits) ∙ e)) in absurd (cc))

  pub twin_notifies : (number : ℕ) → IsOwed p → IsWanted d (meant meaning_of parts) number (twin w) (Wants (want.Notifies w))
  twin_notifies number is all sound fits = (wants_by all sound fits true (owes_is all sound fits ∙ (owed_as all sound fits).0 is), is_held parts (place_of d (part.pane w)) y at)

  pub twin_executes : (number : ℕ) → (IsOwed p → ⊥) → IsWanted d (meant meaning_of parts) number (twin w) (Wants (want.Executes w))
  twin_executes number out all sound fits =
      (wants_by all sound fits false (false_from_ne_true (owes_notice (s all sound fits) w) (λ e. out ((owed_as all sound fits).1 (sym (owes_is all sound fits) ∙ e)))), is_held parts (place_of d (part.pane w)) y at)
