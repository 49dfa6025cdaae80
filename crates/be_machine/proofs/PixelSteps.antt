-- Which pixels a met want leaves as they were.
use Rattle.std.proofs.Common.{◌≡◌, ℕ, zero, suc, [], ◌∷◌, map, Bool, true, false, List, Option, Some, None, refl, sym, ap, ◌∙◌}
use Rattle.std.specs.Prelude.{slice_get, slice_set, if◌then◌else◌}
use Rattle.std.specs.Option.{option_map_or}
use Rattle.be_actor.specs.declared.Wish.{Wish}
use Rattle.be_actor.specs.declared.Wish.TheVariants as wish
use Rattle.be_looper.specs.Duties.{EndTelling, nobody, no_reply, not_understood}
use Rattle.be_message.specs.Messages.{Message}
use Rattle.be_port.specs.declared.Duty.{Duty}
use Rattle.be_script.specs.Script.{Declared}
use Rattle.be_machine.specs.Activities.{Runner, app, looper}
use Rattle.be_machine.specs.Commands.{drawn, flushed}
use Rattle.be_machine.specs.Looper.{ended_hand, freed, with_waiting, told, with_duty, forwarded_hand, told_at_end, claimed}
use Rattle.be_machine.specs.Port.{is_accepted_at, with_letter_in_hand}
use Rattle.be_machine.specs.Program.{hand_at, window_of, hop_of, hand_of, moved_on}
use Rattle.be_machine.specs.State.{State}
use Rattle.be_machine.specs.Step.{is_accepted_wish, granted, met}
use Rattle.be_machine.specs.Wants.{Want, asks, takes, begins, flushes, draws_end, ends, notifies, executes, uses, stops}
use Rattle.be_span.specs.Screen.{cell_at}
use Rattle.be_span.specs.Cells.{Lookup}
use Rattle.std.specs.Prelude.{ℤ, ◌==◌, option_map}
use Rattle.be_looper.specs.Duties.{Hand, end_telling, duty_after_reply, duty_after_forward}
use Rattle.be_geom.specs.Numbers.{is_number}
use Rattle.be_span.specs.Cells.{desktop_cell}
use Rattle.be_span.specs.declared.Cell.{Cell}
use Rattle.be_span.specs.Screen.{each_cell}
use Rattle.be_stack.specs.Owner.{owner_at}
use Rattle.be_stack.specs.Windows.{Windows}
use Rattle.be_machine.specs.Commands.{flushed_into}
use Rattle.be_machine.specs.Pixels.{pixel_at, owner_in}
use Rattle.be_machine.specs.Lists.{at, set_at}
use Rattle.be_machine.specs.Windows.{owned, width_of, view_colors}
use Rattle.be_pane.specs.Panes.{Pane}
use Rattle.be_update.specs.Sessions.{with_notice}
use Rattle.std.proofs.lemmas.Option.{same_Some}
use Rattle.be_facts.proofs.Numbers.{eq_tells}
use Rattle.be_span.proofs.EachLemmas.{cell_by}
use Rattle.be_machine.proofs.PixelRules.{stays_by}

-- ---- what is left

-- a pixel that nobody owns is the desktop's
abbrev pub IsDesktopAt : State → ℤ → ℤ → Type 0
IsDesktopAt s x y = owner_in s x y ≡ None → pixel_at s x y ≡ option_map (λ _. desktop_cell) (pixel_at s x y)

-- Pixels that keep their owner stay, but those of windows that are excepted; and the desktop stays the desktop's.
pub record Leaves (s r : State) (Excepted : ℕ → Type 0) : Type 0 where
  pub kept : (u : ℕ) (x y : ℤ) → (Excepted u → ⊥) → owner_in s x y ≡ Some u → owner_in r x y ≡ Some u → pixel_at r x y ≡ pixel_at s x y
  pub desktop : (x y : ℤ) → IsDesktopAt s x y → IsDesktopAt r x y

-- the same windows, views, focus, colours of views and screen
pub record IsShown (s r : State) : Type 0 where
  pub windows : r.desk.windows ≡ s.desk.windows
  pub trees : r.desk.pointing.trees ≡ s.desk.pointing.trees
  pub focus : r.desk.pointing.focus ≡ s.desk.pointing.focus
  pub colors : view_colors r ≡ view_colors s
  pub screen : r.screen ≡ s.screen

pub shown : (s : State) → IsShown s s
shown s = record { windows = refl; trees = refl; focus = refl; colors = refl; screen = refl }

colors_set : (panes : List Pane) (w : ℕ) (old new : Pane) → slice_get panes w ≡ Some old → new.colors ≡ old.colors → map (λ (pane : Pane). pane.colors) (slice_set panes w new) ≡ map (λ pane. pane.colors) panes
colors_set [] w old new e same = refl
colors_set (p ∷ ps) zero old new e same = ap (λ c. c ∷ map (λ (pane : Pane). pane.colors) ps) (same ∙ ap (λ (pane : Pane). pane.colors) (sym (same_Some p old e)))
colors_set (p ∷ ps) (suc w) old new e same = ap (λ l. p.colors ∷ l) (colors_set ps w old new e same)

colors_set_at : (panes : List Pane) (w : ℕ) (f : Pane → Pane) (o : Option Pane) → slice_get panes w ≡ o → ((pane : Pane) → (f pane).colors ≡ pane.colors) → map (λ (pane : Pane). pane.colors) (set_at panes w f o) ≡ map (λ pane. pane.colors) panes
colors_set_at panes w f (Some pane) e same = colors_set panes w pane (f pane) e (same pane)
colors_set_at panes w f None e same = refl

-- what leaves the colours of a pane leaves all colours
pub colors_kept : (panes : List Pane) (w : ℕ) (f : Pane → Pane) → ((pane : Pane) → (f pane).colors ≡ pane.colors) → map (λ (pane : Pane). pane.colors) (at panes w f) ≡ map (λ pane. pane.colors) panes
colors_kept panes w f same = colors_set_at panes w f (slice_get panes w) refl same

pub same_pixel : (s r : State) (x y : ℤ) → IsShown s r → pixel_at r x y ≡ pixel_at s x y
same_pixel s r x y is = ap (λ (w : Windows). cell_at w.width r.screen x y) is.windows ∙ ap (λ cells. cell_at s.desk.windows.width cells x y) is.screen

pub shown_leaves : (s r : State) (P : ℕ → Type 0) → IsShown s r → Leaves s r P
shown_leaves s r P is = record {
  kept = λ u x y other was now. same_pixel s r x y is;
  desktop = λ x y h none.
      let same : pixel_at r x y ≡ pixel_at s x y = same_pixel s r x y is in
      let before : owner_in s x y ≡ None = sym (ap (λ w. owner_at w x y) is.windows) ∙ none in
      same ∙ h before ∙ sym (ap (option_map (λ _. desktop_cell)) same);
}

found_shown : {X : Type 0} (s : State) (f : X → State) (o : Option X) → ((x : X) → IsShown s (f x)) → IsShown s (option_map_or f o s)
found_shown s f (Some x) each = each x
found_shown s f None each = shown s

pub tested_shown : (s : State) (b : Bool) (x y : State) → IsShown s x → IsShown s y → IsShown s (if b then x else y)
tested_shown s true x y h k = h
tested_shown s false x y h k = k

-- ---- what instructions do shows nothing

duty_shown : (s : State) (f : Duty → Duty) (who : Runner) (r : State) → IsShown s r → IsShown s (with_duty f who r)
duty_shown s f (looper v) r h = record { windows = h.windows; trees = h.trees; focus = h.focus; colors = h.colors; screen = h.screen }
duty_shown s f (app m) r h = h

told_shown : (s : State) (message : Message) (o : Option ℕ) → IsShown s (told message o s)
told_shown s message (Some m) = record { windows = refl; trees = refl; focus = refl; colors = refl; screen = refl }
told_shown s message None = shown s

waiting_shown : (s : State) (who : Runner) (r : State) → IsShown s r → IsShown s (with_waiting who r)
waiting_shown s (app m) r h = record { windows = h.windows; trees = h.trees; focus = h.focus; colors = h.colors; screen = h.screen }
waiting_shown s (looper v) r h = h

claimed_shown : (s : State) (who : Runner) → IsShown s (claimed s who)
claimed_shown s (app m) = record { windows = refl; trees = refl; focus = refl; colors = refl; screen = refl }
claimed_shown s (looper v) = shown s

flushed_shown : (s : State) (v : ℕ) → IsShown s (flushed s v)
flushed_shown s v = found_shown s (flushed_into s v) (slice_get s.buffers v) (λ b. record { windows = refl; trees = refl; focus = refl; colors = refl; screen = refl })

granted_shown : (s : State) (who : Runner) (x : Wish) → IsShown s (granted s who x)
unfolding granted
granted_shown s who (wish.Note word) = shown s
granted_shown s who (wish.Post v target message) = record { windows = refl; trees = refl; focus = refl; colors = refl; screen = refl }
granted_shown s who (wish.Send v target message) = tested_shown s (is_accepted_at s v (hop_of s who)) _ _ (waiting_shown s who _ (record { windows = refl; trees = refl; focus = refl; colors = refl; screen = refl })) (record { windows = refl; trees = refl; focus = refl; colors = refl; screen = refl })
granted_shown s who (wish.Forward v target) =
    found_shown s (forwarded_hand s who v target) (hand_of s who) (λ hand. tested_shown s (is_accepted_at s v (hop_of s who)) _ _ (duty_shown s duty_after_forward who _ (record { windows = refl; trees = refl; focus = refl; colors = refl; screen = refl })) (record { windows = refl; trees = refl; focus = refl; colors = refl; screen = refl }))
granted_shown s who (wish.Reply message) = duty_shown s duty_after_reply who _ (told_shown s message _)
granted_shown s who wish.Claim = claimed_shown s who
granted_shown s who (wish.Lock v) = record { windows = refl; trees = refl; focus = refl; colors = refl; screen = refl }
granted_shown s who wish.Unlock = found_shown s (freed s) (window_of s who) (λ v. record { windows = refl; trees = refl; focus = refl; colors = refl; screen = refl })
granted_shown s who wish.Flush = found_shown s (flushed s) (window_of s who) (flushed_shown s)
granted_shown s who wish.SyncDone = shown s
granted_shown s who (wish.Draw c) = found_shown s (λ v. drawn s v c) (window_of s who) (λ v. record { windows = refl; trees = refl; focus = refl; colors = refl; screen = refl })

moved_shown : (d : Declared) (who : Runner) (accepted : Bool) (x : Wish) (s r : State) → IsShown s r → IsShown s (moved_on d who accepted x r)
unfolding moved_on
moved_shown d (app m) accepted x s r h = record { windows = h.windows; trees = h.trees; focus = h.focus; colors = h.colors; screen = h.screen }
moved_shown d (looper v) accepted x s r h = record { windows = h.windows; trees = h.trees; focus = h.focus; colors = h.colors; screen = h.screen }

ended_shown : (s : State) (v : ℕ) (hand : Hand Message) (x : EndTelling) → IsShown s (told_at_end x (freed s v))
ended_shown s v hand nobody = record { windows = refl; trees = refl; focus = refl; colors = refl; screen = refl }
ended_shown s v hand (no_reply m) = record { windows = refl; trees = refl; focus = refl; colors = refl; screen = refl }
ended_shown s v hand (not_understood m) = record { windows = refl; trees = refl; focus = refl; colors = refl; screen = refl }

-- ---- wants that show nothing

-- neither an update, nor a command, nor an event
abbrev pub is_quiet : Want → Bool
is_quiet (asks who x) = true
is_quiet (takes w) = true
is_quiet (begins w) = false
is_quiet (flushes w) = true
is_quiet (draws_end w) = true
is_quiet (ends w) = true
is_quiet (notifies w) = true
is_quiet (executes w) = false
is_quiet (uses x) = false
is_quiet stops = true

pub quiet_shown : (d : Declared) (s : State) (want : Want) → is_quiet want ≡ true → IsShown s (met d s want)
unfolding met
quiet_shown d s (asks who x) e = moved_shown d who (is_accepted_wish s who x) x s _ (granted_shown s who x)
quiet_shown d s (takes w) e = found_shown s (with_letter_in_hand d s w) _ (λ x. record { windows = refl; trees = refl; focus = refl; colors = refl; screen = refl })
quiet_shown d s (begins w) e = cc
quiet_shown d s (flushes w) e = flushed_shown s w
quiet_shown d s (draws_end w) e = record { windows = refl; trees = refl; focus = refl; colors = refl; screen = refl }
quiet_shown d s (ends w) e = found_shown s (ended_hand s w) (hand_at s w) (λ hand. ended_shown s w hand (end_telling hand.duty hand.route))
quiet_shown d s (notifies w) e = record { windows = refl; trees = refl; focus = refl; colors = colors_kept s.panes w with_notice (λ pane. refl); screen = refl }
quiet_shown d s (executes w) e = cc
quiet_shown d s (uses x) e = cc
quiet_shown d s stops e = record { windows = refl; trees = refl; focus = refl; colors = refl; screen = refl }

-- ---- commands, updates and input

is_not_owned : (s : State) (w : ℕ) (x y : ℤ) (o : Option ℕ) → owner_in s x y ≡ o → is_number w o ≡ false → owned s w x y ≡ false
is_not_owned s w x y o was e = ap (is_number w) was ∙ e

another : (u w : ℕ) (b : Bool) → (u == w) ≡ b → (w ≡ u → ⊥) → (u == w) ≡ false
another u w true e other = absurd (other (sym (eq_tells u w e)))
another u w false e other = e

-- a rule that leaves the pixels that window w doesn't own
pub own_leaves : (s r : State) (w : ℕ) (rule : Lookup → ℤ → ℤ → Cell → Cell) → r.desk.windows ≡ s.desk.windows → r.screen ≡ each_cell (width_of s) rule s.screen → ((old : Lookup) (x y : ℤ) (c : Cell) → owned s w x y ≡ false → rule old x y c ≡ c) → Leaves s r (λ u. w ≡ u)
own_leaves s r w rule windows screen stays =
    let at : (x y : ℤ) → owned s w x y ≡ false → pixel_at r x y ≡ pixel_at s x y = λ x y unowned.
    ap (λ (k : Windows). cell_at k.width r.screen x y) windows ∙ ap (λ cells. cell_at s.desk.windows.width cells x y) screen ∙ stays_by (width_of s) rule s.screen x y (λ old c. stays old x y c unowned) in
    record {
      kept = λ u x y other was now. at x y (is_not_owned s w x y (Some u) was (another u w (u == w) refl other));
      desktop = λ x y h none.
          let before : owner_in s x y ≡ None = sym (ap (λ k. owner_at k x y) windows) ∙ none in
          let same : pixel_at r x y ≡ pixel_at s x y = at x y (is_not_owned s w x y None before refl) in
          same ∙ h before ∙ sym (ap (option_map (λ _. desktop_cell)) same);
    }

pub once_desktop : (o : Option Cell) → option_map {T = Cell} (λ _. desktop_cell) o ≡ option_map (λ _. desktop_cell) (option_map (λ _. desktop_cell) o)
once_desktop (Some c) = refl
once_desktop None = refl

pub rule_pixel : (width : ℕ) (rule : Lookup → ℤ → ℤ → Cell → Cell) (g : Cell → Cell) (cells : List Cell) (x y : ℤ) → ((old : Lookup) (c : Cell) → rule old x y c ≡ g c) → cell_at width (each_cell width rule cells) x y ≡ option_map g (cell_at width cells x y)
rule_pixel width rule g cells x y same = cell_by width rule cells x y ∙ by_old (cell_at width cells x y)
  where
    by_old : (o : Option Cell) → option_map (rule (cell_at width cells) x y) o ≡ option_map g o
    by_old (Some c) = ap Some (same (cell_at width cells) c)
    by_old None = refl
