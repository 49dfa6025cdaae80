-- A command that is executed reads only what it touches.
use Rattle.std.proofs.Common.{◌≡◌, ℕ, List, Option, Some, None, inl, inr, refl, sym, ap, subst, ◌∙◌}
use Rattle.std.specs.Prelude.{ℤ, slice_get, option_and_then}
use Rattle.std.specs.Option.{option_map_or}
use Rattle.be_bitmap.specs.Pictures.{Picture}
use Rattle.be_command.specs.Effects.{Deed, Effect, at_view, changes, ends_update, effect_of}
use Rattle.be_desk.specs.Changes.{Desk, desk_after}
use Rattle.be_link.specs.Queues.{Numbered, shortened}
use Rattle.be_pane.specs.Panes.{Pane}
use Rattle.be_script.specs.Script.{Declared}
use Rattle.be_span.specs.Screen.{each_cell}
use Rattle.be_twin.specs.Executed.{Sight, sight_of, outcome_at, pane_after, executed_cell, without_session}
use Rattle.be_machine.specs.Commands.{sight_at, effect_outcome, done_at_view, with_effect, without_front, executed_command, executed}
use Rattle.be_machine.specs.declared.Act.{Act}
use Rattle.be_machine.specs.declared.Act.TheVariants as act
use Rattle.be_machine.specs.Legal.{want_act}
use Rattle.be_machine.specs.Lists.{at, with_both}
use Rattle.be_machine.specs.Pixels.{pixel_at}
use Rattle.be_machine.specs.State.{State}
use Rattle.be_machine.specs.Step.{met}
use Rattle.be_machine.specs.Touched.{Part, SamePart, TouchesFor, TouchesOldest}
use Rattle.be_machine.specs.Touched as part
use Rattle.be_machine.specs.Wants.{executes}
use Rattle.be_machine.specs.Windows.{width_of, owned, corner_at, tree_at, outcome_by}
use Rattle.be_machine.proofs.PixelSteps.{IsDesktopAt}
use Rattle.be_machine.proofs.TouchedWants.{same_touch}
use Rattle.be_machine.proofs.ReadsBoth.{Wanted, Reads}
use Rattle.be_machine.proofs.ReadsChanges.{changed_keeps}
use Rattle.be_machine.proofs.ReadsDirt.{same_owned, same_old}
use Rattle.be_machine.proofs.ReadsPaints.{same_executed}
use Rattle.be_machine.proofs.ReadsParts.{Keeps, both_keep, found_keeps, links_keep, panes_keep, screen_keeps}
use Rattle.be_machine.proofs.ReadsScreen.{SameScreen}
use Rattle.be_machine.proofs.ReadsUpdates.{twin_wants}

-- ---- at a view

-- what is done where the view is found like this
abbrev done_by : List Picture → State → ℕ → ℕ → Deed → Pane → Option Sight → State
done_by pictures s w v deed pane sight = record s {
  panes = at s.panes w (pane_after pictures deed v sight);
  screen = each_cell (width_of s) (executed_cell pictures (owned s w) pane.colors deed sight) s.screen;
}

done_by_keeps : (pictures : List Picture) (s r : State) (w v : ℕ) (deed : Deed) (pane : Pane) (sight : Option Sight) → SamePart s r (part.pane w) → Keeps s r (done_by pictures s w v deed pane sight) (done_by pictures r w v deed pane sight)
done_by_keeps pictures s r w v deed pane sight own =
    let s1 : State = record s { panes = at s.panes w (pane_after pictures deed v sight) } in
    let r1 : State = record r { panes = at r.panes w (pane_after pictures deed v sight) } in
    both_keep s r s1 r1 (done_by pictures s w v deed pane sight) (done_by pictures r w v deed pane sight) (panes_keep s r w (pane_after pictures deed v sight))
    (screen_keeps s1 r1 (executed_cell pictures (owned s w) pane.colors deed sight) (executed_cell pictures (owned r w) pane.colors deed sight) (λ u same x y c is.
    same_executed pictures (owned s w) (owned r w) pane.colors deed sight (pixel_at s) (pixel_at r) x y c (λ a b. same_owned s r w a b own.1) (λ a b e. same_old s r w a b own.1 e)))

same_sight : (s r : State) (w v : ℕ) (pane : Pane) → SamePart s r (part.pane w) → sight_at r w v pane ≡ sight_at s w v pane
same_sight s r w v pane (panes, pixels, corner, tree) =
    ap (λ o. with_both (λ c t. sight_of c t pane v) o (tree_at r w)) corner ∙ ap (with_both (λ c t. sight_of c t pane v) (corner_at s w)) tree

done_keeps : (pictures : List Picture) (s r : State) (w v : ℕ) (deed : Deed) (pane : Pane) → SamePart s r (part.pane w) → Keeps s r (done_at_view pictures s w v deed pane) (done_at_view pictures r w v deed pane)
done_keeps pictures s r w v deed pane own =
    subst (λ o. Keeps s r (done_at_view pictures s w v deed pane) (done_by pictures r w v deed pane o)) (sym (same_sight s r w v pane own)) (done_by_keeps pictures s r w v deed pane (sight_at s w v pane) own)

-- ---- by what the command does

record EffectReads (pictures : List Picture) (s r : State) (w : ℕ) (effect : Effect) : Type 0 where
  own : SamePart s r (part.pane w)
  outcome : (pane : Pane) → effect_outcome pictures r w effect pane ≡ effect_outcome pictures s w effect pane
  kept : Keeps s r (with_effect pictures s w effect) (with_effect pictures r w effect)

effect_reads : (pictures : List Picture) (s r : State) (w : ℕ) (effect : Effect) → SameScreen s r → ((x y : ℤ) → IsDesktopAt s x y) → ((x y : ℤ) → IsDesktopAt r x y) → ((p : Part) → TouchesFor s (with_effect pictures s w effect) w effect p → SamePart s r p) → EffectReads pictures s r w effect
effect_reads pictures s r w (at_view v deed) screens one two touched =
    let own : SamePart s r (part.pane w) = touched (part.pane w) refl in
    record {
      own = own;
      outcome = λ pane. ap (outcome_at pictures deed) (same_sight s r w v pane own);
      kept = subst (λ o. Keeps s r (option_map_or (done_at_view pictures s w v deed) (slice_get s.panes w) s) (option_map_or (done_at_view pictures r w v deed) o r)) (sym own.0)
          (found_keeps s r (done_at_view pictures s w v deed) (done_at_view pictures r w v deed) (slice_get s.panes w) (λ pane e. done_keeps pictures s r w v deed pane own));
    }
effect_reads pictures s r w (changes change) screens one two touched =
    let desk : r.desk ≡ s.desk = touched part.desk (inl refl) in
    record {
      own = touched (part.pane w) (inr (inr (w, refl, inl refl)));
      outcome = λ pane. ap (λ (d : Desk). outcome_by (desk_after d w change)) desk;
      kept = changed_keeps s r w change (record { desk = desk; screens = screens; one = one; two = two }) (λ p h. touched p (inr (inr h)));
    }
effect_reads pictures s r w ends_update screens one two touched = record { own = touched (part.pane w) refl; outcome = λ pane. refl; kept = panes_keep s r w without_session }

-- ---- the command at the front of the link

-- taking a command off the link changes no outcome
outcome_front : (pictures : List Picture) (s : State) (w : ℕ) (effect : Effect) (pane : Pane) → effect_outcome pictures (without_front s w) w effect pane ≡ effect_outcome pictures s w effect pane
outcome_front pictures s w (at_view v deed) pane = refl
outcome_front pictures s w (changes change) pane = refl
outcome_front pictures s w ends_update pane = refl

abbrev pub oldest : State → ℕ → Option Numbered
oldest s w = option_and_then (λ l. slice_get l 0) (slice_get s.links w)

record HasOldest (o : Option Numbered) : Type 0 where
  command : Numbered
  is : o ≡ Some command

has_oldest : (f : Pane → Numbered → Option Act) (p : Option Pane) (o : Option Numbered) (a : Act) → with_both f p o ≡ Some a → HasOldest o
has_oldest f (Some pane) (Some c) a e = record { command = c; is = refl }
has_oldest f (Some pane) None a e = cc
has_oldest f None o a e = cc

same_acts : (f g : Pane → Numbered → Option Act) (p : Option Pane) (c : Numbered) → ((pane : Pane) → f pane c ≡ g pane c) → with_both f p (Some c) ≡ with_both g p (Some c)
same_acts f g (Some pane) c h = h pane
same_acts f g None c h = refl

exec_reads : (d : Declared) (s r : State) (w : ℕ) (c : Numbered) → Wanted d s r (executes w) → oldest s w ≡ Some c → EffectReads d.pictures (without_front s w) (without_front r w) w (effect_of c.command)
unfolding met executed
exec_reads d s r w c is at_front =
    let s1 : State = without_front s w in
    let r1 : State = without_front r w in
    let after : executed d s w ≡ executed_command d s w c = ap (λ o. option_map_or (executed_command d s w) o s) at_front in
    let screens : SameScreen s r = is.both.screens in
    effect_reads d.pictures s1 r1 w (effect_of c.command) (record { width = screens.width; pixels = screens.pixels; height = screens.height; cells = screens.cells; windows = screens.windows; trees = screens.trees; focus = screens.focus }) (λ x y. is.both.desktop_one x y) (λ x y. is.both.desktop_two x y) (λ p h.
    links_keep s r w shortened p (is.touched p (inr (subst (λ o. TouchesOldest s (executed d s w) w o p) (sym at_front) (subst (λ t. TouchesFor s t w (effect_of c.command) p) (sym after) (same_touch s w (executed_command d s w c) (effect_of c.command) p h))))))

exec_by : (d : Declared) (s r : State) (w : ℕ) (c : Numbered) → Wanted d s r (executes w) → oldest s w ≡ Some c → Reads d s r (executes w)
unfolding want_act met executed
exec_by d s r w c is at_front =
    let link : SamePart s r (part.link w) = is.touched (part.link w) (inl refl) in
    let front : oldest r w ≡ Some c = ap (option_and_then (λ l. slice_get l 0)) link ∙ at_front in
    let effect : EffectReads d.pictures (without_front s w) (without_front r w) w (effect_of c.command) = exec_reads d s r w c is at_front in
    let one : executed d s w ≡ executed_command d s w c = ap (λ o. option_map_or (executed_command d s w) o s) at_front in
    let two : executed d r w ≡ executed_command d r w c = ap (λ o. option_map_or (executed_command d r w) o r) front in
    let f : State → Pane → Numbered → Option Act = λ t pane k. Some (act.Exec k.number (effect_outcome d.pictures t w (effect_of k.command) pane)) in
    let own : SamePart s r (part.pane w) = effect.own in
    record {
      wanted = twin_wants d s r w (executes w) is.both.screens.width own is.wanted;
      granted = ap (λ o. with_both (f r) o (oldest r w)) own.0
          ∙ ap (with_both (f r) (slice_get s.panes w)) front
          ∙ same_acts (f r) (f s) (slice_get s.panes w) c (λ pane. ap (λ out. Some (act.Exec c.number out)) (sym (outcome_front d.pictures r w (effect_of c.command) pane) ∙ effect.outcome pane ∙ outcome_front d.pictures s w (effect_of c.command) pane))
          ∙ sym (ap (with_both (f s) (slice_get s.panes w)) at_front);
      kept = subst (λ t. Keeps s r t (executed d r w)) (sym one) (subst (λ t. Keeps s r (executed_command d s w c) t) (sym two)
          (both_keep s r (without_front s w) (without_front r w) (executed_command d s w c) (executed_command d r w c) (links_keep s r w shortened) effect.kept));
    }

pub reads_exec : (d : Declared) (s r : State) (w : ℕ) → Wanted d s r (executes w) → Reads d s r (executes w)
unfolding want_act
reads_exec d s r w is =
    let front : HasOldest (oldest s w) = has_oldest _ (slice_get s.panes w) (oldest s w) is.act is.granted in
    exec_by d s r w front.command is front.is
