-- A command that is no change, executed as a step.
use Rattle.std.proofs.Common.{◌≡◌, ℕ, true, List, [], ◌∷◌, Option, Some, None, ◌⊎◌, inl, inr, refl, sym, ap, ◌∙◌, subst, ⊎_elim}
use Rattle.std.specs.Prelude.{is_some, option_map, option_and_then, slice_get}
use Rattle.std.specs.Option.{option_map_or}
use Rattle.std.proofs.lemmas.Option.{same_Some}
use Rattle.be_facts.proofs.Truths.{and_first}
use Rattle.be_geom.proofs.Numbered.{number_is}
use Rattle.be_asking.specs.declared.activity.Activity.TheVariants as who
use Rattle.be_asking.specs.declared.want.Want.TheVariants as want
use Rattle.be_bitmap.specs.Pictures.{Picture}
use Rattle.be_command.specs.Effects.{Effect, at_view, changes, ends_update, effect_of}
use Rattle.be_command.specs.declared.Command.{Command}
use Rattle.be_command.specs.declared.Command.TheVariants.{EndUpdate}
use Rattle.be_hall.specs.Hands.{Hand, part_at, with_part}
use Rattle.be_link.specs.Queues.{Numbered, numbered, shortened}
use Rattle.be_machine.proofs.PixelExposed.{owned_cell_after}
use Rattle.be_machine.specs.Commands.{executed, with_effect, without_front}
use Rattle.be_machine.specs.KeptLimits.{LinkedAreWithinLimits}
use Rattle.be_machine.specs.Pixels.{owner_in}
use Rattle.be_machine.specs.State.{State}
use Rattle.be_machine.specs.Step.{met}
use Rattle.be_machine.specs.Touched as part
use Rattle.be_machine.specs.Touched.{TouchesFor, TouchesOldest}
use Rattle.be_pane.specs.Panes as machine
use Rattle.be_parts.specs.Effects.{link_with}
use Rattle.be_parts.specs.Kept.{Kept, Logged}
use Rattle.be_parts.specs.Links.{front_of}
use Rattle.be_parts.specs.Panes.{IsExecuted, IsFull}
use Rattle.be_parts.specs.Parts.{hand_with, meaning_of}
use Rattle.be_parts.specs.declared.part.Part.{Part}
use Rattle.be_parts.specs.declared.part.Part.TheVariants as kinds
use Rattle.be_rules.specs.Places.{place_of}
use Rattle.be_rules.specs.Slices.{Slice, link, link_in, pane, shown_of, slice_of}
use Rattle.be_rules.specs.Sure.{IsAmong, effect_in, effect_parts}
use Rattle.be_script.specs.Programs.{is_command_for}
use Rattle.be_script.specs.Script.{Declared}
use Rattle.be_steps.proofs.Leaving.{left_is}
use Rattle.be_steps.proofs.Making.{done, now, read, so, then_is, there}
use Rattle.be_steps.proofs.Moved.{at_map}
use Rattle.be_steps.proofs.Stays.{stays, two_made}
use Rattle.be_steps.specs.Executing.{HasPlainFront}
use Rattle.be_steps.specs.Steps.{IsAllowed, IsDone, LeavesAt}
use Rattle.be_steps.specs.There.{IsThere}
use Rattle.be_twin.proofs.PenLemmas.{command_has_pen}
use Rattle.be_twin.specs.Judged.{HasPen, IsNoChange}
use Rattle.be_asking.proofs.ExecutesAnswered.{a_pane, linked_by}

-- ---- commands

-- a command on its way sets no other pen
has_pen : (d : Declared) (w : ℕ) (c : Command) → (is_command_for d w c ≡ true) ⊎ (c ≡ EndUpdate) → HasPen (effect_of c)
has_pen d w c (inl is) = command_has_pen c (and_first _ _ is)
has_pen d w c (inr ends) = subst (λ (x : Command). HasPen (effect_of x)) (sym ends) tt

-- what comes out of the link is its oldest
popped_is : (o : Option (ℕ × Command)) (n : ℕ) (c : Command) → option_map numbered o ≡ Some (numbered (n, c)) → is_some o ≡ true
popped_is (Some x) n c is = refl
popped_is None n c is = absurd (cc)

same_command : (o : Option (ℕ × Command)) (x : ℕ × Command) (n : ℕ) (c : Command) → o ≡ Some x → option_map numbered o ≡ Some (numbered (n, c)) → x.1 ≡ c
same_command o x n c took is = ap (λ (k : Numbered). k.command) (same_Some (numbered x) (numbered (n, c)) (ap (option_map numbered) (sym took) ∙ is))

-- ---- states

by_pane : (o : Option machine.Pane) (f : machine.Pane → State) (t : State) → ((pane : machine.Pane) → (f pane).links ≡ t.links) → (option_map_or f o t).links ≡ t.links
by_pane (Some p) f t same = same p
by_pane None f t same = refl

links_stay : (pictures : List Picture) (t : State) (w : ℕ) (effect : Effect) → IsNoChange effect → (with_effect pictures t w effect).links ≡ t.links
links_stay pictures t w (at_view v deed) plain = by_pane (slice_get t.panes w) _ t (λ pane. refl)
links_stay pictures t w (changes change) plain = absurd plain
links_stay pictures t w ends_update plain = refl

touches_pane : (s r : State) (w : ℕ) (effect : Effect) (x : part.Part) → IsNoChange effect → TouchesFor s r w effect x → x ≡ part.pane w
touches_pane s r w (at_view v deed) x plain touched = touched
touches_pane s r w (changes change) x plain touched = absurd plain
touches_pane s r w ends_update x plain touched = touched

module _ (d : Declared) (old : Hand Part) (w : ℕ) (allowed : IsAllowed d old.parts (who.Twin w) (want.Executes w)) (front : HasPlainFront d old.parts w) where
  abbrev s : State
  s = now d old.parts (who.Twin w) (want.Executes w) allowed

  abbrev later : State
  later = then_is d old.parts (who.Twin w) (want.Executes w) allowed

  abbrev command : Numbered
  command = numbered (front.number, front.command)

  pub link_there : IsThere d old.parts (part.link w)
  link_there = there d old.parts (who.Twin w) (want.Executes w) allowed (part.link w) (inl refl)

  linked : (l : List Numbered) × (link_in front.oldest.link ≡ Some l) × (slice_get l 0 ≡ Some command)
  linked = linked_by (link_in front.oldest.link) command front.oldest.oldest

  links_now : slice_get s.links w ≡ Some linked.0
  links_now = ap link_in (read d old.parts (who.Twin w) (want.Executes w) allowed (part.link w) (kinds.Link front.oldest.link) link_there.reachable.there front.oldest.there) ∙ linked.1

  oldest_now : option_and_then (λ (l : List Numbered). slice_get l 0) (slice_get s.links w) ≡ Some command
  oldest_now = ap (option_and_then (λ (l : List Numbered). slice_get l 0)) links_now ∙ linked.2

  seen : option_and_then effect_in (slice_get s.links w) ≡ Some (effect_of front.command)
  seen = ap (option_and_then effect_in) links_now ∙ ap (option_map (λ (c : Numbered). effect_of c.command)) linked.2

  pub pane_there : IsThere d old.parts (part.pane w)
  pane_there =
      there d old.parts (who.Twin w) (want.Executes w) allowed (part.pane w)
      (inr (subst (IsAmong (part.pane w)) (sym (ap (effect_parts w) seen ∙ a_pane w (effect_of front.command) front.plain)) (inl refl)))

  full : IsFull s w
  full x y mine = let sound = so d old.parts (who.Twin w) (want.Executes w) allowed in owned_cell_after d sound.history w x y sound.legal (number_is w (owner_in s x y) mine)

  links_by : (o : Option Numbered) → o ≡ Some command → (option_map_or (λ (c : Numbered). with_effect d.pictures (without_front s w) w (effect_of c.command)) o s).links ≡ (without_front s w).links
  links_by o is = ap (λ p. (option_map_or (λ (c : Numbered). with_effect d.pictures (without_front s w) w (effect_of c.command)) p s).links) is ∙ links_stay d.pictures (without_front s w) w (effect_of front.command) front.plain

  link_later : slice_of later (part.link w) ≡ link_with shortened (slice_of s (part.link w))
  unfolding met executed
  link_later =
      ap (λ (links : List (List Numbered)). link w (slice_get links w)) (links_by (option_and_then (λ (l : List Numbered). slice_get l 0) (slice_get s.links w)) oldest_now)
      ∙ ap (link w) (at_map s.links w shortened)

  pane_later : slice_of later (part.pane w) ≡ pane w (shown_of (executed d s w) w)
  unfolding met
  pane_later = refl

  module _ (pp qp : ℕ) (link_spot : pp ≡ place_of d (part.link w)) (pane_spot : qp ≡ place_of d (part.pane w)) where
    pub link_in_hand : (k : Slice) × (part_at old.parts pp ≡ Some (kinds.Link k))
    link_in_hand = (front.oldest.link, ap (part_at old.parts) link_spot ∙ front.oldest.there)

    link_is : (q : Slice) → part_at old.parts pp ≡ Some (kinds.Link q) → front_of q ≡ Some command
    link_is q at =
        let same : Some (kinds.Link q) ≡ Some (kinds.Link front.oldest.link) = sym at ∙ ap (part_at old.parts) link_spot ∙ front.oldest.there in
        ap front_of (ap meaning_of (same_Some (kinds.Link q) (kinds.Link front.oldest.link) same)) ∙ front.oldest.oldest

    pub some_popped : (q : Slice) (o : Option (ℕ × Command)) → part_at old.parts pp ≡ Some (kinds.Link q) → option_map numbered o ≡ front_of q → is_some o ≡ true
    some_popped q o at popped = popped_is o front.number front.command (popped ∙ link_is q at)

    told : (x : part.Part) (place : ℕ) (b : Hand Part) (v : Slice) → IsThere d old.parts x → place ≡ place_of d x → b ≡ old → LeavesAt d b.parts (who.Twin w) place v → v ≡ slice_of later x
    told x place b v here spot copy leaves =
        left_is d old.parts (who.Twin w) (want.Executes w) allowed x here.reachable.there v
        (subst (λ n. LeavesAt d old.parts (who.Twin w) n v) spot (subst (λ (h : Hand Part). LeavesAt d h.parts (who.Twin w) place v) copy leaves))

    -- the pane stays where the link is changed
    pane_stays : (z : Slice) → part_at (with_part old.parts pp (kinds.Link z)) qp ≡ part_at old.parts qp
    pane_stays z = stays d old.parts (part.link w) (part.pane w) link_there.reachable.there pane_there.reachable.there (λ same. absurd (cc)) pp qp link_spot pane_spot (kinds.Link z)

    pub pane_in : (z : Slice) → (k : Kept) × (part_at old.parts (place_of d (part.pane w)) ≡ Some (kinds.Pane k)) → (k : Kept) × (part_at (with_part old.parts pp (kinds.Link z)) qp ≡ Some (kinds.Pane k))
    pane_in z has = (has.0, pane_stays z ∙ ap (part_at old.parts) pane_spot ∙ has.1)

    pub is_executed : LinkedAreWithinLimits → (q z v : Slice) (o : Option (ℕ × Command)) (x : ℕ × Command) (was : Kept) (b : Hand Part) (bitmaps : List Picture) → bitmaps ≡ d.pictures → b ≡ old
        → part_at old.parts pp ≡ Some (kinds.Link q) → option_map numbered o ≡ front_of q → o ≡ Some x
        → part_at (with_part old.parts pp (kinds.Link z)) qp ≡ Some (kinds.Pane was) → LeavesAt d b.parts (who.Twin w) qp v → IsExecuted bitmaps (effect_of x.1) was.slice v
    is_executed law q z v o x was b bitmaps are copy at popped took at_pane leaves =
        let sound = so d old.parts (who.Twin w) (want.Executes w) allowed in
        let same : x.1 ≡ front.command = same_command o x front.number front.command took (popped ∙ link_is q at) in
        record {
          script = d;
          state = s;
          window = w;
          command = command;
          pictures_are = are;
          oldest = oldest_now;
          effect_is = ap effect_of same;
          no_change = subst (λ (c : Command). IsNoChange (effect_of c)) (sym same) front.plain;
          pen = subst (λ (c : Command). HasPen (effect_of c)) (sym same) (has_pen d w front.command (law d sound.history w 0 linked.0 command sound.limits sound.legal links_now linked.2));
          full = full;
          before = sym (read d old.parts (who.Twin w) (want.Executes w) allowed (part.pane w) (kinds.Pane was) pane_there.reachable.there (ap (part_at old.parts) (sym pane_spot) ∙ sym (pane_stays z) ∙ at_pane));
          after_is = told (part.pane w) qp b v pane_there pane_spot copy leaves ∙ pane_later;
        }

    pub execute_done : (q z v : Slice) (was is : Kept) (b : Hand Part) → b ≡ old → part_at old.parts pp ≡ Some (kinds.Link q) → z ≡ link_with shortened q
        → part_at (with_part old.parts pp (kinds.Link z)) qp ≡ Some (kinds.Pane was) → LeavesAt d b.parts (who.Twin w) qp v → is.slice ≡ v → is.log ≡ was.log
        → IsDone d (who.Twin w) old (hand_with (hand_with old pp (kinds.Link z)) qp (kinds.Pane is))
    execute_done q z v was is b copy at short at_pane leaves slice log =
        done d old.parts (who.Twin w) (want.Executes w) allowed old (hand_with (hand_with old pp (kinds.Link z)) qp (kinds.Pane is)) ((part.link w, kinds.Link z) ∷ (part.pane w, kinds.Pane is) ∷ []) refl refl
        (two_made d old (part.link w) (part.pane w) pp qp link_spot pane_spot (kinds.Link q) (kinds.Pane was) (kinds.Link z) (kinds.Pane is) at at_pane refl (ap (λ (l : Logged). Some l) log)) (
          inr (
            link_there.reachable.there,
            link_later
                ∙ ap (link_with shortened) (read d old.parts (who.Twin w) (want.Executes w) allowed (part.link w) (kinds.Link q) link_there.reachable.there (ap (part_at old.parts) (sym link_spot) ∙ at))
                ∙ sym short,
          ),
          (inr (pane_there.reachable.there, sym (told (part.pane w) qp b v pane_there pane_spot copy leaves) ∙ sym slice), tt),
        )
        (λ x touched. ⊎_elim (λ here. inl here) (λ later'. inr (inl (touches_pane s later w (effect_of front.command) x front.plain (subst (λ o. TouchesOldest s later w o x) oldest_now later')))) touched)
