-- A twin that wants to execute the oldest command of its window.
use Rattle.std.proofs.Common.{◌≡◌, ℕ, Bool, true, false, List, [], ◌∷◌, length, Option, Some, None, ◌⊎◌, inl, inr, refl, sym, ap, ◌∙◌, subst, arith}
use Rattle.std.specs.Prelude.{ℤ, nat_lt, slice_get, option_map, option_and_then, unwrap_or, if◌then◌else◌}
use Rattle.std.proofs.lemmas.Bool.Decides.{nat_tests}
use Rattle.be_facts.proofs.Truths.{and_second}
use Rattle.be_facts.proofs.Lists.{element}
use Rattle.be_bitmap.specs.Pictures.{Picture}
use Rattle.be_command.specs.declared.Command.{Command}
use Rattle.be_command.specs.declared.Command.TheVariants as command
use Rattle.be_command.specs.Effects.{filled, framed, lined, written, pictured, Deed, draws, sets, colors, saves, restores, copies, invalidates, Effect, at_view, changes, ends_update, effect_of}
use Rattle.be_command.specs.Limits.{effect_names, is_command, names_what_is}
use Rattle.be_geom.specs.declared.point.Point.{Point}
use Rattle.be_hall.specs.Hands.{meant, part_at}
use Rattle.be_hall.specs.Machine.{IsHeld}
use Rattle.be_link.specs.Queues.{Numbered, numbered}
use Rattle.be_paint.specs.Inks.{image}
use Rattle.be_pane.specs.Panes as machine
use Rattle.be_pane.specs.StandsFor.{PaneStandsFor}
use Rattle.be_pane.specs.declared.pane.Pane as panes
use Rattle.be_script.specs.Programs.{is_command_for, view_count}
use Rattle.be_script.specs.Script.{Declared}
use Rattle.be_span.specs.declared.Cell.{Cell}
use Rattle.be_state.specs.Stacks.{Stack}
use Rattle.be_twin.specs.declared.Outcome.{Outcome}
use Rattle.be_twin.specs.declared.Outcome.TheVariants.{Done, StackFull, NoBitmap}
use Rattle.be_twin.specs.Deeds.{drawn_outcome, popped_outcome}
use Rattle.be_twin.specs.Executed.{Sight, outcome_at, sight_of}
use Rattle.be_twin.specs.Judged.{ComesOf, IsNoChange}
use Rattle.be_views.specs.Trees.{Tree}
use Rattle.be_machine.specs.Commands.{effect_outcome, sight_at}
use Rattle.be_machine.specs.declared.Act.{Act}
use Rattle.be_machine.specs.declared.Act.TheVariants as act
use Rattle.be_machine.specs.KeptLimits.{IsOnItsWay, LinkedAreWithinLimits}
use Rattle.be_machine.specs.Legal.{want_act}
use Rattle.be_machine.specs.Lists.{with_both}
use Rattle.be_machine.specs.State.{State}
use Rattle.be_machine.specs.Step.{step}
use Rattle.be_machine.specs.Touched as part
use Rattle.be_machine.specs.Wants as wants
use Rattle.be_parts.specs.Kept.{Kept}
use Rattle.be_parts.specs.Parts.{meaning_of}
use Rattle.be_parts.specs.Stands.{PaneIs, PaneShows, cell_of, has_cell}
use Rattle.be_parts.specs.declared.part.Part as parts
use Rattle.be_parts.specs.declared.part.Part.TheVariants as kinds
use Rattle.be_rules.specs.Far.{FarEffect}
use Rattle.be_rules.specs.Found.{CannotAct, NeedsPart}
use Rattle.be_rules.specs.Places.{place_of}
use Rattle.be_rules.specs.Rules.{IsSound}
use Rattle.be_rules.specs.Slices.{Slice, link_in, shown_of}
use Rattle.be_rules.specs.Sure.{IsAmong, Seen, effect_in, effect_parts, in_hand, parts_by, seen_in}
use Rattle.be_asking.specs.Deeds.{IsAsked, MayAct}
use Rattle.be_asking.specs.Executing.{HasPicture, IsOldest}
use Rattle.be_asking.specs.Finding.{IsMissing, IsReachable}
use Rattle.be_asking.specs.declared.activity.Activity.TheVariants as who
use Rattle.be_asking.specs.declared.want.Want.TheVariants as want
use Rattle.be_asking.proofs.Asked.{fits, here, link_is, may, missing, reach, s, sound, waits}
use Rattle.be_asking.proofs.InHand.{pane_read}
use Rattle.be_asking.proofs.SeenInHand.{link_found}

-- ---- outcomes without the pictures

-- only a bitmap is looked for among them
same_deed : (pictures : List Picture) (deed : Deed) (sight : Option Sight) → (outcome_at [] deed sight ≡ NoBitmap → ⊥) → outcome_at pictures deed sight ≡ outcome_at [] deed sight
unfolding outcome_at
same_deed pictures (draws (filled r pattern)) (Some sight) out = refl
same_deed pictures (draws (framed r pattern)) (Some sight) out = refl
same_deed pictures (draws (lined from to pattern)) (Some sight) out = refl
same_deed pictures (draws (written codes)) (Some sight) out = refl
same_deed pictures (draws (pictured b at)) (Some sight) out = absurd (out refl)
same_deed pictures (sets setting) (Some sight) out = refl
same_deed pictures (colors color) (Some sight) out = refl
same_deed pictures saves (Some sight) out = refl
same_deed pictures restores (Some sight) out = refl
same_deed pictures (copies source target) (Some sight) out = refl
same_deed pictures (invalidates r) (Some sight) out = refl
same_deed pictures deed None out = refl

saved_by : (b : Bool) → (if b then Done else StackFull) ≡ NoBitmap → ⊥
saved_by true is = absurd (cc)
saved_by false is = absurd (cc)

restored_by : (o : Option Stack) → popped_outcome o ≡ NoBitmap → ⊥
restored_by (Some stack) is = absurd (cc)
restored_by None is = absurd (cc)

-- a bitmap that is there is drawn
drawn : (pictures : List Picture) (v : ℕ) (deed : Deed) (sight : Option Sight) → HasPicture pictures (at_view v deed) → outcome_at [] deed sight ≡ NoBitmap → outcome_at pictures deed sight ≡ Done
unfolding outcome_at
drawn pictures v (draws (filled r pattern)) (Some sight) has is = absurd (cc)
drawn pictures v (draws (framed r pattern)) (Some sight) has is = absurd (cc)
drawn pictures v (draws (lined from to pattern)) (Some sight) has is = absurd (cc)
drawn pictures v (draws (written codes)) (Some sight) has is = absurd (cc)
drawn pictures v (draws (pictured b at)) (Some sight) has is = ap (λ o. drawn_outcome (option_map (λ (picture : Picture). image picture at) o)) (has v b at refl).1
drawn pictures v (sets setting) (Some sight) has is = absurd (cc)
drawn pictures v (colors color) (Some sight) has is = absurd (cc)
drawn pictures v saves (Some sight) has is = absurd (saved_by _ is)
drawn pictures v restores (Some sight) has is = absurd (restored_by _ is)
drawn pictures v (copies source target) (Some sight) has is = absurd (cc)
drawn pictures v (invalidates r) (Some sight) has is = absurd (cc)
drawn pictures v deed None has is = absurd (cc)

module _ (pictures : List Picture) (corner : Point) (kept : machine.Pane) (tree : Tree) where
  pub bitmap_drawn : (effect : Effect) → IsNoChange effect → HasPicture pictures effect → ComesOf [] corner tree kept effect NoBitmap → ComesOf pictures corner tree kept effect Done
  bitmap_drawn (at_view v deed) plain has comes = sym (drawn pictures v deed (sight_of corner tree kept v) has (sym comes))
  bitmap_drawn (changes change) plain has comes = absurd plain
  bitmap_drawn ends_update plain has comes = refl

  pub no_bitmap : (effect : Effect) (outcome : Outcome) → IsNoChange effect → (outcome ≡ NoBitmap → ⊥) → ComesOf [] corner tree kept effect outcome → ComesOf pictures corner tree kept effect outcome
  no_bitmap (at_view v deed) outcome plain out comes = comes ∙ sym (same_deed pictures deed (sight_of corner tree kept v) (λ is. out (comes ∙ is)))
  no_bitmap (changes change) outcome plain out comes = absurd plain
  no_bitmap ends_update outcome plain out comes = comes

-- ---- commands

-- a command on its way draws a bitmap of the script
pictured_there : (d : Declared) (w : ℕ) (c : Command) → (is_command_for d w c ≡ true) ⊎ (c ≡ command.EndUpdate) → HasPicture d.pictures (effect_of c)
unfolding names_what_is
pictured_there d w c (inl is) v b at what =
    let named : effect_names (length d.windows) (view_count d w) (length d.pictures) (effect_of c) ≡ true = and_second (is_command c) _ is in
    let lt : nat_lt b (length d.pictures) ≡ true = and_second (nat_lt v (view_count d w)) _ (ap (effect_names (length d.windows) (view_count d w) (length d.pictures)) (sym what) ∙ named) in
    element d.pictures b (grind (arith, nat_tests))
pictured_there d w c (inr ends) v b at what = let never : ends_update ≡ at_view v (draws (pictured b at)) = ap effect_of (sym ends) ∙ what in absurd (cc)

-- ---- the parts

no_front : {X Y Z : Type 0} (f : X → Y → Option Z) (o : Option X) → with_both f o None ≡ None
no_front f (Some x) = refl
no_front f None = refl

pub linked_by : (o : Option (List Numbered)) (c : Numbered) → slice_get (unwrap_or o []) 0 ≡ Some c → (l : List Numbered) × (o ≡ Some l) × (slice_get l 0 ≡ Some c)
linked_by (Some l) c is = (l, refl, is)
linked_by None c is = absurd (cc)

pub a_pane : (w : ℕ) (effect : Effect) → IsNoChange effect → effect_parts w (Some effect) ≡ part.pane w ∷ []
a_pane w (at_view v deed) plain = refl
a_pane w (changes change) plain = absurd plain
a_pane w ends_update plain = refl

near : (t r : State) (effect : Effect) (p : part.Part) → IsNoChange effect → FarEffect t r (Some effect) p → ⊥
near t r (at_view v deed) p plain far = far
near t r (changes change) p plain far = plain
near t r ends_update p plain far = far

module _ (d : Declared) (inhand : List (ℕ × parts.Part)) (a w : ℕ) (asked : IsAsked d inhand a (who.Twin w) (want.Executes w)) where
  abbrev now : State
  now = s d inhand a _ _ asked

  abbrev so : IsSound d asked.fitting.0
  so = sound d inhand a _ _ asked

  abbrev pub exec : machine.Pane → Numbered → Option Act
  exec pane c = Some (act.Exec c.number (effect_outcome d.pictures now w (effect_of c.command) pane))

  pub reach_link : IsReachable d inhand (part.link w)
  reach_link = reach d inhand a _ _ asked (part.link w) (inl refl)

  pub needs_link : (place : ℕ) → IsMissing d inhand (part.link w) place → NeedsPart d (meant meaning_of inhand) a place
  needs_link place gone = missing d inhand a _ _ asked (part.link w) place gone (inl refl)

  module _ (q : Slice) (at_link : part_at inhand (place_of d (part.link w)) ≡ Some (kinds.Link q)) (l : List Numbered) (link : link_in q ≡ Some l) where
    pub read : slice_get now.links w ≡ Some l
    read = link_is d inhand a _ _ asked w (kinds.Link q) reach_link.there at_link ∙ link

    pub acts : want_act d now (wants.executes w) ≡ with_both exec (slice_get now.panes w) (slice_get l 0)
    unfolding want_act
    acts = ap (λ o. with_both exec (slice_get now.panes w) (option_and_then (λ (link : List Numbered). slice_get link 0) o)) read

    link_alone : slice_get l 0 ≡ None → (p : part.Part) → IsAmong p (parts_by (seen_in now) (wants.executes w)) → IsHeld (meant meaning_of inhand) (place_of d p)
    link_alone none p among = alone (subst (λ o. IsAmong p (part.link w ∷ effect_parts w o)) (ap (option_and_then effect_in) read ∙ ap (option_map (λ (c : Numbered). effect_of c.command)) none) among)
      where
        alone : IsAmong p (part.link w ∷ []) → IsHeld (meant meaning_of inhand) (place_of d p)
        alone (inl is) = subst (λ x. IsHeld (meant meaning_of inhand) (place_of d x)) (sym is) (here d inhand a _ _ asked (part.link w) (kinds.Link q) at_link)
        alone (inr nobody) = absurd nobody

    pub nothing_linked : None ≡ slice_get l 0 → CannotAct d (meant meaning_of inhand) a
    nothing_linked none =
        waits d inhand a _ _ asked (λ stop. absurd (cc)) (link_alone (sym none))
        (acts ∙ ap (with_both exec (slice_get now.panes w)) (sym none) ∙ no_front exec (slice_get now.panes w))

  module _ (n : ℕ) (c : Command) (oldest : IsOldest d inhand w n c) where
    abbrev linked : (l : List Numbered) × (link_in oldest.link ≡ Some l) × (slice_get l 0 ≡ Some (numbered (n, c)))
    linked = linked_by (link_in oldest.link) (numbered (n, c)) oldest.oldest

    linked_now : slice_get now.links w ≡ Some linked.0
    linked_now = read oldest.link oldest.there linked.0 linked.1

    effect_is : effect_in linked.0 ≡ Some (effect_of c)
    effect_is = ap (option_map (λ (x : Numbered). effect_of x.command)) linked.2

    pub front_now : option_and_then (λ (l : List Numbered). slice_get l 0) (slice_get now.links w) ≡ Some (numbered (n, c))
    front_now = ap (option_and_then (λ (l : List Numbered). slice_get l 0)) linked_now ∙ linked.2

    pub oldest_now : (seen_in now).oldest w ≡ Some (effect_of c)
    oldest_now = ap (option_and_then effect_in) linked_now ∙ effect_is

    pub oldest_in_hand : (in_hand d (meant meaning_of inhand)).oldest w ≡ Some (effect_of c)
    oldest_in_hand =
        ap (option_and_then effect_in) (link_found d inhand asked.fitting.0 so (fits d inhand a _ _ asked) (kinds.Link oldest.link) w linked.0 reach_link.there oldest.there linked.1)
        ∙ effect_is

    pub link_held : IsHeld (meant meaning_of inhand) (place_of d (part.link w))
    link_held = here d inhand a _ _ asked (part.link w) (kinds.Link oldest.link) oldest.there

    -- a script may say it for this window
    pub on_its_way : LinkedAreWithinLimits → IsOnItsWay d w (numbered (n, c))
    on_its_way law = law d so.history w 0 linked.0 (numbered (n, c)) so.limits so.legal linked_now linked.2

    -- it is executed beside what is kept of the window
    pub acts_by : (kept : machine.Pane) → slice_get now.panes w ≡ Some kept → want_act d now (wants.executes w) ≡ exec kept (numbered (n, c))
    acts_by kept pane =
        acts oldest.link oldest.there linked.0 linked.1
        ∙ ap (with_both exec (slice_get now.panes w)) linked.2
        ∙ ap (λ o. with_both exec o (Some (numbered (n, c)))) pane

  module _ (n : ℕ) (c : Command) (oldest : IsOldest d inhand w n c) (plain : IsNoChange (effect_of c)) where
    shape : (x : Seen) → x.oldest w ≡ Some (effect_of c) → parts_by x (wants.executes w) ≡ part.link w ∷ part.pane w ∷ []
    shape x is = ap (λ o. part.link w ∷ effect_parts w o) is ∙ ap (λ (ps : List part.Part). part.link w ∷ ps) (a_pane w (effect_of c) plain)

    pub reach_pane : IsReachable d inhand (part.pane w)
    reach_pane = reach d inhand a _ _ asked (part.pane w) (subst (IsAmong (part.pane w)) (sym (shape (seen_in now) (oldest_now n c oldest))) (inr (inl refl)))

    pub needs_pane : (place : ℕ) → IsMissing d inhand (part.pane w) place → NeedsPart d (meant meaning_of inhand) a place
    needs_pane place gone = missing d inhand a _ _ asked (part.pane w) place gone (subst (IsAmong (part.pane w)) (sym (shape (in_hand d (meant meaning_of inhand)) (oldest_in_hand n c oldest))) (inr (inl refl)))

    module _ (k : Kept) (at_pane : part_at inhand (place_of d (part.pane w)) ≡ Some (kinds.Pane k)) where
      among : (p : part.Part) → IsAmong p (part.link w ∷ part.pane w ∷ []) → IsHeld (meant meaning_of inhand) (place_of d p)
      among p (inl is) = subst (λ x. IsHeld (meant meaning_of inhand) (place_of d x)) (sym is) (link_held n c oldest)
      among p (inr (inl is)) = subst (λ x. IsHeld (meant meaning_of inhand) (place_of d x)) (sym is) (here d inhand a _ _ asked (part.pane w) (kinds.Pane k) at_pane)
      among p (inr (inr nobody)) = absurd nobody

      there : (p : part.Part) → IsAmong p (parts_by (seen_in now) (wants.executes w)) → IsHeld (meant meaning_of inhand) (place_of d p)
      there p told = among p (subst (IsAmong p) (shape (seen_in now) (oldest_now n c oldest)) told)

      module _ (p : panes.Pane) (stands : PaneIs k.slice p) where
        shows : PaneShows w (shown_of now w) p
        shows = subst (λ (o : Slice). PaneIs o p) (sym (pane_read d inhand asked.fitting.0 so asked.fitting.2 (kinds.Pane k) w reach_pane.there at_pane)) stands

        -- what the pane tells is the machine's
        comes_by : (effect : Effect) (outcome : Outcome) → IsNoChange effect → ComesOf d.pictures shows.corner shows.tree shows.kept effect outcome → effect_outcome d.pictures now w effect shows.kept ≡ outcome
        comes_by (at_view v deed) outcome same comes =
            let sight : sight_at now w v shows.kept ≡ sight_of shows.corner shows.tree shows.kept v =
            λ i. with_both (λ corner tree. sight_of corner tree shows.kept v) (shows.is_corner i) (shows.is_tree i) in
            ap (outcome_at d.pictures deed) sight ∙ sym comes
        comes_by (changes change) outcome same comes = absurd same
        comes_by ends_update outcome same comes = sym comes

        pub executes : LinkedAreWithinLimits → (outcome : Outcome)
            → ((pictures : List Picture) → HasPicture pictures (effect_of c) → (u : ℕ) (corner : Point) (kept : machine.Pane) (tree : Tree) (owned : ℤ → ℤ → Bool) (cells : ℤ → ℤ → Cell) → PaneStandsFor p u corner kept tree owned cells → ComesOf pictures corner tree kept (effect_of c) outcome)
            → MayAct d (meant meaning_of inhand) a (act.Exec n outcome)
        executes law outcome judged =
            let later : State = step d now (record { actor = a; act = act.Exec n outcome }) in
            let comes : ComesOf d.pictures shows.corner shows.tree shows.kept (effect_of c) outcome =
            judged d.pictures (pictured_there d w c (on_its_way n c oldest law)) w shows.corner shows.kept shows.tree (has_cell (shown_of now w)) (cell_of (shown_of now w)) shows.stands in
            may d inhand a _ _ asked (act.Exec n outcome) (λ x far. absurd (near now later (effect_of c) x plain (subst (λ o. FarEffect now later o x) (oldest_now n c oldest) far))) there
            (acts_by n c oldest shows.kept shows.is_kept ∙ ap (λ (o : Outcome). Some (act.Exec n o)) (comes_by (effect_of c) outcome plain comes))
