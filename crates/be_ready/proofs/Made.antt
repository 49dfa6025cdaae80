-- The message that is asked for, made of the draft at which the runner is.
use Rattle.std.proofs.Common.{◌≡◌, ℕ, ◌≤◌, true, false, List, Option, Some, None, inl, refl, sym, ap, ◌∙◌, subst}
use Rattle.std.specs.Prelude.{is_some, slice_get, option_map, option_and_then}
use Rattle.std.proofs.lemmas.Option.{same_Some}
use Rattle.be_actor.proofs.ConditionLemmas.{draft_keeps_fields}
use Rattle.be_actor.specs.Conditions.{HasCurrent, keeps_fields}
use Rattle.be_actor.specs.Drafts.{DraftWords, filled}
use Rattle.be_actor.specs.Limits.{is_draft}
use Rattle.be_asking.proofs.Asked.{own, reach}
use Rattle.be_asking.proofs.InHand.{cell_read, looper_read}
use Rattle.be_asking.proofs.PostsAnswered.{own_held}
use Rattle.be_asking.specs.Wants.{message_of, runner_in, want_in, wish_in}
use Rattle.be_asking.specs.declared.activity.Activity.TheVariants as who
use Rattle.be_asking.specs.declared.activity.Runner.{Runner}
use Rattle.be_asking.specs.declared.activity.Runner.TheVariants as by
use Rattle.be_asking.specs.declared.want.Request.{Request}
use Rattle.be_asking.specs.declared.want.Request.TheVariants as request
use Rattle.be_asking.specs.declared.want.Want.TheVariants as want
use Rattle.be_hall.specs.Hands.{meant, part_at}
use Rattle.be_hall.specs.Machine.{Fits}
use Rattle.be_looper.specs.Duties.{Hand}
use Rattle.be_machine.proofs.KeptLetterSteps.{shallow_hand}
use Rattle.be_machine.specs.Activities as machine
use Rattle.be_machine.proofs.BodyWishes.{IsHandling, hand_asks}
use Rattle.be_machine.specs.Program as program
use Rattle.be_machine.specs.Program.{hand_in}
use Rattle.be_machine.specs.State.{State}
use Rattle.be_machine.specs.Touched as part
use Rattle.be_machine.specs.Touched.{own_part}
use Rattle.be_machine.specs.Wants as wants
use Rattle.be_message.specs.Depths.{depth_of}
use Rattle.be_message.specs.Messages.{Message}
use Rattle.be_parts.specs.Kept.{Kept}
use Rattle.be_parts.specs.Loopers.{hand_of}
use Rattle.be_parts.specs.Parts.{meaning_of}
use Rattle.be_parts.specs.declared.part.Part.{Part}
use Rattle.be_parts.specs.declared.part.Part.TheVariants as kinds
use Rattle.be_ready.proofs.DraftsThere.{IsGood, IsGoodBody, app_good, body_good, made_for, without_current}
use Rattle.be_ready.specs.Letters.{Asks, IsMade, draft_asked, draft_by, draft_of_app, draft_of_looper}
use Rattle.be_rules.proofs.Lawfully.{back, state}
use Rattle.be_rules.specs.Places.{place_of}
use Rattle.be_rules.specs.Rules.{IsSound}
use Rattle.be_rules.specs.Slices.{Slice, app_in, looper_in, state_of}
use Rattle.be_script.specs.Script.{Declared}
use Rattle.be_steps.specs.There.{IsThere}

-- ---- what is asked for

-- the draft that is asked for makes the wish's message
made_is : (now : Option Message) (q : Request) → made_for (wish_in now q) ≡ option_map (λ draft. filled draft now) (draft_asked q)
made_is now (request.Post w target draft) = refl
made_is now (request.Send w target draft) = refl
made_is now (request.Reply draft) = refl
made_is now (request.Note text) = refl
made_is now (request.Forward w target) = refl
made_is now request.Claim = refl
made_is now (request.Lock w) = refl
made_is now request.Unlock = refl
made_is now request.Flush = refl
made_is now request.SyncDone = refl
made_is now (request.Draw command) = refl

some_by : (o : Option DraftWords) → is_some o ≡ true → (draft : DraftWords) × (o ≡ Some draft)
some_by (Some draft) e = (draft, refl)
some_by None e = absurd (cc)

module _ (d : Declared) (inhand : List (ℕ × Part)) (r : Runner) (q : Request) (asks : Asks d inhand r q) where
  -- the runner's own part is in hand
  pub own_there : IsThere d inhand (own_part (runner_in r))
  own_there = record {
    reachable = reach d inhand asks.0 (who.Runner r) (want.Asks r q) asks.1 (own_part (runner_in r)) (inl refl);
    held = own_held d (meant meaning_of inhand) asks.1.fitting.0 r (own d inhand asks.0 (who.Runner r) (want.Asks r q) asks.1);
  }

  abbrev pub now_in : State → Option Message
  now_in t = message_of t (machine.runner (runner_in r))

  pub wants_it : (all : List Slice) (sound : IsSound d all) → Fits all (meant meaning_of inhand) → wants.want_of d (state d all sound) (machine.runner (runner_in r)) ≡ Some (wants.asks (runner_in r) (wish_in (now_in (state d all sound)) q))
  wants_it all sound fits =
      subst (λ (t : State). wants.want_of d t (machine.runner (runner_in r)) ≡ Some (want_in (now_in t) (want.Asks r q))) (back d all sound)
      (asks.1.wanted all sound fits).0

-- ---- an application's

module _ (d : Declared) (inhand : List (ℕ × Part)) (m : ℕ) (q : Request) (asks : Asks d inhand (by.App m) q) (makes : is_some (draft_asked q) ≡ true) (k : Kept) (at : part_at inhand (place_of d (part.cell m)) ≡ Some (kinds.Cell k)) where
  abbrev app_asked : (draft : DraftWords) × (draft_asked q ≡ Some draft)
  app_asked = some_by (draft_asked q) makes

  app_here : (all : List Slice) → IsSound d all → Fits all (meant meaning_of inhand) → IsGood false None (draft_of_app d m k.slice) (filled app_asked.0 None)
  app_here all sound fits =
      app_good d (state d all sound) m (wish_in None q) (filled app_asked.0 None) asks.1.limits
      (made_is None q ∙ ap (option_map (λ draft. filled draft None)) app_asked.1)
      (wants_it d inhand (by.App m) q asks all sound fits) (app_in k.slice)
      (cell_read d inhand all sound fits (kinds.Cell k) m (own_there d inhand (by.App m) q asks).reachable.there at)

  app_first : IsGood false None (draft_of_app d m k.slice) (filled app_asked.0 None)
  app_first = app_here asks.1.fitting.0 asks.1.fitting.1 asks.1.fitting.2

  -- there is one
  pub app_some : None ≡ draft_of_app d m k.slice → ⊥
  app_some none = let never : None ≡ Some app_first.draft = none ∙ app_first.read in cc

  module _ (draft : DraftWords) (found : Some draft ≡ draft_of_app d m k.slice) where
    app_fits : is_draft false draft ≡ true
    app_fits = subst (λ x. is_draft false x ≡ true) (same_Some app_first.draft draft (sym app_first.read ∙ sym found)) app_first.fits

    pub app_keeps : keeps_fields draft ≡ true
    app_keeps = draft_keeps_fields false draft app_fits

    pub app_current : HasCurrent draft.words None
    app_current = without_current draft app_fits

    pub app_made : (message : Message) → message ≡ filled draft None → IsMade d inhand (by.App m) q message
    app_made message is all sound fits =
        let good : IsGood false None (draft_of_app d m k.slice) (filled app_asked.0 None) = app_here all sound fits in
        let same : good.draft ≡ draft = same_Some good.draft draft (sym good.read ∙ sym found) in
        ap (option_map (λ x. filled x None)) app_asked.1 ∙ ap Some (sym good.is ∙ ap (λ x. filled x None) same ∙ sym is)

-- ---- a looper's

module _ (d : Declared) (inhand : List (ℕ × Part)) (w : ℕ) (q : Request) (asks : Asks d inhand (by.Looper w) q) (k : Kept) (at : part_at inhand (place_of d (part.looper w)) ≡ Some (kinds.Looper k)) where
  looper_there : (all : List Slice) (sound : IsSound d all) → Fits all (meant meaning_of inhand) → slice_get (state d all sound).loopers w ≡ looper_in k.slice
  looper_there all sound fits = looper_read d inhand all sound fits (kinds.Looper k) w (own_there d inhand (by.Looper w) q asks).reachable.there at

  -- the letter in its hand, by its part
  pub hand_is : (all : List Slice) → IsSound d all → Fits all (meant meaning_of inhand) → program.hand_of (state_of d all) (machine.looper w) ≡ hand_of k.slice
  hand_is all sound fits = ap (λ (t : State). program.hand_of t (machine.looper w)) (back d all sound) ∙ ap (option_and_then hand_in) (looper_there all sound fits)

  -- it has one
  pub in_hand : (hand : Hand Message) × (hand_of k.slice ≡ Some hand)
  in_hand =
      let all = asks.1.fitting.0 in
      let sound = asks.1.fitting.1 in
      let holds : IsHandling (state d all sound) w = hand_asks d (state d all sound) w _ (wants_it d inhand (by.Looper w) q asks all sound asks.1.fitting.2) in
      (holds.hand, ap (option_and_then hand_in) (sym (looper_there all sound asks.1.fitting.2) ∙ holds.read))

  module _ (makes : is_some (draft_asked q) ≡ true) where
    abbrev body_asked : (draft : DraftWords) × (draft_asked q ≡ Some draft)
    body_asked = some_by (draft_asked q) makes

    -- what is said in one list
    abbrev said : (all : List Slice) → IsSound d all → Message
    said all sound = filled body_asked.0 (now_in d inhand (by.Looper w) q asks (state d all sound))

    body_here : (all : List Slice) (sound : IsSound d all) → Fits all (meant meaning_of inhand) → IsGoodBody d w (looper_in k.slice) (said all sound)
    body_here all sound fits =
        let now = now_in d inhand (by.Looper w) q asks (state d all sound) in
        body_good d (state d all sound) w (wish_in now q) (said all sound) asks.1.limits
        (made_is now q ∙ ap (option_map (λ draft. filled draft now)) body_asked.1)
        (wants_it d inhand (by.Looper w) q asks all sound fits) (looper_in k.slice) (looper_there all sound fits)

    body_first : IsGoodBody d w (looper_in k.slice) (said asks.1.fitting.0 asks.1.fitting.1)
    body_first = body_here asks.1.fitting.0 asks.1.fitting.1 asks.1.fitting.2

    -- the draft of a good body is the looper's
    body_read : (message : Message) (is : IsGoodBody d w (looper_in k.slice) message) → draft_of_looper d w k.slice ≡ Some is.good.draft
    body_read message is = ap (option_and_then (draft_by d w)) is.held ∙ is.good.read

    -- there is one
    pub body_some : None ≡ draft_of_looper d w k.slice → ⊥
    body_some none = let never : None ≡ Some body_first.good.draft = none ∙ body_read _ body_first in cc

    module _ (draft : DraftWords) (found : Some draft ≡ draft_of_looper d w k.slice) where
      body_same : (message : Message) (is : IsGoodBody d w (looper_in k.slice) message) → is.good.draft ≡ draft
      body_same message is = same_Some is.good.draft draft (sym (body_read message is) ∙ sym found)

      pub body_keeps : keeps_fields draft ≡ true
      body_keeps = draft_keeps_fields true draft (subst (λ x. is_draft true x ≡ true) (body_same _ body_first) body_first.good.fits)

      -- the message in hand lies so deep at most
      shallow : depth_of body_first.hand.letter.body ≤ 15
      shallow =
          let sound = asks.1.fitting.1 in
          shallow_hand d sound.history w body_first.hand sound.limits sound.legal
          (ap (option_and_then hand_in) (looper_there asks.1.fitting.0 sound asks.1.fitting.2 ∙ body_first.held))

      module _ (current : Option Message) (now : current ≡ option_map (λ (hand : Hand Message). hand.letter.body) (hand_of k.slice)) where
        current_is : (message : Message) (is : IsGoodBody d w (looper_in k.slice) message) → current ≡ Some is.hand.letter.body
        current_is message is = now ∙ ap (λ o. option_map (λ (hand : Hand Message). hand.letter.body) (option_and_then hand_in o)) is.held

        pub body_current : HasCurrent draft.words current
        body_current = subst (HasCurrent draft.words) (sym (current_is _ body_first)) (λ takes. shallow)

        pub body_made : (message : Message) → message ≡ filled draft current → IsMade d inhand (by.Looper w) q message
        body_made message is all sound fits =
            let here : IsGoodBody d w (looper_in k.slice) (said all sound) = body_here all sound fits in
            ap (option_map (λ x. filled x (now_in d inhand (by.Looper w) q asks (state_of d all)))) body_asked.1
            ∙ ap Some
            (ap (λ (t : State). filled body_asked.0 (now_in d inhand (by.Looper w) q asks t)) (back d all sound)
            ∙ sym here.good.is
            ∙ ap (λ x. filled x (Some here.hand.letter.body)) (body_same _ here)
            ∙ ap (filled draft) (sym (current_is _ here))
            ∙ sym is)
