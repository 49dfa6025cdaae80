-- A runner that wants something of the window whose looper it owns.
use Rattle.std.proofs.Common.{◌≡◌, ℕ, ◌≤◌, true, List, [], ◌∷◌, ◌++◌, Option, Some, None, inl, inr, refl, sym, ap, ◌∙◌, subst}
use Rattle.std.specs.Prelude.{slice_get, option_and_then}
use Rattle.std.specs.Option.{IfSome}
use Rattle.std.specs.Borrow.{Bor}
use Rattle.be_actor.specs.declared.Wish.TheVariants as wish
use Rattle.be_hall.specs.Hands.{meant, part_at}
use Rattle.be_hall.specs.Machine.{IsHeld}
use Rattle.be_message.specs.Messages.{Message}
use Rattle.be_script.specs.Script.{Declared}
use Rattle.be_machine.specs.Activities as machine
use Rattle.be_machine.specs.declared.Act.{Act}
use Rattle.be_machine.specs.declared.Act.TheVariants as act
use Rattle.be_command.specs.declared.Command.{Command}
use Rattle.be_link.specs.Queues.{Buffer}
use Rattle.be_machine.specs.Legal.{want_act, wish_act}
use Rattle.be_machine.specs.Lists.{with_both}
use Rattle.be_machine.specs.Program.{window_of}
use Rattle.be_machine.specs.State.{State}
use Rattle.be_machine.specs.Touched as part
use Rattle.be_machine.specs.Touched.{own_part}
use Rattle.be_machine.specs.Wants as wants
use Rattle.be_parts.specs.Kept.{Kept}
use Rattle.be_parts.specs.Parts.{meaning_of}
use Rattle.be_parts.specs.declared.part.Part as parts
use Rattle.be_parts.specs.declared.part.Part.TheVariants as kinds
use Rattle.be_rules.specs.Found.{CannotAct, NeedsPart}
use Rattle.be_rules.specs.Places.{place_of}
use Rattle.be_rules.specs.Slices.{Slice, buffer_in, link_in}
use Rattle.be_rules.specs.Sure.{IsAmong, parts_by, maybe, owned_window, parts_for, seen_in}
use Rattle.be_rules.proofs.Lawfully.{back}
use Rattle.be_actor.specs.Drafts.{DraftWords, filled}
use Rattle.be_asking.specs.Acts.{OwnsWindow, draw_by, flush_by, is_own, sync_by}
use Rattle.be_asking.specs.Deeds.{IsAsked, MayAct}
use Rattle.be_asking.specs.Finding.{IsMissing, IsReachable}
use Rattle.be_asking.specs.Wants.{message_of, runner_in, wish_in}
use Rattle.be_asking.specs.declared.activity.Activity.TheVariants as who
use Rattle.be_asking.specs.declared.activity.Runner.{Runner}
use Rattle.be_asking.specs.declared.activity.Runner.TheVariants as by
use Rattle.be_asking.specs.declared.want.Request.{Request}
use Rattle.be_asking.specs.declared.want.Request.TheVariants as request
use Rattle.be_asking.specs.declared.want.Want.TheVariants as want
use Rattle.be_asking.proofs.Asked.{buffer_is, fits, here, link_is, may, missing, own, reach, s, sound, waits}
use Rattle.be_asking.proofs.PostsAnswered.{own_held}
use Rattle.be_asking.proofs.Small.{small, small_buffer}

-- the window that the runner owns, in the one state
module _ (d : Declared) (inhand : List (ℕ × parts.Part)) (a : ℕ) (r : Runner) (w : ℕ) (q : Request) (asked : IsAsked d inhand a (who.Runner r) (want.Asks r q)) (owns : OwnsWindow d inhand r (Some w)) where
  window_here : window_of (s d inhand a _ _ asked) (runner_in r) ≡ Some w
  window_here = ap (λ (t : State). window_of t (runner_in r)) (sym (back d asked.fitting.0 (sound d inhand a _ _ asked))) ∙ owns.1 asked.fitting.0 (sound d inhand a _ _ asked) (fits d inhand a _ _ asked)

  seen_owns : owned_window (seen_in (s d inhand a _ _ asked)) (runner_in r) ≡ Some w
  seen_owns = by_runner r window_here
    where
      by_runner : (x : Runner) → window_of (s d inhand a _ _ asked) (runner_in x) ≡ Some w → owned_window (seen_in (s d inhand a _ _ asked)) (runner_in x) ≡ Some w
      by_runner (by.App m) e = e
      by_runner (by.Looper v) e = e

-- ---- unlock

module _ (d : Declared) (inhand : List (ℕ × parts.Part)) (a : ℕ) (r : Runner) (w : ℕ) (asked : IsAsked d inhand a (who.Runner r) (want.Asks r request.Unlock)) (owns : OwnsWindow d inhand r (Some w)) where
  abbrev unlock_now : State
  unlock_now = s d inhand a _ _ asked

  abbrev unlock_want : wants.Want
  unlock_want = wants.asks (runner_in r) wish.Unlock

  unlock_seen : owned_window (seen_in unlock_now) (runner_in r) ≡ Some w
  unlock_seen = seen_owns d inhand a r w _ asked owns

  pub unlock_reach_looper : IsReachable d inhand (part.looper w)
  unlock_reach_looper = reach d inhand a _ _ asked (part.looper w) (inr (subst (λ o. IsAmong (part.looper w) (maybe part.looper o)) (sym unlock_seen) (inl refl)))

  pub unlock_needs_looper : (place : ℕ) → IsMissing d inhand (part.looper w) place → NeedsPart d (meant meaning_of inhand) a place
  unlock_needs_looper place gone = missing d inhand a _ _ asked (part.looper w) place gone (inr (subst (λ o. IsAmong (part.looper w) (maybe part.looper o)) (sym owns.0) (inl refl)))

  module _ (l : Kept) (at_looper : part_at inhand (place_of d (part.looper w)) ≡ Some (kinds.Looper l)) where
    unlock_there : (p : part.Part) → IsAmong p (parts_by (seen_in unlock_now) unlock_want) → IsHeld (meant meaning_of inhand) (place_of d p)
    unlock_there p (inl is) = subst (λ x. IsHeld (meant meaning_of inhand) (place_of d x)) (sym is) (own_held d (meant meaning_of inhand) asked.fitting.0 r (own d inhand a _ _ asked))
    unlock_there p (inr later) = those (subst (λ o. IsAmong p (maybe part.looper o)) unlock_seen later)
      where
        those : IsAmong p (part.looper w ∷ []) → IsHeld (meant meaning_of inhand) (place_of d p)
        those (inl is) = subst (λ x. IsHeld (meant meaning_of inhand) (place_of d x)) (sym is) (here d inhand a _ _ asked (part.looper w) (kinds.Looper l) at_looper)
        those (inr nobody) = absurd nobody

    unlock_acts : want_act d unlock_now unlock_want ≡ Some (act.Unlock w)
    unfolding want_act wish_act
    unlock_acts = ap (option_and_then (λ n. Some (act.Unlock n))) (window_here d inhand a r w _ asked owns)

    pub unlocks : MayAct d (meant meaning_of inhand) a (act.Unlock w)
    unlocks = may d inhand a _ _ asked (act.Unlock w) (λ p far. absurd far) unlock_there unlock_acts

-- ---- flush

module _ (d : Declared) (inhand : List (ℕ × parts.Part)) (a : ℕ) (r : Runner) (w : ℕ) (asked : IsAsked d inhand a (who.Runner r) (want.Asks r request.Flush)) (owns : OwnsWindow d inhand r (Some w)) where
  abbrev flush_now : State
  flush_now = s d inhand a _ _ asked

  abbrev flush_want : wants.Want
  flush_want = wants.asks (runner_in r) wish.Flush

  flush_seen : owned_window (seen_in flush_now) (runner_in r) ≡ Some w
  flush_seen = seen_owns d inhand a r w _ asked owns

  pub flush_reach_looper : IsReachable d inhand (part.looper w)
  flush_reach_looper = reach d inhand a _ _ asked (part.looper w) (inr (subst (λ o. IsAmong (part.looper w) (maybe part.looper o ++ maybe part.link o)) (sym flush_seen) (inl refl)))

  pub flush_needs_looper : (place : ℕ) → IsMissing d inhand (part.looper w) place → NeedsPart d (meant meaning_of inhand) a place
  flush_needs_looper place gone = missing d inhand a _ _ asked (part.looper w) place gone (inr (subst (λ o. IsAmong (part.looper w) (maybe part.looper o ++ maybe part.link o)) (sym owns.0) (inl refl)))

  pub flush_reach_link : IsReachable d inhand (part.link w)
  flush_reach_link = reach d inhand a _ _ asked (part.link w) (inr (subst (λ o. IsAmong (part.link w) (maybe part.looper o ++ maybe part.link o)) (sym flush_seen) (inr (inl refl))))

  pub flush_needs_link : (place : ℕ) → IsMissing d inhand (part.link w) place → NeedsPart d (meant meaning_of inhand) a place
  flush_needs_link place gone = missing d inhand a _ _ asked (part.link w) place gone (inr (subst (λ o. IsAmong (part.link w) (maybe part.looper o ++ maybe part.link o)) (sym owns.0) (inr (inl refl))))

  module _ (l : Kept) (at_looper : part_at inhand (place_of d (part.looper w)) ≡ Some (kinds.Looper l)) (k : Slice) (at_link : part_at inhand (place_of d (part.link w)) ≡ Some (kinds.Link k)) where
    flush_there : (p : part.Part) → IsAmong p (parts_by (seen_in flush_now) flush_want) → IsHeld (meant meaning_of inhand) (place_of d p)
    flush_there p (inl is) = subst (λ x. IsHeld (meant meaning_of inhand) (place_of d x)) (sym is) (own_held d (meant meaning_of inhand) asked.fitting.0 r (own d inhand a _ _ asked))
    flush_there p (inr later) = those (subst (λ o. IsAmong p (maybe part.looper o ++ maybe part.link o)) flush_seen later)
      where
        those : IsAmong p (part.looper w ∷ part.link w ∷ []) → IsHeld (meant meaning_of inhand) (place_of d p)
        those (inl is) = subst (λ x. IsHeld (meant meaning_of inhand) (place_of d x)) (sym is) (here d inhand a _ _ asked (part.looper w) (kinds.Looper l) at_looper)
        those (inr (inl is)) = subst (λ x. IsHeld (meant meaning_of inhand) (place_of d x)) (sym is) (here d inhand a _ _ asked (part.link w) (kinds.Link k) at_link)
        those (inr (inr nobody)) = absurd nobody

    flush_acts : want_act d flush_now flush_want ≡ with_both (flush_by w) (buffer_in l.slice) (link_in k)
    unfolding want_act wish_act
    flush_acts =
        ap (option_and_then (λ n. with_both (flush_by n) (slice_get flush_now.buffers n) (slice_get flush_now.links n))) (window_here d inhand a r w _ asked owns)
        ∙ ap (λ o. with_both (flush_by w) o (slice_get flush_now.links w)) (buffer_is d inhand a _ _ asked w (kinds.Looper l) flush_reach_looper.there at_looper)
        ∙ ap (with_both (flush_by w) (buffer_in l.slice)) (link_is d inhand a _ _ asked w (kinds.Link k) flush_reach_link.there at_link)

    pub flush_waits : with_both (flush_by w) (buffer_in l.slice) (link_in k) ≡ None → CannotAct d (meant meaning_of inhand) a
    flush_waits none = waits d inhand a _ _ asked (λ stop. absurd (cc)) flush_there (flush_acts ∙ none)

    pub flushes : (act : Act) → with_both (flush_by w) (buffer_in l.slice) (link_in k) ≡ Some act → MayAct d (meant meaning_of inhand) a act
    flushes act some = may d inhand a _ _ asked act (λ p far. absurd far) flush_there (flush_acts ∙ some)

-- ---- sync

module _ (d : Declared) (inhand : List (ℕ × parts.Part)) (a : ℕ) (r : Runner) (w : ℕ) (asked : IsAsked d inhand a (who.Runner r) (want.Asks r request.SyncDone)) (owns : OwnsWindow d inhand r (Some w)) where
  abbrev sync_now : State
  sync_now = s d inhand a _ _ asked

  abbrev sync_want : wants.Want
  sync_want = wants.asks (runner_in r) wish.SyncDone

  sync_seen : owned_window (seen_in sync_now) (runner_in r) ≡ Some w
  sync_seen = seen_owns d inhand a r w _ asked owns

  pub sync_reach_link : IsReachable d inhand (part.link w)
  sync_reach_link = reach d inhand a _ _ asked (part.link w) (inr (subst (λ o. IsAmong (part.link w) (maybe part.link o)) (sym sync_seen) (inl refl)))

  pub sync_needs_link : (place : ℕ) → IsMissing d inhand (part.link w) place → NeedsPart d (meant meaning_of inhand) a place
  sync_needs_link place gone = missing d inhand a _ _ asked (part.link w) place gone (inr (subst (λ o. IsAmong (part.link w) (maybe part.link o)) (sym owns.0) (inl refl)))

  module _ (k : Slice) (at_link : part_at inhand (place_of d (part.link w)) ≡ Some (kinds.Link k)) where
    sync_there : (p : part.Part) → IsAmong p (parts_by (seen_in sync_now) sync_want) → IsHeld (meant meaning_of inhand) (place_of d p)
    sync_there p (inl is) = subst (λ x. IsHeld (meant meaning_of inhand) (place_of d x)) (sym is) (own_held d (meant meaning_of inhand) asked.fitting.0 r (own d inhand a _ _ asked))
    sync_there p (inr later) = those (subst (λ o. IsAmong p (maybe part.link o)) sync_seen later)
      where
        those : IsAmong p (part.link w ∷ []) → IsHeld (meant meaning_of inhand) (place_of d p)
        those (inl is) = subst (λ x. IsHeld (meant meaning_of inhand) (place_of d x)) (sym is) (here d inhand a _ _ asked (part.link w) (kinds.Link k) at_link)
        those (inr nobody) = absurd nobody

    sync_acts : want_act d sync_now sync_want ≡ option_and_then (sync_by w) (link_in k)
    unfolding want_act wish_act
    sync_acts =
        ap (option_and_then (λ n. option_and_then (sync_by n) (slice_get sync_now.links n))) (window_here d inhand a r w _ asked owns)
        ∙ ap (option_and_then (sync_by w)) (link_is d inhand a _ _ asked w (kinds.Link k) sync_reach_link.there at_link)

    pub sync_waits : option_and_then (sync_by w) (link_in k) ≡ None → CannotAct d (meant meaning_of inhand) a
    sync_waits none = waits d inhand a _ _ asked (λ stop. absurd (cc)) sync_there (sync_acts ∙ none)

    pub syncs : (act : Act) → option_and_then (sync_by w) (link_in k) ≡ Some act → MayAct d (meant meaning_of inhand) a act
    syncs act some = may d inhand a _ _ asked act (λ p far. absurd far) sync_there (sync_acts ∙ some)

-- ---- draw

module _ (d : Declared) (inhand : List (ℕ × parts.Part)) (a : ℕ) (r : Runner) (w : ℕ) (command : Bor Command) (asked : IsAsked d inhand a (who.Runner r) (want.Asks r (request.Draw command))) (owns : OwnsWindow d inhand r (Some w)) where
  abbrev draw_now : State
  draw_now = s d inhand a _ _ asked

  abbrev draw_want : wants.Want
  draw_want = wants.asks (runner_in r) (wish.Draw command.now)

  draw_seen : owned_window (seen_in draw_now) (runner_in r) ≡ Some w
  draw_seen = seen_owns d inhand a r w _ asked owns

  pub draw_reach_looper : IsReachable d inhand (part.looper w)
  draw_reach_looper = reach d inhand a _ _ asked (part.looper w) (inr (subst (λ o. IsAmong (part.looper w) (maybe part.looper o)) (sym draw_seen) (inl refl)))

  pub draw_needs_looper : (place : ℕ) → IsMissing d inhand (part.looper w) place → NeedsPart d (meant meaning_of inhand) a place
  draw_needs_looper place gone = missing d inhand a _ _ asked (part.looper w) place gone (inr (subst (λ o. IsAmong (part.looper w) (maybe part.looper o)) (sym owns.0) (inl refl)))

  module _ (l : Kept) (at_looper : part_at inhand (place_of d (part.looper w)) ≡ Some (kinds.Looper l)) where
    draw_there : (p : part.Part) → IsAmong p (parts_by (seen_in draw_now) draw_want) → IsHeld (meant meaning_of inhand) (place_of d p)
    draw_there p (inl is) = subst (λ x. IsHeld (meant meaning_of inhand) (place_of d x)) (sym is) (own_held d (meant meaning_of inhand) asked.fitting.0 r (own d inhand a _ _ asked))
    draw_there p (inr later) = those (subst (λ o. IsAmong p (maybe part.looper o)) draw_seen later)
      where
        those : IsAmong p (part.looper w ∷ []) → IsHeld (meant meaning_of inhand) (place_of d p)
        those (inl is) = subst (λ x. IsHeld (meant meaning_of inhand) (place_of d x)) (sym is) (here d inhand a _ _ asked (part.looper w) (kinds.Looper l) at_looper)
        those (inr nobody) = absurd nobody

    draw_acts : want_act d draw_now draw_want ≡ option_and_then (draw_by w) (buffer_in l.slice)
    unfolding want_act wish_act
    draw_acts =
        ap (option_and_then (λ n. option_and_then (draw_by n) (slice_get draw_now.buffers n))) (window_here d inhand a r w _ asked owns)
        ∙ ap (option_and_then (draw_by w)) (buffer_is d inhand a _ _ asked w (kinds.Looper l) draw_reach_looper.there at_looper)

    pub draw_waits : option_and_then (draw_by w) (buffer_in l.slice) ≡ None → CannotAct d (meant meaning_of inhand) a
    draw_waits none = waits d inhand a _ _ asked (λ stop. absurd (cc)) draw_there (draw_acts ∙ none)

    pub draws : (act : Act) → option_and_then (draw_by w) (buffer_in l.slice) ≡ Some act → MayAct d (meant meaning_of inhand) a act
    draws act some = may d inhand a _ _ asked act (λ p far. absurd far) draw_there (draw_acts ∙ some)

    few_by : (o : Option Buffer) → buffer_in l.slice ≡ o → IfSome o (λ b. b.made ≤ 4611686018427387904)
    few_by (Some b) e = small_buffer 4611686018427387904 l.slice b (small 4611686018427387904 inhand (place_of d (part.looper w)) (kinds.Looper l) asked.small at_looper) e
    few_by None e = tt

    pub few_made : IfSome (buffer_in l.slice) (λ b. b.made ≤ 4611686018427387904)
    few_made = few_by (buffer_in l.slice) refl

-- ---- who owns none

module _ (d : Declared) (inhand : List (ℕ × parts.Part)) (a : ℕ) (r : Runner) (q : Request) (asked : IsAsked d inhand a (who.Runner r) (want.Asks r q)) where
  abbrev at_all : State
  at_all = s d inhand a _ _ asked

  abbrev for_all : wants.Want
  for_all = wants.asks (runner_in r) (wish_in (message_of at_all (machine.runner (runner_in r))) q)

  pub reach_runner : IsReachable d inhand (own_part (runner_in r))
  reach_runner = reach d inhand a _ _ asked (own_part (runner_in r)) (inl refl)

  pub needs_runner : (place : ℕ) → IsMissing d inhand (own_part (runner_in r)) place → NeedsPart d (meant meaning_of inhand) a place
  needs_runner place gone = missing d inhand a _ _ asked (own_part (runner_in r)) place gone (inl refl)

  -- its own part alone is touched, and it can't
  idle : parts_for (seen_in at_all) (runner_in r) (wish_in (message_of at_all (machine.runner (runner_in r))) q) ≡ [] → want_act d at_all for_all ≡ None → CannotAct d (meant meaning_of inhand) a
  idle none nothing = waits d inhand a _ _ asked (λ stop. absurd (cc)) own_alone nothing
    where
      own_alone : (p : part.Part) → IsAmong p (parts_by (seen_in at_all) for_all) → IsHeld (meant meaning_of inhand) (place_of d p)
      own_alone p (inl is) = subst (λ x. IsHeld (meant meaning_of inhand) (place_of d x)) (sym is) (own_held d (meant meaning_of inhand) asked.fitting.0 r (own d inhand a _ _ asked))
      own_alone p (inr later) = absurd (subst (IsAmong p) none later)

  module _ (owns : OwnsWindow d inhand r None) where
    none_here : window_of at_all (runner_in r) ≡ None
    none_here = ap (λ (t : State). window_of t (runner_in r)) (sym (back d asked.fitting.0 (sound d inhand a _ _ asked))) ∙ owns.1 asked.fitting.0 (sound d inhand a _ _ asked) (fits d inhand a _ _ asked)

    none_seen : owned_window (seen_in at_all) (runner_in r) ≡ None
    none_seen = by_runner r none_here
      where
        by_runner : (x : Runner) → window_of at_all (runner_in x) ≡ None → owned_window (seen_in at_all) (runner_in x) ≡ None
        by_runner (by.App m) e = e
        by_runner (by.Looper v) e = e

    no_parts : (now : Option Message) (x : Request) → is_own x ≡ true → parts_for (seen_in at_all) (runner_in r) (wish_in now x) ≡ []
    no_parts now request.Unlock e = ap (maybe part.looper) none_seen
    no_parts now request.Flush e = ap (λ o. maybe part.looper o ++ maybe part.link o) none_seen
    no_parts now request.SyncDone e = ap (maybe part.link) none_seen
    no_parts now (request.Draw command) e = ap (maybe part.looper) none_seen
    no_parts now (request.Note text) e = absurd (cc)
    no_parts now (request.Post w target draft) e = absurd (cc)
    no_parts now (request.Send w target draft) e = absurd (cc)
    no_parts now (request.Forward w target) e = absurd (cc)
    no_parts now (request.Reply draft) e = absurd (cc)
    no_parts now request.Claim e = absurd (cc)
    no_parts now (request.Lock w) e = absurd (cc)

    no_act : (now : Option Message) (x : Request) → is_own x ≡ true → wish_act at_all (runner_in r) (wish_in now x) ≡ None
    unfolding wish_act
    no_act now request.Unlock e = ap (option_and_then (λ n. Some (act.Unlock n))) none_here
    no_act now request.Flush e = ap (option_and_then (λ n. with_both (flush_by n) (slice_get at_all.buffers n) (slice_get at_all.links n))) none_here
    no_act now request.SyncDone e = ap (option_and_then (λ n. option_and_then (sync_by n) (slice_get at_all.links n))) none_here
    no_act now (request.Draw command) e = ap (option_and_then (λ n. option_and_then (draw_by n) (slice_get at_all.buffers n))) none_here
    no_act now (request.Note text) e = absurd (cc)
    no_act now (request.Post w target draft) e = absurd (cc)
    no_act now (request.Send w target draft) e = absurd (cc)
    no_act now (request.Forward w target) e = absurd (cc)
    no_act now (request.Reply draft) e = absurd (cc)
    no_act now request.Claim e = absurd (cc)
    no_act now (request.Lock w) e = absurd (cc)

    acts_not : is_own q ≡ true → want_act d at_all for_all ≡ None
    unfolding want_act
    acts_not e = no_act (message_of at_all (machine.runner (runner_in r))) q e

    pub owns_none : is_own q ≡ true → CannotAct d (meant meaning_of inhand) a
    owns_none e = idle (no_parts (message_of at_all (machine.runner (runner_in r))) q e) (acts_not e)

-- ---- replies of an application, and claims of a looper, that no script has

module _ (d : Declared) (inhand : List (ℕ × parts.Part)) (a m : ℕ) (draft : Bor DraftWords) (asked : IsAsked d inhand a (who.Runner (by.App m)) (want.Asks (by.App m) (request.Reply draft))) where
  no_reply : want_act d (s d inhand a _ _ asked) (wants.asks (machine.app m) (wish.Reply (filled draft.now None))) ≡ None
  unfolding want_act wish_act
  no_reply = refl

  pub app_replies_not : CannotAct d (meant meaning_of inhand) a
  app_replies_not = idle d inhand a (by.App m) (request.Reply draft) asked refl no_reply

module _ (d : Declared) (inhand : List (ℕ × parts.Part)) (a w : ℕ) (asked : IsAsked d inhand a (who.Runner (by.Looper w)) (want.Asks (by.Looper w) request.Claim)) where
  no_claim : want_act d (s d inhand a _ _ asked) (wants.asks (machine.looper w) wish.Claim) ≡ None
  unfolding want_act wish_act
  no_claim = refl

  pub looper_claims_not : CannotAct d (meant meaning_of inhand) a
  looper_claims_not = idle d inhand a (by.Looper w) request.Claim asked refl no_claim
