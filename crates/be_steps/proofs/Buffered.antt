-- A runner that changes the buffer of the looper that it owns, and goes on.
use Rattle.std.proofs.Common.{◌≡◌, ℕ, ◌+◌, ◌≤◌, Bool, true, false, List, Option, Some, None, ◌⊎◌, inl, inr, ⊎_elim, refl, sym, ap, ◌∙◌, subst, arith}
use Rattle.std.specs.Prelude.{option_and_then, slice_get, unwrap_or, if◌then◌else◌}
use Rattle.std.proofs.lemmas.Option.{same_Some}
use Rattle.be_actor.specs.declared.Place.{Place}
use Rattle.be_actor.specs.declared.Wish.{Wish}
use Rattle.be_asking.proofs.Small.{small_buffer}
use Rattle.be_asking.specs.Acts.{OwnsWindow}
use Rattle.be_asking.specs.Wants.{activity_in, message_of, runner_in, wish_in}
use Rattle.be_asking.specs.declared.activity.Activity.TheVariants as who
use Rattle.be_asking.specs.declared.activity.Runner.{Runner}
use Rattle.be_asking.specs.declared.activity.Runner.TheVariants.{App, Looper}
use Rattle.be_asking.specs.declared.want.Request.{Request}
use Rattle.be_asking.specs.declared.want.Want.TheVariants as want
use Rattle.be_hall.proofs.Holding.{with_here, with_other}
use Rattle.be_hall.specs.Hands.{part_at, with_part}
use Rattle.be_link.specs.Queues.{Buffer, empty_buffer, is_full}
use Rattle.be_machine.specs.declared.Act.{Act}
use Rattle.be_machine.specs.declared.Act.TheVariants as act
use Rattle.be_machine.specs.Lists.{at}
use Rattle.be_machine.specs.Program.{moved_on, window_of}
use Rattle.be_machine.specs.State.{State}
use Rattle.be_machine.specs.Step.{is_accepted_wish, met}
use Rattle.be_machine.specs.Touched as part
use Rattle.be_machine.specs.Touched.{own_part}
use Rattle.be_message.specs.Messages.{Message}
use Rattle.be_parts.specs.Effects.{buffer_with}
use Rattle.be_parts.specs.Kept.{Kept}
use Rattle.be_parts.specs.Loopers.{buffer_of}
use Rattle.be_parts.specs.Parts.{meaning_of}
use Rattle.be_parts.specs.declared.part.Part.{Part}
use Rattle.be_parts.specs.declared.part.Part.TheVariants as kinds
use Rattle.be_rules.specs.Places.{IsPart, place_of}
use Rattle.be_rules.specs.Rules.{SliceFits}
use Rattle.be_rules.specs.Slices.{Slice, buffer_in, slice_of}
use Rattle.be_rules.specs.Slices as sl
use Rattle.be_script.specs.Script.{Declared}
use Rattle.be_steps.proofs.Apart.{apart}
use Rattle.be_steps.proofs.Gone.{own_is, own_means, own_there}
use Rattle.be_steps.proofs.Making.{now, read, then_is}
use Rattle.be_steps.proofs.Moved.{asks, at_map, grant, own_right, past_buffered}
use Rattle.be_steps.proofs.OwnWindow.{window_now}
use Rattle.be_steps.specs.Going.{HasOwn, IsPast, gone_to, own_kind}
use Rattle.be_steps.specs.Steps.{IsAllowed}

-- ---- room

not_full : (b : Bool) (made : Act) (given : Act) → (if b then None else Some made) ≡ Some given → b ≡ false
not_full true made given e = absurd (cc)
not_full false made given e = refl

pub room : (w : ℕ) (o : Option Buffer) (given : Act) → option_and_then (λ b. if is_full b then None else Some (act.Draw w (b.made + 1))) o ≡ Some given → is_full (unwrap_or o empty_buffer) ≡ false
room w (Some b) given e = not_full (is_full b) (act.Draw w (b.made + 1)) given e
room w None given e = absurd (cc)

pub few_made : (n : ℕ) (slice : Slice) → SliceFits n slice → (buffer_of slice).made ≤ n
few_made n slice fits = by (buffer_in slice) refl
  where
    by : (o : Option Buffer) → buffer_in slice ≡ o → (unwrap_or o empty_buffer).made ≤ n
    by (Some b) e = small_buffer n slice b fits e
    by None e = omega arith

-- ---- in the machine

-- the buffer of one window is another; applications and loopers are as they were
pub record IsBuffered (s t : State) (w : ℕ) (f : Buffer → Buffer) : Type 0 where
  pub apps : t.apps ≡ s.apps
  pub loopers : t.loopers ≡ s.loopers
  pub buffers : t.buffers ≡ at s.buffers w f

-- the part of a runner that owns the looper
abbrev pub buffered_in : Runner → (Buffer → Buffer) → Slice → Slice
buffered_in (App m) f slice = slice
buffered_in (Looper w) f slice = buffer_with f slice

looper_buffered : (s t : State) (w : ℕ) (f : Buffer → Buffer) → IsBuffered s t w f → slice_of t (part.looper w) ≡ buffer_with f (slice_of s (part.looper w))
looper_buffered s t w f is =
    (λ i. sl.looper w (slice_get (is.loopers i) w) (slice_get (is.buffers i) w))
    ∙ ap (sl.looper w (slice_get s.loopers w)) (at_map s.buffers w f)

own_buffered : (r : Runner) (s t : State) (w : ℕ) (f : Buffer → Buffer) → window_of s (runner_in r) ≡ Some w → IsBuffered s t w f → slice_of t (own_part (runner_in r)) ≡ buffered_in r f (slice_of s (own_part (runner_in r)))
own_buffered (App m) s t w f owns is = ap (λ l. sl.cell m (slice_get l m)) is.apps
own_buffered (Looper v) s t w f owns is =
    looper_buffered s t v f (subst (λ n. IsBuffered s t n f) (sym (same_Some v w owns)) is)

moved_looper : (d : Declared) (r : Runner) (accepted : Bool) (wish : Wish) (s t : State) (w : ℕ) → window_of s (runner_in r) ≡ Some w → (part.looper w ≡ own_part (runner_in r)) ⊎ (slice_of (moved_on d (runner_in r) accepted wish t) (part.looper w) ≡ slice_of t (part.looper w))
unfolding moved_on
moved_looper d (App m) accepted wish s t w owns = inr refl
moved_looper d (Looper v) accepted wish s t w owns = inl (ap part.looper (sym (same_Some v w owns)))

-- ---- by runner

cell_not_looper : (m w : ℕ) → part.cell m ≡ part.looper w → ⊥
cell_not_looper m w e = absurd (cc)

abbrev slice_as : Slice → Option Part → Slice
slice_as other (Some (kinds.Looper k)) = k.slice
slice_as other (Some (kinds.Desk x)) = other
slice_as other (Some (kinds.Input x)) = other
slice_as other (Some (kinds.Cell x)) = other
slice_as other (Some (kinds.Port x)) = other
slice_as other (Some (kinds.Link x)) = other
slice_as other (Some (kinds.Pane x)) = other
slice_as other None = other

module _ (d : Declared) (parts : List (ℕ × Part)) (w : ℕ) (f : Buffer → Buffer) (was is : Kept) (there : IsPart d (part.looper w)) (here : part_at parts (place_of d (part.looper w)) ≡ Some (kinds.Looper was)) (slice : is.slice ≡ buffer_with f was.slice) where
  -- the looper with its new buffer among the parts in hand
  abbrev pub changed : List (ℕ × Part)
  changed = with_part parts (place_of d (part.looper w)) (kinds.Looper is)

  at_looper : part_at changed (place_of d (part.looper w)) ≡ Some (kinds.Looper is)
  at_looper = with_here parts (place_of d (part.looper w)) (kinds.Looper was) (kinds.Looper is) here

  app_stays : (m : ℕ) → IsPart d (part.cell m) → part_at changed (place_of d (part.cell m)) ≡ part_at parts (place_of d (part.cell m))
  app_stays m cell = with_other parts (place_of d (part.looper w)) (place_of d (part.cell m)) (kinds.Looper is) (apart d (part.cell m) (part.looper w) cell there (cell_not_looper m w))

  same_place : (v : ℕ) → v ≡ w → place_of d (part.looper v) ≡ place_of d (part.looper w)
  same_place v e = ap (λ n. place_of d (part.looper n)) e

  -- the runner's own part is still in hand
  pub has_own : (r : Runner) (s : State) → window_of s (runner_in r) ≡ Some w → IsPart d (own_part (runner_in r)) → HasOwn d parts r → HasOwn d changed r
  has_own (App m) s owns own has = (has.0, app_stays m own ∙ has.1)
  has_own (Looper v) s owns own has = (is, ap (part_at changed) (same_place v (same_Some v w owns)) ∙ at_looper)

  -- what it was
  pub own_was : (r : Runner) (s : State) → window_of s (runner_in r) ≡ Some w → IsPart d (own_part (runner_in r)) → (k : Kept) → part_at changed (place_of d (own_part (runner_in r))) ≡ Some (own_kind r k)
      → (old : Kept) × (part_at parts (place_of d (own_part (runner_in r))) ≡ Some (own_kind r old)) × (k.slice ≡ buffered_in r f old.slice)
  own_was (App m) s owns own k at = (k, sym (app_stays m own) ∙ at, refl)
  own_was (Looper v) s owns own k at =
      let same = same_place v (same_Some v w owns) in (
        was,
        ap (part_at parts) same ∙ here,
        ap (slice_as k.slice) (sym at ∙ ap (part_at changed) same ∙ at_looper) ∙ slice,
      )

past_buffered_in : (d : Declared) (r : Runner) (f : Buffer → Buffer) (wish : Wish) (slice : Slice) (place : Place) → IsPast d r slice false wish place → IsPast d r (buffered_in r f slice) false wish place
past_buffered_in d (App m) f wish slice place is = is
past_buffered_in d (Looper w) f wish slice place is = past_buffered d w f false wish slice place is

-- ---- the step

module _ (d : Declared) (inhand : List (ℕ × Part)) (runner : Runner) (request : Request) (allowed : IsAllowed d inhand (who.Runner runner) (want.Asks runner request)) (w : ℕ) (owns : OwnsWindow d inhand runner (Some w)) (f : Buffer → Buffer) where
  abbrev s : State
  s = now d inhand (who.Runner runner) (want.Asks runner request) allowed

  abbrev own : part.Part
  own = own_part (runner_in runner)

  abbrev later : State
  later = then_is d inhand (who.Runner runner) (want.Asks runner request) allowed

  window_is : window_of s (runner_in runner) ≡ Some w
  window_is = window_now d inhand runner request allowed (Some w) owns

  own_part_there : IsPart d own
  own_part_there = (own_there d inhand runner request allowed).reachable.there

  module _ (granted_so : IsBuffered s (grant d inhand runner request allowed) w f) (plain : is_accepted_wish s (runner_in runner) (asks d inhand runner request allowed) ≡ false) (was is : Kept) (there : IsPart d (part.looper w)) (here : part_at inhand (place_of d (part.looper w)) ≡ Some (kinds.Looper was)) (slice : is.slice ≡ buffer_with f was.slice) where
    abbrev between : List (ℕ × Part)
    between = changed d inhand w f was is there here slice

    pub owns_still : HasOwn d inhand runner → HasOwn d between runner
    owns_still has = has_own d inhand w f was is there here slice runner s window_is own_part_there has

    -- the looper's slice, but for a looper that goes on
    pub looper_right : (part.looper w ≡ own) ⊎ (slice_of later (part.looper w) ≡ is.slice)
    unfolding met
    looper_right = ⊎_elim
        (λ same. inl same)
        (λ stays. inr (
        stays
        ∙ looper_buffered s (grant d inhand runner request allowed) w f granted_so
        ∙ ap (buffer_with f) (read d inhand (who.Runner runner) (want.Asks runner request) allowed (part.looper w) (kinds.Looper was) there here)
        ∙ sym slice
        ))
        (moved_looper d runner (is_accepted_wish s (runner_in runner) (asks d inhand runner request allowed)) (asks d inhand runner request allowed) s (grant d inhand runner request allowed) w window_is)

    -- and the runner's own
    pub runner_right : (mid : List (ℕ × Part)) (place : Place) (k l : Kept) → part_at mid (place_of d own) ≡ part_at between (place_of d own)
        → ((o : Kept) → part_at inhand (place_of d own) ≡ Some (own_kind runner o) → (message : Option Message) → IsPast d runner o.slice false (wish_in message request) place)
        → part_at mid (place_of d own) ≡ Some (own_kind runner k) → l.slice ≡ gone_to runner place k.slice → slice_of later own ≡ meaning_of (own_kind runner l)
    runner_right mid place k l same past at goes =
        let before = own_was d inhand w f was is there here slice runner s window_is own_part_there k (sym same ∙ at) in
        own_right d inhand runner request allowed k.slice l.slice false place
        (own_buffered runner s (grant d inhand runner request allowed) w f window_is granted_so
        ∙ ap (buffered_in runner f) (own_is d inhand runner request allowed before.0 before.1)
        ∙ sym before.2)
        plain
        (subst (λ x. IsPast d runner x false (asks d inhand runner request allowed) place) (sym before.2)
        (past_buffered_in d runner f (asks d inhand runner request allowed) before.0.slice place (past before.0 before.1 (message_of s (activity_in (who.Runner runner))))))
        goes
        ∙ sym (own_means runner l)
