-- A buffer that goes over to the link, as a step.
use Rattle.std.proofs.Common.{◌≡◌, ◌≢◌, ℕ, ◌+◌, ◌≤◌, Bool, true, false, List, [], ◌∷◌, ◌++◌, length, Option, Some, None, inl, inr, ⊎_elim, refl, sym, ap, ◌∙◌, subst}
use Rattle.std.specs.Prelude.{option_and_then, slice_get, unwrap_or, if◌then◌else◌}
use Rattle.std.specs.Option.{option_map_or}
use Rattle.be_facts.proofs.Numbers.{nat_le_tells}
use Rattle.be_actor.specs.declared.Place.{Place}
use Rattle.be_actor.specs.declared.Wish.{Wish}
use Rattle.be_asking.specs.Acts.{OwnsWindow}
use Rattle.be_asking.specs.Wants.{runner_in, wish_in}
use Rattle.be_asking.specs.declared.activity.Activity.{Activity}
use Rattle.be_asking.specs.declared.activity.Activity.TheVariants as who
use Rattle.be_asking.specs.declared.activity.Runner.{Runner}
use Rattle.be_asking.specs.declared.activity.Runner.TheVariants as by
use Rattle.be_asking.specs.declared.want.Request.TheVariants as request
use Rattle.be_asking.specs.declared.want.Want.{Want}
use Rattle.be_asking.specs.declared.want.Want.TheVariants as want
use Rattle.be_hall.proofs.Holding.{with_other}
use Rattle.be_hall.specs.Hands.{Hand, part_at, with_part}
use Rattle.be_link.specs.Queues.{Buffer, Numbered, empty_buffer, emptied, fits, lengthened}
use Rattle.be_machine.specs.Commands.{flush_act, flushed, flushed_into}
use Rattle.be_machine.specs.declared.Act.{Act}
use Rattle.be_machine.specs.declared.Act.TheVariants as act
use Rattle.be_machine.specs.Legal.{want_act, wish_act}
use Rattle.be_machine.specs.Lists.{with_both}
use Rattle.be_machine.specs.Program.{moved_on}
use Rattle.be_machine.specs.State.{State}
use Rattle.be_machine.specs.Step.{granted, met}
use Rattle.be_machine.specs.Touched as part
use Rattle.be_machine.specs.Touched.{IsOf, own_part}
use Rattle.be_message.specs.Messages.{Message}
use Rattle.be_parts.specs.Effects.{buffer_with, link_with}
use Rattle.be_parts.specs.Kept.{Kept, Logged}
use Rattle.be_parts.specs.Links.{commands_of}
use Rattle.be_parts.specs.Loopers.{buffer_of}
use Rattle.be_parts.specs.declared.part.Part.{Part}
use Rattle.be_parts.specs.declared.part.Part.TheVariants as kinds
use Rattle.be_rules.specs.Places.{IsPart, place_of}
use Rattle.be_rules.specs.Slices.{Slice, slice_of}
use Rattle.be_rules.specs.Slices as sl
use Rattle.be_rules.specs.Sure.{IsAmong, maybe}
use Rattle.be_script.specs.Script.{Declared}
use Rattle.be_steps.proofs.Apart.{apart}
use Rattle.be_steps.proofs.Buffered.{IsBuffered, looper_right, owns_still, runner_right}
use Rattle.be_steps.proofs.Gone.{own_made, own_there}
use Rattle.be_steps.proofs.Making.{done, granted_now, now, read, then_is, there}
use Rattle.be_steps.proofs.Moved.{asks, at_map, grant}
use Rattle.be_steps.proofs.OwnWindow.{seen_now, window_now}
use Rattle.be_steps.specs.Commands.{HasMoved, HasRoom}
use Rattle.be_steps.specs.Going.{HasGone, HasOwn, IsPast, own_kind}
use Rattle.be_steps.specs.Made.{AreMade}
use Rattle.be_steps.specs.Steps.{IsAllowed, IsDone}
use Rattle.be_steps.specs.There.{IsThere}

-- ---- room

record Fitting (o : Option Buffer) (l : Option (List Numbered)) : Type 0 where
  pub buffer : Buffer
  pub link : List Numbered
  pub has_buffer : o ≡ Some buffer
  pub has_link : l ≡ Some link
  pub room : length buffer.commands + length link ≤ 256

chosen : (b : Bool) (made given : Act) → (if b then Some made else None) ≡ Some given → b ≡ true
chosen true made given e = refl
chosen false made given e = absurd (cc)

fitting : (w : ℕ) (o : Option Buffer) (l : Option (List Numbered)) (given : Act) → with_both (λ b link. if fits b link then Some (act.Flush w (length b.commands)) else None) o l ≡ Some given → Fitting o l
fitting w (Some b) (Some link) given e = record {
  buffer = b;
  link = link;
  has_buffer = refl;
  has_link = refl;
  room = nat_le_tells (length b.commands + length link) 256 (chosen (fits b link) (act.Flush w (length b.commands)) given e);
}
fitting w (Some b) None given e = absurd (cc)
fitting w None l given e = absurd (cc)

looper_not_link : (v w : ℕ) → part.looper v ≡ part.link w → ⊥
looper_not_link v w e = absurd (cc)

own_not_link : (r : Runner) (w : ℕ) → own_part (runner_in r) ≡ part.link w → ⊥
own_not_link (by.App m) w e = absurd (cc)
own_not_link (by.Looper v) w e = absurd (cc)

pub moved_links : (d : Declared) (r : Runner) (accepted : Bool) (wish : Wish) (t : State) → (moved_on d (runner_in r) accepted wish t).links ≡ t.links
unfolding moved_on
moved_links d (by.App m) accepted wish t = refl
moved_links d (by.Looper w) accepted wish t = refl

-- ---- whoever flushes

module _ (d : Declared) (old : Hand Part) (who : Activity) (want : Want) (allowed : IsAllowed d old.parts who want) (w : ℕ) (looper_there : IsPart d (part.looper w)) (link_there : IsPart d (part.link w)) (act_is : flush_act (now d old.parts who want allowed) w ≡ Some allowed.act) where
  abbrev s : State
  s = now d old.parts who want allowed

  abbrev at_looper : ℕ
  at_looper = place_of d (part.looper w)

  abbrev at_link : ℕ
  at_link = place_of d (part.link w)

  fit : Fitting (slice_get s.buffers w) (slice_get s.links w)
  fit = fitting w (slice_get s.buffers w) (slice_get s.links w) allowed.act act_is

  looper_is : (k : Kept) → part_at old.parts at_looper ≡ Some (kinds.Looper k) → slice_of s (part.looper w) ≡ k.slice
  looper_is k at = read d old.parts who want allowed (part.looper w) (kinds.Looper k) looper_there at

  link_is : (l : Slice) → part_at old.parts at_link ≡ Some (kinds.Link l) → slice_of s (part.link w) ≡ l
  link_is l far = read d old.parts who want allowed (part.link w) (kinds.Link l) link_there far

  buffer_was : (k : Kept) → part_at old.parts at_looper ≡ Some (kinds.Looper k) → buffer_of k.slice ≡ fit.buffer
  buffer_was k at = ap buffer_of (sym (looper_is k at)) ∙ ap (λ (o : Option Buffer). unwrap_or o empty_buffer) fit.has_buffer

  link_had : (l : Slice) → part_at old.parts at_link ≡ Some (kinds.Link l) → commands_of l ≡ fit.link
  link_had l far = ap commands_of (sym (link_is l far)) ∙ ap (λ (o : Option (List Numbered)). unwrap_or o []) fit.has_link

  apart_here : at_looper ≢ at_link
  apart_here = apart d (part.looper w) (part.link w) looper_there link_there (looper_not_link w w)

  pub places_apart : (p q : ℕ) → p ≡ at_looper → q ≡ at_link → p ≢ q
  places_apart p q is_p is_q same = apart_here (sym is_p ∙ same ∙ is_q)

  room_here : HasRoom at_looper at_link old.parts
  room_here k l at far = subst (λ n. n ≤ 256) (sym (λ i. length (buffer_was k at i).commands + length (link_had l far i))) fit.room

  pub has_room : (p q : ℕ) → p ≡ at_looper → q ≡ at_link → HasRoom p q old.parts
  has_room p q is_p is_q = subst (λ n. HasRoom n q old.parts) (sym is_p) (subst (λ n. HasRoom at_looper n old.parts) (sym is_q) room_here)

  pub moved_here : (p q : ℕ) (new : Hand Part) → p ≡ at_looper → q ≡ at_link → HasMoved p q old new → HasMoved at_looper at_link old new
  moved_here p q new is_p is_q moved = subst (λ n. HasMoved n at_link old new) is_p (subst (λ n. HasMoved p n old new) is_q moved)

  module _ (new : Hand Part) (moved : HasMoved at_looper at_link old new) where
    abbrev buffer : Buffer
    buffer = buffer_of moved.was.slice

    abbrev longer : Slice
    longer = link_with (lengthened buffer) moved.before

    abbrev between : List (ℕ × Part)
    between = with_part old.parts at_looper (kinds.Looper moved.is)

    -- the state then
    pub flushed_is : flushed s w ≡ flushed_into s w buffer
    flushed_is = ap (λ o. option_map_or (flushed_into s w) o s) (fit.has_buffer ∙ ap (λ (b : Buffer). Some b) (sym (buffer_was moved.was moved.at_looper)))

    pub link_right : slice_of (flushed s w) (part.link w) ≡ longer
    link_right = ap (λ (t : State). slice_of t (part.link w)) flushed_is ∙ ap (sl.link w) (at_map s.links w (lengthened buffer)) ∙ ap (link_with (lengthened buffer)) (link_is moved.before moved.at_link)

    pub looper_emptied : slice_of (flushed s w) (part.looper w) ≡ moved.is.slice
    looper_emptied = ap (λ (t : State). slice_of t (part.looper w)) flushed_is ∙ ap (sl.looper w (slice_get s.loopers w)) (at_map s.buffers w emptied) ∙ ap (buffer_with emptied) (looper_is moved.was moved.at_looper) ∙ sym moved.buffer

    pub is_buffered : IsBuffered s (flushed s w) w emptied
    is_buffered = subst (λ (t : State). IsBuffered s t w emptied) (sym flushed_is) (record { apps = refl; loopers = refl; buffers = refl })

    link_still : part_at between at_link ≡ Some (kinds.Link moved.before)
    link_still = with_other old.parts at_looper at_link (kinds.Looper moved.is) (λ same. apart_here (sym same)) ∙ moved.at_link

    -- both were made, and then the rest
    pub both_made : (rest : List (part.Part × Part)) (last : List (ℕ × Part)) → AreMade d rest new.parts last → AreMade d ((part.looper w, kinds.Looper moved.is) ∷ (part.link w, kinds.Link longer) ∷ rest) old.parts last
    both_made rest last made = (
      kinds.Looper moved.was,
      moved.at_looper,
      ap (λ (l : Logged). Some l) moved.log,
      (kinds.Link moved.before, link_still, refl, subst (λ (h : Hand Part). AreMade d rest h.parts last) moved.moved made),
    )

    pub same_room : new.room ≡ old.room
    same_room = ap (λ (h : Hand Part). h.room) moved.moved

    -- another part is the same as before the link was changed
    pub beside : (x : part.Part) → IsPart d x → (x ≡ part.link w → ⊥) → part_at new.parts (place_of d x) ≡ part_at between (place_of d x)
    beside x is_part different =
        ap (λ (h : Hand Part). part_at h.parts (place_of d x)) moved.moved
        ∙ with_other between at_link (place_of d x) (kinds.Link longer) (apart d x (part.link w) is_part link_there different)

-- ---- a looper, before it goes on

module _ (d : Declared) (old : Hand Part) (w : ℕ) (allowed : IsAllowed d old.parts (who.Runner (by.Looper w)) (want.Flushes w)) where
  pub flush_looper_there : IsThere d old.parts (part.looper w)
  flush_looper_there = there d old.parts (who.Runner (by.Looper w)) (want.Flushes w) allowed (part.looper w) (inl refl)

  pub flush_link_there : IsThere d old.parts (part.link w)
  flush_link_there = there d old.parts (who.Runner (by.Looper w)) (want.Flushes w) allowed (part.link w) (inr (inl refl))

  pub flush_act_is : flush_act (now d old.parts (who.Runner (by.Looper w)) (want.Flushes w) allowed) w ≡ Some allowed.act
  unfolding want_act
  flush_act_is = granted_now d old.parts (who.Runner (by.Looper w)) (want.Flushes w) allowed

  flush_later : then_is d old.parts (who.Runner (by.Looper w)) (want.Flushes w) allowed ≡ flushed (now d old.parts (who.Runner (by.Looper w)) (want.Flushes w) allowed) w
  unfolding met
  flush_later = refl

  module _ (p q : ℕ) (is_p : p ≡ place_of d (part.looper w)) (is_q : q ≡ place_of d (part.link w)) where
    pub flush_apart : p ≢ q
    flush_apart = places_apart d old (who.Runner (by.Looper w)) (want.Flushes w) allowed w flush_looper_there.reachable.there flush_link_there.reachable.there flush_act_is p q is_p is_q

    pub flush_room : HasRoom p q old.parts
    flush_room = has_room d old (who.Runner (by.Looper w)) (want.Flushes w) allowed w flush_looper_there.reachable.there flush_link_there.reachable.there flush_act_is p q is_p is_q

    pub flush_done : (new : Hand Part) → HasMoved p q old new → IsDone d (who.Runner (by.Looper w)) old new
    flush_done new before =
        let moved = moved_here d old (who.Runner (by.Looper w)) (want.Flushes w) allowed w flush_looper_there.reachable.there flush_link_there.reachable.there flush_act_is p q new is_p is_q before in
        done d old.parts (who.Runner (by.Looper w)) (want.Flushes w) allowed old new
        ((part.looper w, kinds.Looper moved.is) ∷ (part.link w, kinds.Link (link_with (lengthened (buffer_of moved.was.slice)) moved.before)) ∷ [])
        refl (same_room d old (who.Runner (by.Looper w)) (want.Flushes w) allowed w flush_looper_there.reachable.there flush_link_there.reachable.there flush_act_is new moved)
        (both_made d old (who.Runner (by.Looper w)) (want.Flushes w) allowed w flush_looper_there.reachable.there flush_link_there.reachable.there flush_act_is new moved [] new.parts refl) (
          inr (
            flush_looper_there.reachable.there,
            ap (λ (t : State). slice_of t (part.looper w)) flush_later
                ∙ looper_emptied d old (who.Runner (by.Looper w)) (want.Flushes w) allowed w flush_looper_there.reachable.there flush_link_there.reachable.there flush_act_is new moved,
          ),
          (
            inr (
              flush_link_there.reachable.there,
              ap (λ (t : State). slice_of t (part.link w)) flush_later
                  ∙ link_right d old (who.Runner (by.Looper w)) (want.Flushes w) allowed w flush_looper_there.reachable.there flush_link_there.reachable.there flush_act_is new moved,
            ),
            tt,
          ),
        )
        (λ x touched. ⊎_elim (λ is. inl is) (λ is. inr (inl is)) touched)

-- ---- a runner at a flush

module _ (d : Declared) (old : Hand Part) (runner : Runner) (allowed : IsAllowed d old.parts (who.Runner runner) (want.Asks runner request.Flush)) (w : ℕ) (owns : OwnsWindow d old.parts runner (Some w)) where
  abbrev asked_at : State
  asked_at = now d old.parts (who.Runner runner) (want.Asks runner request.Flush) allowed

  abbrev own : part.Part
  own = own_part (runner_in runner)

  asked_there : (x : part.Part) → IsAmong x (part.looper w ∷ part.link w ∷ []) → IsThere d old.parts x
  asked_there x among = there d old.parts (who.Runner runner) (want.Asks runner request.Flush) allowed x
      (inr (subst (λ o. IsAmong x (maybe part.looper o ++ maybe part.link o)) (sym (seen_now d old.parts runner request.Flush allowed (Some w) owns)) among))

  pub asked_looper_there : IsThere d old.parts (part.looper w)
  asked_looper_there = asked_there (part.looper w) (inl refl)

  pub asked_link_there : IsThere d old.parts (part.link w)
  asked_link_there = asked_there (part.link w) (inr (inl refl))

  asked_act : flush_act asked_at w ≡ Some allowed.act
  unfolding want_act wish_act
  asked_act =
      sym (ap (option_and_then (flush_act asked_at)) (window_now d old.parts runner request.Flush allowed (Some w) owns))
      ∙ granted_now d old.parts (who.Runner runner) (want.Asks runner request.Flush) allowed

  asked_grant : grant d old.parts runner request.Flush allowed ≡ flushed asked_at w
  unfolding granted
  asked_grant = ap (λ o. option_map_or (flushed asked_at) o asked_at) (window_now d old.parts runner request.Flush allowed (Some w) owns)

  asked_links : (then_is d old.parts (who.Runner runner) (want.Asks runner request.Flush) allowed).links ≡ (flushed asked_at w).links
  unfolding met
  asked_links = moved_links d runner false (asks d old.parts runner request.Flush allowed) (grant d old.parts runner request.Flush allowed) ∙ ap (λ (t : State). t.links) asked_grant

  module _ (p q : ℕ) (is_p : p ≡ place_of d (part.looper w)) (is_q : q ≡ place_of d (part.link w)) where
    pub asked_apart : p ≢ q
    asked_apart = places_apart d old (who.Runner runner) (want.Asks runner request.Flush) allowed w asked_looper_there.reachable.there asked_link_there.reachable.there asked_act p q is_p is_q

    pub asked_room : HasRoom p q old.parts
    asked_room = has_room d old (who.Runner runner) (want.Asks runner request.Flush) allowed w asked_looper_there.reachable.there asked_link_there.reachable.there asked_act p q is_p is_q

    module _ (mid : Hand Part) (before : HasMoved p q old mid) where
      moved : HasMoved (place_of d (part.looper w)) (place_of d (part.link w)) old mid
      moved = moved_here d old (who.Runner runner) (want.Asks runner request.Flush) allowed w asked_looper_there.reachable.there asked_link_there.reachable.there asked_act p q mid is_p is_q before

      asked_buffered : IsBuffered asked_at (grant d old.parts runner request.Flush allowed) w emptied
      asked_buffered = subst (λ (t : State). IsBuffered asked_at t w emptied) (sym asked_grant)
          (is_buffered d old (who.Runner runner) (want.Asks runner request.Flush) allowed w asked_looper_there.reachable.there asked_link_there.reachable.there asked_act mid moved)

      own_beside : part_at mid.parts (place_of d own) ≡ part_at (with_part old.parts (place_of d (part.looper w)) (kinds.Looper moved.is)) (place_of d own)
      own_beside = beside d old (who.Runner runner) (want.Asks runner request.Flush) allowed w asked_looper_there.reachable.there asked_link_there.reachable.there asked_act mid moved own
          (own_there d old.parts runner request.Flush allowed).reachable.there (own_not_link runner w)

      pub asked_own : HasOwn d old.parts runner → HasOwn d mid.parts runner
      asked_own has =
          let still = owns_still d old.parts runner request.Flush allowed w owns emptied asked_buffered refl moved.was moved.is asked_looper_there.reachable.there moved.at_looper moved.buffer has in
          (still.0, own_beside ∙ still.1)

      pub asked_done : (place : Place) (new : Hand Part)
          → ((k : Kept) → part_at old.parts (place_of d own) ≡ Some (own_kind runner k) → (message : Option Message) → IsPast d runner k.slice false (wish_in message request.Flush) place)
          → HasGone d runner place mid new → IsDone d (who.Runner runner) old new
      asked_done place new past gone =
          done d old.parts (who.Runner runner) (want.Asks runner request.Flush) allowed old new
          ((part.looper w, kinds.Looper moved.is) ∷ (part.link w, kinds.Link (link_with (lengthened (buffer_of moved.was.slice)) moved.before)) ∷ (own, own_kind runner gone.1) ∷ [])
          refl
          (ap (λ (h : Hand Part). h.room) gone.3 ∙ same_room d old (who.Runner runner) (want.Asks runner request.Flush) allowed w asked_looper_there.reachable.there asked_link_there.reachable.there asked_act mid moved)
          (both_made d old (who.Runner runner) (want.Asks runner request.Flush) allowed w asked_looper_there.reachable.there asked_link_there.reachable.there asked_act mid moved
          ((own, own_kind runner gone.1) ∷ []) new.parts (own_made d runner (λ slice. slice) place mid new gone)) (
            ⊎_elim (λ itself. inl (inr (inl itself))) (λ right. inr (asked_looper_there.reachable.there, right))
                (looper_right d old.parts runner request.Flush allowed w owns emptied asked_buffered refl moved.was moved.is asked_looper_there.reachable.there moved.at_looper moved.buffer),
            (
              inr (
                asked_link_there.reachable.there,
                ap (λ l. sl.link w (slice_get l w)) asked_links
                    ∙ link_right d old (who.Runner runner) (want.Asks runner request.Flush) allowed w asked_looper_there.reachable.there asked_link_there.reachable.there asked_act mid moved,
              ),
              (
                inr (
                  (own_there d old.parts runner request.Flush allowed).reachable.there,
                  runner_right d old.parts runner request.Flush allowed w owns emptied asked_buffered refl moved.was moved.is asked_looper_there.reachable.there moved.at_looper moved.buffer
                      mid.parts place gone.0 gone.1 own_beside past gone.2 gone.4,
                ),
                tt,
              ),
            ),
          )
          (λ x touched. ⊎_elim
          (λ mine. inr (inr (inl mine)))
          (λ other. ⊎_elim
          (λ looper. inl (subst (λ o. IsOf part.looper o x) (window_now d old.parts runner request.Flush allowed (Some w) owns) looper))
          (λ link. inr (inl (subst (λ o. IsOf part.link o x) (window_now d old.parts runner request.Flush allowed (Some w) owns) link)))
          other)
          touched)
